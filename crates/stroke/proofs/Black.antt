-- Black is what every side allows: a kept side with its line and a dropped one without. So black by existence is what the test decides.
use mathlib.Core.Path.{◌≡◌, refl}
use mathlib.Core.Logic.{inl, inr, ◌↔◌}
use mathlib.Core.Bool.{Bool, true, false, cond}
use mathlib.Core.List.{List}
use native.Mathlib.Omega.{arith}
use lib.IntN.{ℤ}
use lib.Signed.{le_z, lt_z}
use Rattle.integers.specs.Orders.{◌≼◌, ◌≺◌}
use Rattle.integers.specs.Count.{◌∈◌}
use Rattle.integers.proofs.Ring.{ring, reify}
use Rattle.integers.proofs.Order.{le_or_lt, le_antisymm, lt_le}
use Rattle.integers.proofs.Tests.{le_iff, lt_iff, clash}
use Rattle.plane.specs.Point.{Pt}
use Rattle.plane.specs.Polygon.{Side, dot, PenLaws}
use Rattle.ties.specs.Kept.{kept}
use Rattle.stroke.specs.Sweep.{Seg}
use Rattle.stroke.specs.Sides.{sides}
use Rattle.stroke.specs.Black.{Black}
use Rattle.stroke.specs.Extent.{within, black_test}
use Rattle.stroke.proofs.Lists.{all_iff}
use Rattle.stroke.proofs.Sides.{Meets}
use Rattle.stroke.proofs.Sweep.{sweep_iff}

-- what the side e asks of X
pub record Allows (X : Pt) (e : Side) : Type 0 where
  pub with : kept e.a e.b ≡ true → dot e.a e.b X ≼ e.c
  pub without : kept e.a e.b ≡ false → dot e.a e.b X ≺ e.c

-- what it asks where it is known whether it is kept
pub allows_kept : {X : Pt} {e : Side} → kept e.a e.b ≡ true → Allows X e ↔ (dot e.a e.b X ≼ e.c)
allows_kept k = ((λ h. h.with k), λ m. record { with = λ _. m; without = λ k'. absurd (clash k k') })

pub allows_dropped : {X : Pt} {e : Side} → kept e.a e.b ≡ false → Allows X e ↔ (dot e.a e.b X ≺ e.c)
allows_dropped k = ((λ h. h.without k), λ m. record { with = λ k'. absurd (clash k' k); without = λ _. m })

lt_ne : (a b : ℤ) → a ≺ b → ¬ (a ≡ b)
lt_ne = ring 2 _ (simp reify (omega arith))

module _ (X : Pt) where
  -- within the side, and not on its line unless it is kept
  strict : (e : Side) → Meets X e → (dot e.a e.b X ≡ e.c → kept e.a e.b ≡ true) → Allows X e
  strict e m h = record {
    with = λ _. m;
    without = λ k. elim (le_or_lt e.c (dot e.a e.b X)) [ inl l ↦ absurd (clash (h (le_antisymm (dot e.a e.b X) e.c m l)) k) | inr l ↦ l ];
  }

  pub allows_meets : (e : Side) → Allows X e → Meets X e
  allows_meets e h = go (kept e.a e.b) refl
    where
      go : (t : Bool) → kept e.a e.b ≡ t → Meets X e
      go true k = h.with k
      go false k = lt_le (dot e.a e.b X) e.c (h.without k)

  allows_on : (e : Side) → Allows X e → dot e.a e.b X ≡ e.c → kept e.a e.b ≡ true
  allows_on e h q = go (kept e.a e.b) refl
    where
      go : (t : Bool) → kept e.a e.b ≡ t → kept e.a e.b ≡ true
      go true k = k
      go false k = absurd (lt_ne (dot e.a e.b X) e.c (h.without k) q)

  pub within_iff : (e : Side) → (within X e ≡ true) ↔ Allows X e
  within_iff e = go (kept e.a e.b) refl
    where
      p : ℤ
      p = dot e.a e.b X

      go : (t : Bool) → kept e.a e.b ≡ t → (cond t (le_z p e.c) (lt_z p e.c) ≡ true) ↔ Allows X e
      go true k = ((λ q. (allows_kept k).1 ((le_iff p e.c).0 q)), λ h. (le_iff p e.c).1 (h.with k))
      go false k = ((λ q. (allows_dropped k).1 ((lt_iff p e.c).0 q)), λ h. (lt_iff p e.c).1 (h.without k))

module _ (cs : List Pt) (Dx Dy : ℤ) (pen : PenLaws cs Dx Dy) (g : Seg) (X : Pt) where
  pub black_iff : Black cs g X ↔ ((e : Side) → e ∈ sides cs g → Allows X e)
  black_iff = (
    (λ b e m. strict X e ((sweep_iff cs Dx Dy pen g X).0 b.swept e m) (b.sides_kept e m)),
    λ h. record { swept = (sweep_iff cs Dx Dy pen g X).1 (λ e m. allows_meets X e (h e m)); sides_kept = λ e m. allows_on X e (h e m) },
  )

  pub test_iff : (black_test cs g X ≡ true) ↔ Black cs g X
  unfolding black_test
  test_iff = (
    (λ q. black_iff.1 (λ e m. (within_iff X e).0 ((all_iff (within X) (sides cs g)).0 q e m))),
    λ b. (all_iff (within X) (sides cs g)).1 (λ e m. (within_iff X e).1 (black_iff.0 b e m)),
  )
