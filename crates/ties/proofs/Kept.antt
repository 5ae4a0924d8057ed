-- The rule of kept sides as a fact, its laws, and what it says of a flat side.
use mathlib.Core.Path.{◌≡◌, refl}
use mathlib.Core.Logic.{inl, inr}
use mathlib.Core.Bool.{true, not}
use Prim.Native.Nat.{zero, suc}
use lib.Dec.{leb-zero, leb-suc-suc}
use lib.IntN.{ℤ, pos, negsuc, neg_ℤ, ◌*ℤ◌}
use lib.Signed.{lt_z, clash_ℤ}
use Rattle.integers.specs.Orders.{◌≺◌}
use Rattle.integers.proofs.Order.{le_antisymm}
use Rattle.integers.proofs.Signs.{not_zero, times_above, times_below}
use Rattle.integers.proofs.Tests.{clash, ltz, lt_iff, same_lt}
use Rattle.ties.specs.Kept.{kept}
use Rattle.ties.specs.Theorems.{KeptSays, KeptLaws}

-- by the sign of a
pub kept_says : KeptSays
unfolding kept
kept_says a b = elim (ltz (pos 0) a) [
  | inl h ↦ rw h.0 ((λ _. inl h.1), λ _. refl)
  | inr h ↦ elim (ltz a (pos 0)) [
    | inl k ↦ rw (h.0, k.0) ((λ e. absurd (clash e refl)), λ w. absurd (elim w [ inl p ↦ clash_ℤ p h.1 | inr p ↦ not_zero a k.1 p.0 ]))
    | inr k ↦ rw (h.0, k.0) ((λ e. inr (le_antisymm a (pos 0) h.1 k.1, (lt_iff (pos 0) b).0 e)), λ w. elim w [ inl p ↦ clash_ℤ p h.1 | inr p ↦ (lt_iff (pos 0) b).1 p.1 ])
  ]
]

-- by the signs of a and b: both tests compute
one : (a b : ℤ) → ¬ ((a ≡ pos 0) × (b ≡ pos 0)) → kept (neg_ℤ a) (neg_ℤ b) ≡ not (kept a b)
unfolding kept
one (pos zero) (pos zero) h = absurd (h (refl, refl))
one (pos zero) (pos (suc n)) h = rw (leb-suc-suc 0 n, leb-zero n)
one (pos zero) (negsuc n) h = rw (leb-suc-suc 0 n, leb-zero n)
one (pos (suc m)) b h = rw (leb-suc-suc 0 m, leb-zero m)
one (negsuc m) b h = rw (leb-suc-suc 0 m, leb-zero m)

-- no sign changes
times : (t a b : ℤ) → pos 0 ≺ t → kept (t *ℤ a) (t *ℤ b) ≡ kept a b
unfolding kept
times t a b h = rw (same_lt (times_above t a h), same_lt (times_below t a h), same_lt (times_above t b h))

rightward : (a b : ℤ) → pos 0 ≺ a → kept a b ≡ true
unfolding kept
rightward a b h = rw ((lt_iff (pos 0) a).1 h)

pub kept_laws : KeptLaws
kept_laws = record { one = one; rightward = rightward; times = times }

-- of a flat side the part upwards decides
pub kept_flat : (b : ℤ) → kept (pos 0) b ≡ lt_z (pos 0) b
unfolding kept
kept_flat b = refl
