-- A point within every side of a segment is in its sweep; with Inside: in the sweep exactly when within every side.
--
-- Look for a place t = s / k of the way, from 0 to 1, at which the pen covers X. An edge e asks lack <= t give, so that those with give > 0 bound t below, and the others
-- bound it above. Take the greatest of the lower bounds and 0. It is at most 1 by e's side at the far end; it meets each upper bound by that side at the near end, where t
-- is 0, and else by the side along the path that a combination of the two edges' normals is a multiple of.
use mathlib.Core.Path.{◌≡◌, ap}
use mathlib.Core.Logic.{inl, inr, ◌↔◌}
use mathlib.Core.Bool.{false}
use mathlib.Core.List.{List}
use native.Mathlib.Omega.{arith}
use lib.IntN.{ℤ, pos, neg_ℤ, ◌+ℤ◌, ◌-ℤ◌, ◌*ℤ◌}
use lib.Signed.{le_z_yes}
use Rattle.integers.specs.Orders.{◌≼◌, ◌≺◌}
use Rattle.integers.specs.Compare.{max_z}
use Rattle.integers.specs.Count.{◌∈◌}
use Rattle.integers.proofs.Ring.{ring, reify, ◌⊢◌, var}
use Rattle.integers.proofs.Order.{mul_nn, sub_nn, le_or_lt, lt_le}
use Rattle.integers.proofs.Tests.{max_case}
use Rattle.plane.specs.Point.{Pt, same}
use Rattle.plane.specs.Polygon.{Side, dot, edges, PenLaws}
use Rattle.stroke.specs.Sweep.{Seg, Sweep}
use Rattle.stroke.specs.Sides.{furthest, touching, sides}
use Rattle.stroke.proofs.Corners.{furthest_corner}
use Rattle.stroke.proofs.Sides.{Meets, OfSides, sides_each, same_or_differ}
use Rattle.stroke.proofs.Inside.{sweep→sides}
use Rattle.stroke.proofs.Greatest.{Greatest, greatest}

-- ---- two edges together ask no more than a side along the path
pair : (g' β γ M E F H ez fz ce cf : ℤ) → g' ≼ pos 0 → pos 0 ≼ β → pos 0 ≼ γ → M ≼ pos 8 *ℤ H → γ *ℤ M ≡ neg_ℤ g' *ℤ E +ℤ β *ℤ F → γ *ℤ H ≡ neg_ℤ g' *ℤ ez +ℤ β *ℤ fz → ez ≼ ce → fz ≼ cf →
    β *ℤ (F -ℤ pos 8 *ℤ cf) ≼ (E -ℤ pos 8 *ℤ ce) *ℤ g'
pair = ring 11 _ (λ ρ hα hβ hγ h e1 e2 he hf. mul_nn (sub_nn hα) (sub_nn he) ⊢ mul_nn hβ (sub_nn hf) ⊢ mul_nn hγ (sub_nn h) ⊢ e1 ⊢ e2 ⊢ simp (reify, ρ) (omega arith))

-- alpha n_e + beta n_f is gamma (v, -u), with alpha = - n_f . d and beta = n_e . d for the direction d = (u, v)
right_of : (a b a' b' ax ay bx by x y : ℤ) →
    (a' *ℤ b -ℤ a *ℤ b') *ℤ ((by -ℤ ay) *ℤ x +ℤ neg_ℤ (bx -ℤ ax) *ℤ y) ≡
    neg_ℤ (a' *ℤ bx +ℤ b' *ℤ by -ℤ (a' *ℤ ax +ℤ b' *ℤ ay)) *ℤ (a *ℤ x +ℤ b *ℤ y) +ℤ (a *ℤ bx +ℤ b *ℤ by -ℤ (a *ℤ ax +ℤ b *ℤ ay)) *ℤ (a' *ℤ x +ℤ b' *ℤ y)
right_of = ring 10 _ (simp reify (omega arith))

left_of : (a b a' b' ax ay bx by x y : ℤ) →
    neg_ℤ (a' *ℤ b -ℤ a *ℤ b') *ℤ (neg_ℤ (by -ℤ ay) *ℤ x +ℤ (bx -ℤ ax) *ℤ y) ≡
    neg_ℤ (a' *ℤ bx +ℤ b' *ℤ by -ℤ (a' *ℤ ax +ℤ b' *ℤ ay)) *ℤ (a *ℤ x +ℤ b *ℤ y) +ℤ (a *ℤ bx +ℤ b *ℤ by -ℤ (a *ℤ ax +ℤ b *ℤ ay)) *ℤ (a' *ℤ x +ℤ b' *ℤ y)
left_of = ring 10 _ (simp reify (omega arith))

-- ---- a moved edge stands at B where give > 0, at A otherwise
pub max_to : (p q : ℤ) → pos 0 ≺ q -ℤ p → max_z p q ≡ q
max_to p q h = elim (max_case p q) [ inl e ↦ e.0 | inr e ↦ absurd (k p q h e.1) ]
  where
    k : (p q : ℤ) → pos 0 ≺ q -ℤ p → ¬ (q ≺ p)
    k = ring 2 _ (λ ρ. simp (reify, ρ) (omega arith))

pub max_from : (p q : ℤ) → q -ℤ p ≼ pos 0 → max_z p q ≡ p
max_from p q h = elim (max_case p q) [ inl e ↦ k p q (max_z p q) h e.1 e.0 | inr e ↦ e.0 ]
  where
    k : (p q m : ℤ) → q -ℤ p ≼ pos 0 → p ≼ q → m ≡ q → m ≡ p
    k = ring 3 _ (λ ρ. simp (reify, ρ) (omega arith))

-- sides read from A on
at_to : (a b c x y ax ay q : ℤ) → a *ℤ x +ℤ b *ℤ y ≼ pos 8 *ℤ c +ℤ q → a *ℤ (x -ℤ ax) +ℤ b *ℤ (y -ℤ ay) -ℤ pos 8 *ℤ c ≼ q -ℤ (a *ℤ ax +ℤ b *ℤ ay)
at_to = ring 8 _ (λ ρ. simp (reify, ρ) (omega arith))

at_from : (a b c x y ax ay : ℤ) → a *ℤ x +ℤ b *ℤ y ≼ c +ℤ (a *ℤ ax +ℤ b *ℤ ay) → a *ℤ (x -ℤ ax) +ℤ b *ℤ (y -ℤ ay) ≼ c
at_from = ring 7 _ (simp reify (omega arith))

no_lack : (E c : ℤ) → E ≼ pos 8 *ℤ c → E -ℤ pos 8 *ℤ c ≼ pos 0
no_lack = ring 2 _ (λ ρ. simp (reify, ρ) (omega arith))

at_zero : (r g : ℤ) → r ≼ pos 0 → pos 1 *ℤ r ≼ pos 0 *ℤ g
at_zero = ring 2 _ (λ ρ. simp (reify, ρ) (omega arith))

neg_nn : (g : ℤ) → g ≺ pos 0 → pos 0 ≼ neg_ℤ g
neg_nn = ring 1 _ (λ ρ. simp (reify, ρ) (omega arith))

-- where the ends are equal the way gives nothing
no_way : (a b ax ay bx by : ℤ) → ax ≡ bx → ay ≡ by → ¬ (pos 0 ≺ a *ℤ bx +ℤ b *ℤ by -ℤ (a *ℤ ax +ℤ b *ℤ ay))
no_way = ring 6 _ (λ ρ e f h. ap (λ z. var ρ 0 *ℤ z) e ⊢ ap (λ z. var ρ 1 *ℤ z) f ⊢ h ⊢ simp (reify, ρ) (omega arith))

into_pen : (a b c x y ax ay bx by k s : ℤ) →
    k *ℤ (a *ℤ (x -ℤ ax) +ℤ b *ℤ (y -ℤ ay) -ℤ pos 8 *ℤ c) ≼ s *ℤ (a *ℤ bx +ℤ b *ℤ by -ℤ (a *ℤ ax +ℤ b *ℤ ay)) →
    a *ℤ (k *ℤ (x -ℤ ax) -ℤ s *ℤ (bx -ℤ ax)) +ℤ b *ℤ (k *ℤ (y -ℤ ay) -ℤ s *ℤ (by -ℤ ay)) ≼ k *ℤ (pos 8 *ℤ c)
into_pen = ring 11 _ (λ ρ. simp (reify, ρ) (omega arith))

-- ---- the place
-- how much the edge e lacks at A to hold X, and how much of that the way to B gives
abbrev lack : Seg → Pt → Side → ℤ
lack g X e = e.a *ℤ (X.x -ℤ g.from.x) +ℤ e.b *ℤ (X.y -ℤ g.from.y) -ℤ pos 8 *ℤ e.c

abbrev give : Seg → Side → ℤ
give g e = dot e.a e.b g.to -ℤ dot e.a e.b g.from

-- s / k is at most 1 and meets every upper bound
abbrev Low : List Pt → Seg → Pt → ℤ → ℤ → Type 0
Low cs g X s k = (s ≼ k) × ((f : Side) → f ∈ edges cs → give g f ≼ pos 0 → k *ℤ lack g X f ≼ s *ℤ give g f)

module _ (cs : List Pt) (Dx Dy : ℤ) (pen : PenLaws cs Dx Dy) (g : Seg) (X : Pt) (all : OfSides (Meets X) cs g) where
  near : (f : Side) → f ∈ edges cs → give g f ≼ pos 0 → lack g X f ≼ pos 0
  near f m h =
      let A = g.from in
      let k = rw (max_from (dot f.a f.b A) (dot f.a f.b g.to) h) at (all.edgewise f m) in
      no_lack _ f.c (at_from f.a f.b (pos 8 *ℤ f.c) X.x X.y A.x A.y k)

  both : same g.from g.to ≡ false → (e f : Side) → e ∈ edges cs → f ∈ edges cs → pos 0 ≺ give g e → give g f ≼ pos 0 → give g e *ℤ lack g X f ≼ lack g X e *ℤ give g f
  both d e f me mf he hf = elim (le_or_lt (pos 0) (f.a *ℤ e.b -ℤ e.a *ℤ f.b)) [
    | inl h ↦ on _ _ _ h (all.path d).0 (right_of e.a e.b f.a f.b g.from.x g.from.y g.to.x g.to.y)
    | inr h ↦ on _ _ _ (neg_nn _ h) (all.path d).1 (left_of e.a e.b f.a f.b g.from.x g.from.y g.to.x g.to.y)
  ]
    where
      on : (γ a b : ℤ) → pos 0 ≼ γ → Meets X (touching cs g.from a b) →
          ((x y : ℤ) → γ *ℤ (a *ℤ x +ℤ b *ℤ y) ≡ neg_ℤ (give g f) *ℤ (e.a *ℤ x +ℤ e.b *ℤ y) +ℤ give g e *ℤ (f.a *ℤ x +ℤ f.b *ℤ y)) → give g e *ℤ lack g X f ≼ lack g X e *ℤ give g f
      on γ a b hγ t id =
          let A = g.from in
          let T = furthest_corner cs Dx Dy pen a b in
          let z = T.0 in
          let x = X.x -ℤ A.x in
          let y = X.y -ℤ A.y in
          pair (give g f) (give g e) γ (a *ℤ x +ℤ b *ℤ y) (e.a *ℤ x +ℤ e.b *ℤ y) (f.a *ℤ x +ℤ f.b *ℤ y) (furthest a b cs) (dot e.a e.b z) (dot f.a f.b z) e.c f.c
          hf (lt_le (pos 0) (give g e) he) hγ (at_from a b (pos 8 *ℤ furthest a b cs) X.x X.y A.x A.y t) (id x y) (rw T.2 at (id z.x z.y))
          (pen.convex e z me T.1) (pen.convex f z mf T.1)

  low : (e : Side) → e ∈ edges cs → pos 0 ≺ give g e → Low cs g X (lack g X e) (give g e)
  low e m h = elim (same_or_differ g.from g.to) [
    | inl q ↦ absurd (no_way e.a e.b g.from.x g.from.y g.to.x g.to.y q.0 q.1 h)
    | inr d ↦
        let A = g.from in
        let q = dot e.a e.b g.to in
        (at_to e.a e.b e.c X.x X.y A.x A.y q (rw (max_to (dot e.a e.b A) q h) at (all.edgewise e m)), λ f mf hf. both d e f m mf h hf)
  ]

  covered : Sweep cs g X
  covered = record {
    k = t.k;
    s = t.s;
    k_some = t.k_some;
    s_low = t.s_low;
    s_high = t.good.0;
    in_pen = λ e m. into_pen e.a e.b e.c X.x X.y g.from.x g.from.y g.to.x g.to.y t.k t.s (bound e m);
  }
    where
      t : Greatest (lack g X) (give g) (Low cs g X) (edges cs)
      t = greatest (lack g X) (give g) (Low cs g X) (le_z_yes tt, λ f m h. at_zero (lack g X f) (give g f) (near f m h)) (edges cs) (λ e m h _. low e m h)

      bound : (e : Side) → e ∈ edges cs → t.k *ℤ lack g X e ≼ t.s *ℤ give g e
      bound e m = elim (le_or_lt (give g e) (pos 0)) [ inl h ↦ t.good.1 e m h | inr h ↦ t.above e m h ]

pub sweep_iff : (cs : List Pt) (Dx Dy : ℤ) → PenLaws cs Dx Dy → (g : Seg) (X : Pt) → Sweep cs g X ↔ ((e : Side) → e ∈ sides cs g → Meets X e)
sweep_iff cs Dx Dy pen g X = (sweep→sides cs Dx Dy pen g X, λ every. covered cs Dx Dy pen g X (sides_each (Meets X) cs g every))
