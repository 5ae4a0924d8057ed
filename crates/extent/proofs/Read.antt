-- The greatest a x + b y over the corners that two arrays hold, from the last one back; and how far a corner lies to the right and to the left of a way.
use Prim.Native.Nat.{ℕ, suc, ◌-◌, ◌≤◌, ◌<◌}
use native.Mathlib.Omega.{arith}
use mathlib.Core.Path.{◌≡◌, sym, ap, ◌∙◌}
use mathlib.Core.Logic.{inl, inr}
use mathlib.Core.List.{List}
use lib.ListN.{length, drop, drop_of_length-le}
use lib.IntN.{ℤ, pos, neg_ℤ, ◌+ℤ◌, ◌-ℤ◌, ◌*ℤ◌}
use Rattle.integers.specs.Orders.{◌≼◌}
use Rattle.integers.specs.Compare.{min_z, max_z}
use Rattle.integers.proofs.Ring.{ring, reify}
use Rattle.integers.proofs.Order.{lt_le}
use Rattle.integers.proofs.Tests.{min_case, max_first, max_second}
use Rattle.plane.specs.Point.{corners}
use Rattle.plane.specs.Polygon.{dot}
use Rattle.plane.proofs.Read.{place, corners_long, from_place}
use Rattle.stroke.specs.Sides.{furthest}

-- the greatest over the corners from i on
pub furthest_none : (a b : ℤ) (n : ℕ) (xs ys : List ℤ) → n ≤ length xs → n ≤ length ys → furthest a b (drop n (corners n xs ys)) ≡ pos 0
unfolding furthest
furthest_none a b n xs ys h k = ap (furthest a b) (drop_of_length-le (corners n xs ys) {i = n} (omega (arith, corners_long n xs ys h k)))

pub furthest_more : (a b : ℤ) (n : ℕ) (xs ys : List ℤ) (i : ℕ) → n ≤ length xs → n ≤ length ys → 0 < i → i ≤ n →
    furthest a b (drop (i - 1) (corners n xs ys)) ≡ max_z (dot a b (place xs ys (i - 1))) (furthest a b (drop i (corners n xs ys)))
unfolding furthest
furthest_more a b n xs ys i h k p l =
    let e : suc (i - 1) ≡ i = omega arith in
    ap (furthest a b) (from_place n xs ys (i - 1) h k (omega arith)) ∙ ap (λ (j : ℕ). max_z (dot a b (place xs ys (i - 1))) (furthest a b (drop j (corners n xs ys)))) e

-- ---- the corner (x, y) beside the way (u, v)
-- to its right as the normal (v, -u) says, and less so to its left, where that is (-v, u)
pub to_right : (u v x y : ℤ) → v *ℤ x -ℤ u *ℤ y ≡ v *ℤ x +ℤ neg_ℤ u *ℤ y
to_right = ring 4 _ (simp reify (omega arith))

pub to_left : (u v x y : ℤ) → v *ℤ x -ℤ u *ℤ y ≡ neg_ℤ (neg_ℤ v *ℤ x +ℤ u *ℤ y)
to_left = ring 4 _ (simp reify (omega arith))

-- the least of the opposites is the opposite of the greatest
pub least_of : (x y : ℤ) → min_z (neg_ℤ x) (neg_ℤ y) ≡ neg_ℤ (max_z x y)
least_of x y = elim (min_case (neg_ℤ x) (neg_ℤ y)) [
  | inl h ↦ h.0 ∙ ap neg_ℤ (sym (max_first x y (turned y x h.1)))
  | inr h ↦ h.0 ∙ ap neg_ℤ (sym (max_second x y (turned x y (lt_le (neg_ℤ y) (neg_ℤ x) h.1))))
]
  where
    turned : (x y : ℤ) → neg_ℤ y ≼ neg_ℤ x → x ≼ y
    turned = ring 2 _ (simp reify (omega arith))
