-- Every pen has an edge that rises, so that its normal has a rightward part, and one that falls: one of the two edges that meet at a rightmost corner rises, and one of
-- those at a leftmost corner falls.
use mathlib.Core.Path.{◌≡◌}
use mathlib.Core.Logic.{inl, inr}
use mathlib.Core.List.{List}
use native.Mathlib.Omega.{arith}
use lib.IntN.{ℤ, pos, neg_ℤ, ◌+ℤ◌, ◌-ℤ◌, ◌*ℤ◌}
use Rattle.integers.specs.Orders.{◌≼◌, ◌≺◌}
use Rattle.integers.specs.Count.{◌∈◌}
use Rattle.integers.proofs.Ring.{ring, reify, ◌⊢◌}
use Rattle.integers.proofs.Order.{mul_nn, sub_nn, sub_pos, le_or_lt}
use Rattle.plane.specs.Point.{Pt, pt}
use Rattle.plane.specs.Polygon.{Side, edge, edges, PenLaws}
use Rattle.stroke.proofs.Corners.{edge_after, edge_before, ends_level}

-- at a corner with x >= 1, where the edge that ends there came from the left and the one that starts there goes left, one of the two rises: else the middle, which lies
-- above or below, would be outside the one or the other
one_rises : (x y a b a' b' : ℤ) → pos 1 ≼ x → b ≼ pos 0 → pos 0 ≼ b' → pos 1 ≼ a *ℤ x +ℤ b *ℤ y → pos 1 ≼ a' *ℤ x +ℤ b' *ℤ y → a ≼ pos 0 → pos 0 ≺ a'
one_rises x y a b a' b' hx hb hb' hc hc' ha = elim (le_or_lt a' (pos 0)) [
  | inr h ↦ h
  | inl h ↦ elim (le_or_lt (pos 0) y) [ inl k ↦ absurd (above x y a b hx hb hc ha k) | inr k ↦ absurd (below x y a' b' hx hb' hc' h k) ]
]
  where
    above : (x y a b : ℤ) → pos 1 ≼ x → b ≼ pos 0 → pos 1 ≼ a *ℤ x +ℤ b *ℤ y → a ≼ pos 0 → pos 0 ≼ y → ⊥
    above = ring 4 _ (λ ρ hx hb hc ha hy. mul_nn (sub_nn hx) (sub_nn ha) ⊢ mul_nn (sub_nn hb) hy ⊢ ha ⊢ hc ⊢ simp (reify, ρ) (omega arith))

    below : (x y a b : ℤ) → pos 1 ≼ x → pos 0 ≼ b → pos 1 ≼ a *ℤ x +ℤ b *ℤ y → a ≼ pos 0 → y ≺ pos 0 → ⊥
    below = ring 4 _ (λ ρ hx hb hc ha hy. mul_nn (sub_nn hx) (sub_nn ha) ⊢ mul_nn hb (sub_pos hy) ⊢ hb ⊢ ha ⊢ hc ⊢ simp (reify, ρ) (omega arith))

-- the same at the opposite corner, with everything turned by half a turn
opposite : (x y a b : ℤ) → pos 1 ≼ a *ℤ x +ℤ b *ℤ y → pos 1 ≼ neg_ℤ a *ℤ neg_ℤ x +ℤ neg_ℤ b *ℤ neg_ℤ y
opposite = ring 4 _ (λ ρ. simp (reify, ρ) (omega arith))

one_falls : (x y a b a' b' : ℤ) → pos 1 ≼ neg_ℤ x → pos 0 ≼ b → b' ≼ pos 0 → pos 1 ≼ a *ℤ x +ℤ b *ℤ y → pos 1 ≼ a' *ℤ x +ℤ b' *ℤ y → pos 0 ≼ a → a' ≺ pos 0
one_falls x y a b a' b' hx hb hb' hc hc' ha =
    turn a' (one_rises (neg_ℤ x) (neg_ℤ y) (neg_ℤ a) (neg_ℤ b) (neg_ℤ a') (neg_ℤ b') hx (neg_np b hb) (np_neg b' hb') (opposite x y a b hc) (opposite x y a' b' hc') (neg_np a ha))
  where
    neg_np : (b : ℤ) → pos 0 ≼ b → neg_ℤ b ≼ pos 0
    neg_np = ring 1 _ (λ ρ. simp (reify, ρ) (omega arith))

    np_neg : (b : ℤ) → b ≼ pos 0 → pos 0 ≼ neg_ℤ b
    np_neg = ring 1 _ (λ ρ. simp (reify, ρ) (omega arith))

    turn : (a : ℤ) → pos 0 ≺ neg_ℤ a → a ≺ pos 0
    turn = ring 1 _ (λ ρ. simp (reify, ρ) (omega arith))

-- a corner lies no further right than the rightmost one, and no further left than its mirror image
not_right : (p D z : ℤ) → p ≼ D → z ≡ D → p -ℤ z ≼ pos 0
not_right = ring 3 _ (λ ρ. simp (reify, ρ) (omega arith))

from_right : (q D z : ℤ) → q ≼ D → z ≡ D → pos 0 ≼ z -ℤ q
from_right = ring 3 _ (λ ρ. simp (reify, ρ) (omega arith))

not_left : (p D z : ℤ) → neg_ℤ p ≼ D → z ≡ D → pos 0 ≼ p -ℤ neg_ℤ z
not_left = ring 3 _ (λ ρ. simp (reify, ρ) (omega arith))

from_left : (q D z : ℤ) → neg_ℤ q ≼ D → z ≡ D → neg_ℤ z -ℤ q ≼ pos 0
from_left = ring 3 _ (λ ρ. simp (reify, ρ) (omega arith))

-- the leftmost corner lies at -z, with z = D >= 1
twice : (z D : ℤ) → pos 1 ≼ D → z ≡ D → pos 1 ≼ neg_ℤ (neg_ℤ z)
twice = ring 2 _ (λ ρ. simp (reify, ρ) (omega arith))

module _ (cs : List Pt) (Dx Dy : ℤ) (pen : PenLaws cs Dx Dy) where
  pub rising_edge : (e : Side) × (e ∈ edges cs) × (pos 0 ≺ e.a)
  rising_edge =
      let z = pen.rightmost.0 in
      let m = pen.rightmost.1 in
      let p = edge_before cs m in
      let q = edge_after cs m in
      let e = edge p.0 z in
      let f = edge z q.0 in
      elim (le_or_lt e.a (pos 0)) [
        | inr h ↦ (e, p.2, h)
        | inl h ↦ (
          f,
          q.2,
          one_rises z.x z.y e.a e.b f.a f.b (rw pen.rightmost.2 pen.somewide) (not_right p.0.x Dx z.x (pen.wide p.0 p.1) pen.rightmost.2)
              (from_right q.0.x Dx z.x (pen.wide q.0 q.1) pen.rightmost.2) (rw (ends_level p.0.x p.0.y z.x z.y) (pen.thick e p.2)) (pen.thick f q.2) h,
        )
      ]

  pub falling_edge : (e : Side) × (e ∈ edges cs) × (e.a ≺ pos 0)
  falling_edge =
      let r = pen.rightmost.0 in
      let z = pt (neg_ℤ r.x) r.y in
      let m = pen.mirror_x r pen.rightmost.1 in
      let p = edge_before cs m in
      let q = edge_after cs m in
      let e = edge p.0 z in
      let f = edge z q.0 in
      elim (le_or_lt (pos 0) e.a) [
        | inr h ↦ (e, p.2, h)
        | inl h ↦ (
          f,
          q.2,
          one_falls z.x z.y e.a e.b f.a f.b (twice r.x Dx pen.somewide pen.rightmost.2)
              (not_left p.0.x Dx r.x (pen.wide _ (pen.mirror_x p.0 p.1)) pen.rightmost.2)
              (from_left q.0.x Dx r.x (pen.wide _ (pen.mirror_x q.0 q.1)) pen.rightmost.2)
              (rw (ends_level p.0.x p.0.y z.x z.y) (pen.thick e p.2)) (pen.thick f q.2) h,
        )
      ]
