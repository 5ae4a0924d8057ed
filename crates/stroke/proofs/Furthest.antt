-- The furthest value over the corners in related directions: in t times a direction it is t times as great, in the opposite direction the same, and straight down or up
-- it is the pen's height; and demand 3's c is one of these.
use mathlib.Core.Path.{◌≡◌, refl, ◌∙◌}
use mathlib.Core.List.{List}
use native.Mathlib.Omega.{arith}
use lib.IntN.{ℤ, pos, neg_ℤ, ◌+ℤ◌, ◌-ℤ◌, ◌*ℤ◌}
use Rattle.integers.specs.Orders.{◌≼◌, ◌≺◌}
use Rattle.integers.specs.Count.{◌∈◌}
use Rattle.integers.proofs.Ring.{ring, reify, ◌⊢◌}
use Rattle.integers.proofs.Order.{mul_nn, sub_nn, sub_pos, mul_mono, le_antisymm}
use Rattle.integers.proofs.Signs.{neg_neg, neg_below}
use Rattle.plane.specs.Point.{Pt}
use Rattle.plane.specs.Polygon.{dot, PenLaws}
use Rattle.stroke.specs.Sides.{furthest}
use Rattle.stroke.specs.Theorems.{OffsetGreatest}
use Rattle.stroke.proofs.Corners.{furthest_bound, corner_opposite, furthest_corner}

-- a corner's value in t times a direction, and in the opposite one
scaled : (t a b a' b' x y : ℤ) → a' ≡ t *ℤ a → b' ≡ t *ℤ b → a' *ℤ x +ℤ b' *ℤ y ≡ t *ℤ (a *ℤ x +ℤ b *ℤ y)
scaled = ring 7 _ (λ ρ e f. rw (e, f) (simp reify (omega arith)))

turned : (a b a' b' x y : ℤ) → a' ≡ neg_ℤ a → b' ≡ neg_ℤ b → a' *ℤ x +ℤ b' *ℤ y ≡ a *ℤ neg_ℤ x +ℤ b *ℤ neg_ℤ y
turned = ring 6 _ (λ ρ e f. rw (e, f) (simp reify (omega arith)))

swap : (a b : ℤ) → b ≡ neg_ℤ a → a ≡ neg_ℤ b
swap = ring 2 _ (simp reify (omega arith))

low_corner : (y D : ℤ) → neg_ℤ y ≼ D → neg_ℤ D ≼ y
low_corner = ring 2 _ (simp reify (omega arith))

-- straight down: the lowest corner is the furthest
low_max : (b D x y : ℤ) → b ≺ pos 0 → neg_ℤ D ≼ y → pos 0 *ℤ x +ℤ b *ℤ y ≼ neg_ℤ b *ℤ D
low_max = ring 4 _ (λ ρ hb h. mul_nn (sub_pos hb) (sub_nn h) ⊢ h ⊢ simp (reify, ρ) (omega arith))

low_at : (b D x y : ℤ) → y ≡ neg_ℤ D → pos 0 *ℤ x +ℤ b *ℤ y ≡ neg_ℤ b *ℤ D
low_at = ring 4 _ (λ ρ e. rw e (simp (reify, ρ) (omega arith)))

-- what the direction (u, v) makes of a corner, written as a difference
across : (u v x y : ℤ) → v *ℤ x -ℤ u *ℤ y ≡ v *ℤ x +ℤ neg_ℤ u *ℤ y
across = ring 4 _ (simp reify (omega arith))

module _ (cs : List Pt) (Dx Dy : ℤ) (pen : PenLaws cs Dx Dy) where
  -- no corner lies below the lowest
  pub above_lowest : {z : Pt} → z ∈ cs → neg_ℤ Dy ≼ z.y
  above_lowest {z} m = low_corner z.y Dy (pen.high _ (pen.mirror_y z m))

  -- each of the two is met at a corner, and there the other is no less
  pub furthest_times : (t a b a' b' : ℤ) → pos 0 ≼ t → a' ≡ t *ℤ a → b' ≡ t *ℤ b → furthest a' b' cs ≡ t *ℤ furthest a b cs
  furthest_times t a b a' b' ht e f =
      let z = furthest_corner cs Dx Dy pen a' b' in
      let w = furthest_corner cs Dx Dy pen a b in
      le_antisymm (furthest a' b' cs) (t *ℤ furthest a b cs)
      (rw (← z.2, scaled t a b a' b' z.0.x z.0.y e f) (mul_mono t (dot a b z.0) (furthest a b cs) ht (furthest_bound a b cs z.1)))
      (rw (← w.2, ← scaled t a b a' b' w.0.x w.0.y e f) (furthest_bound a' b' cs w.1))

  -- a corner in the opposite direction is the opposite corner in this one
  turn_le : (a b a' b' : ℤ) → a' ≡ neg_ℤ a → b' ≡ neg_ℤ b → furthest a' b' cs ≼ furthest a b cs
  turn_le a b a' b' e f = let z = furthest_corner cs Dx Dy pen a' b' in rw (← z.2, turned a b a' b' z.0.x z.0.y e f) (furthest_bound a b cs (corner_opposite cs Dx Dy pen z.1))

  pub furthest_turn : (a b a' b' : ℤ) → a' ≡ neg_ℤ a → b' ≡ neg_ℤ b → furthest a' b' cs ≡ furthest a b cs
  furthest_turn a b a' b' e f = le_antisymm (furthest a' b' cs) (furthest a b cs) (turn_le a b a' b' e f) (turn_le a' b' a b (swap a a' e) (swap b b' f))

  -- straight down it is met at the lowest corner
  pub furthest_down : (b : ℤ) → b ≺ pos 0 → furthest (pos 0) b cs ≡ neg_ℤ b *ℤ Dy
  furthest_down b h =
      let z = furthest_corner cs Dx Dy pen (pos 0) b in
      let l = pen.lowest in
      le_antisymm (furthest (pos 0) b cs) (neg_ℤ b *ℤ Dy)
      (rw (← z.2) (low_max b Dy z.0.x z.0.y h (above_lowest z.1)))
      (rw (← low_at b Dy l.0.x l.0.y l.2) (furthest_bound (pos 0) b cs l.1))

  pub furthest_up : (b : ℤ) → pos 0 ≺ b → furthest (pos 0) b cs ≡ b *ℤ Dy
  furthest_up b h = rw (← furthest_turn (pos 0) b (pos 0) (neg_ℤ b) refl refl, furthest_down (neg_ℤ b) (neg_below b h), ← neg_neg b)

-- the furthest value in the direction (v, -u) is met at a corner and bounds every corner
pub offset_greatest : OffsetGreatest
offset_greatest cs Dx Dy pen u v =
    let z = furthest_corner cs Dx Dy pen (pos v) (neg_ℤ u) in
    ((z.0, z.1, across u (pos v) z.0.x z.0.y ∙ z.2), λ w m. rw (across u (pos v) w.x w.y) (furthest_bound (pos v) (neg_ℤ u) cs m))
