-- The walk around the mirror images of a quarter meets them in the order of WalkOrder, so that no corner of the polygon stands in its list twice.
use mathlib.Core.Path.{◌≡◌, refl, sym, ◌∙◌}
use mathlib.Core.Logic.{◌⊎◌, inl, inr}
use mathlib.Core.List.Memᴰ
use mathlib.Core.List.{List, [], ◌∷◌, map}
use native.Mathlib.Omega.{arith}
use lib.IntN.{ℤ, pos, neg_ℤ}
use Rattle.integers.specs.Orders.{◌≼◌, ◌≺◌}
use Rattle.integers.specs.Count.{◌∈◌, NoDup}
use Rattle.integers.proofs.Ring.{ring, reify}
use Rattle.integers.proofs.Order.{lt_le, le_or_lt}
use Rattle.plane.specs.Point.{Pt, pt}
use Rattle.pen.specs.Polygon.{flipped, turned, up_and_back}
use Rattle.pen.proofs.Images.{onwards, neg_neg}
use Rattle.pen.proofs.Fits.{Rises, Steps, IsQuarter}
use Rattle.pen.proofs.Whole.{ring_of}
use Rattle.pen.proofs.WalkOrder.{RightHalf, Before, upward, over, downward, InOrder, ends, closes, stays, goes, once_distinct}

-- ---- the numbers of a corner and of its mirror images
left_of : (x : ℤ) → pos 0 ≺ x → neg_ℤ x ≺ pos 0
left_of = ring 1 _ (λ ρ. simp (reify, ρ) (omega arith))

above : (y : ℤ) → y ≺ pos 0 → pos 0 ≺ neg_ℤ y
above = ring 1 _ (λ ρ. simp (reify, ρ) (omega arith))

rises : (y : ℤ) → y ≺ pos 0 → y ≺ neg_ℤ y
rises = ring 1 _ (λ ρ. simp (reify, ρ) (omega arith))

falls : (y : ℤ) → y ≺ pos 0 → neg_ℤ (neg_ℤ y) ≺ neg_ℤ y
falls = ring 1 _ (λ ρ. simp (reify, ρ) (omega arith))

neg_lt : (y z : ℤ) → y ≺ z → neg_ℤ z ≺ neg_ℤ y
neg_lt = ring 2 _ (simp reify (omega arith))

neg_neg_lt : (y z : ℤ) → y ≺ z → neg_ℤ (neg_ℤ y) ≺ neg_ℤ (neg_ℤ z)
neg_neg_lt = ring 2 _ (simp reify (omega arith))

beyond : (x z : ℤ) → pos 0 ≼ x → x ≺ z → pos 0 ≺ z
beyond = ring 2 _ (λ ρ. simp (reify, ρ) (omega arith))

at_least_1 : (x d : ℤ) → x ≡ d → pos 1 ≼ d → pos 0 ≺ x
at_least_1 = ring 2 _ (λ ρ. simp (reify, ρ) (omega arith))

below_0 : (y d : ℤ) → y ≡ neg_ℤ d → pos 1 ≼ d → y ≺ pos 0
below_0 = ring 2 _ (λ ρ. simp (reify, ρ) (omega arith))

-- on an axis
zero : (x : ℤ) → pos 0 ≼ x → x ≼ pos 0 → x ≡ pos 0
zero = ring 1 _ (λ ρ. simp (reify, ρ) (omega arith))

zero_opposite : (x : ℤ) → x ≡ pos 0 → x ≡ neg_ℤ x
zero_opposite = ring 1 _ (λ ρ. simp (reify, ρ) (omega arith))

-- ---- both sides, from a corner p to the right of the y axis: up to the last corner of the quarter, and back to p's mirror image
module _ (D : ℤ) (all : List Pt) (f : Pt) where
  -- the last corner is its own mirror image where it is on the x axis
  right_end : (p : Pt) {l : List Pt} → pos 0 ≺ p.x → p.y ≼ pos 0 → InOrder f (flipped p) l → InOrder f p (flipped p ∷ l)
  right_end p {l} h k n = go (le_or_lt (pos 0) p.y)
    where
      go : (pos 0 ≼ p.y) ⊎ (p.y ≺ pos 0) → InOrder f p (flipped p ∷ l)
      go (inl j) = stays (λ i. pt p.x (zero_opposite p.y (zero p.y j k) i)) n
      go (inr j) = goes (upward (inl h) (inl h) (rises p.y j)) n

  right_side : (p : Pt) (r l : List Pt) → pos 0 ≺ p.x → ((z : Pt) → z ∈ p ∷ r → z.y ≼ pos 0) → Steps (Rises all) D p r →
      InOrder f (flipped p) l → InOrder f p (up_and_back r (flipped p ∷ l))
  unfolding up_and_back
  right_side p [] l h k s n = right_end p h (k p (Memᴰ.head refl)) n
  right_side p (d ∷ r) l h k s n =
      let right = beyond p.x d.x (lt_le (pos 0) p.x h) s.0.across in
      goes (upward (inl h) (inl right) s.0.up)
      (right_side d r (flipped p ∷ l) right (λ z m. k z (Memᴰ.tail m)) s.1 (goes (upward (inl right) (inl h) (neg_lt p.y d.y s.0.up)) n))

  -- the same after half a turn
  left_end : (p : Pt) {l : List Pt} → pos 0 ≺ p.x → p.y ≼ pos 0 → InOrder f (turned (flipped p)) l → InOrder f (turned p) (turned (flipped p) ∷ l)
  left_end p {l} h k n = go (le_or_lt (pos 0) p.y)
    where
      go : (pos 0 ≼ p.y) ⊎ (p.y ≺ pos 0) → InOrder f (turned p) (turned (flipped p) ∷ l)
      go (inl j) = stays (λ i. pt (neg_ℤ p.x) (neg_ℤ (zero_opposite p.y (zero p.y j k) i))) n
      go (inr j) = goes (downward (inl (left_of p.x h)) (inl (left_of p.x h)) (falls p.y j)) n

  left_side : (p : Pt) (r l : List Pt) → pos 0 ≺ p.x → ((z : Pt) → z ∈ p ∷ r → z.y ≼ pos 0) → Steps (Rises all) D p r →
      InOrder f (turned (flipped p)) (map turned l) → InOrder f (turned p) (map turned (up_and_back r (flipped p ∷ l)))
  unfolding up_and_back
  left_side p [] l h k s n = left_end p h (k p (Memᴰ.head refl)) n
  left_side p (d ∷ r) l h k s n =
      let right = beyond p.x d.x (lt_le (pos 0) p.x h) s.0.across in
      let left-p = left_of p.x h in
      let left-d = left_of d.x right in
      goes (downward (inl left-p) (inl left-d) (neg_lt p.y d.y s.0.up))
      (left_side d r (flipped p ∷ l) right (λ z m. k z (Memᴰ.tail m)) s.1 (goes (downward (inl left-d) (inl left-p) (neg_neg_lt p.y d.y s.0.up)) n))

-- ---- the whole walk
-- the lowest corner is to the right of the y axis, or on it and below the middle
lowest : {Dx Dy : ℤ} {c : Pt} {q : List Pt} → IsQuarter c q Dx Dy → RightHalf c
lowest {Dx} {Dy} {c} Q = go (le_or_lt c.x (pos 0))
  where
    go : (c.x ≼ pos 0) ⊎ (pos 0 ≺ c.x) → RightHalf c
    go (inl h) = inr (zero c.x (Q.low c (Memᴰ.head refl)).right₀ h, below_0 c.y Dy Q.bottom Q.high₁)
    go (inr h) = inl h

-- from a later corner's image to c's image at the top, over to the left half, and on
module _ (c d : Pt) (right : pos 0 ≺ d.x) (up : c.y ≺ d.y) where
  at_top : {l : List Pt} → RightHalf c → InOrder c (turned c) l → InOrder c (flipped d) (flipped c ∷ turned c ∷ l)
  at_top (inl h) n = goes (upward (inl right) (inl h) (neg_lt c.y d.y up)) (goes (over (inl h) (inl (left_of c.x h))) n)
  at_top (inr h) n =
      goes (over (inl right) (inr (h.0, above c.y h.1)))
      (stays (λ i. pt (zero_opposite c.x h.0 i) (neg_ℤ c.y)) n)

  -- and back to c's image at the bottom, which is c itself where c is on the y axis
  at_bottom : RightHalf c → InOrder c (turned (flipped d)) (turned (flipped c) ∷ [])
  at_bottom (inl h) = goes (downward (inl (left_of d.x right)) (inl (left_of c.x h)) (neg_neg_lt c.y d.y up)) ends
  at_bottom (inr h) = closes (λ i. pt (sym (zero_opposite c.x h.0) i) (neg_neg c.y i))

  to_right : RightHalf c → Before c d
  to_right h = upward h (inl right) up

  to_left : RightHalf c → Before (turned c) (turned d)
  to_left (inl h) = downward (inl (left_of c.x h)) (inl (left_of d.x right)) (neg_lt c.y d.y up)
  to_left (inr h) = downward (inr (sym (zero_opposite c.x h.0) ∙ h.0, above c.y h.1)) (inl (left_of d.x right)) (neg_lt c.y d.y up)

pub in_order : {Dx Dy : ℤ} (c : Pt) (q : List Pt) → IsQuarter c q Dx Dy → InOrder c c (onwards c q)
unfolding up_and_back
in_order {Dx} {Dy} c [] Q =
    let h = at_least_1 c.x Dx Q.steps Q.wide₁ in
    let left = left_of c.x h in
    let low = (Q.low c (Memᴰ.head refl)).below in
    right_end Dx (c ∷ []) c c h low (goes (over (inl h) (inl left)) (left_end Dx (c ∷ []) c c h low ends))
in_order {Dx} {Dy} c (d ∷ r) Q =
    let l = lowest Q in
    let right = beyond c.x d.x (Q.low c (Memᴰ.head refl)).right₀ Q.steps.0.across in
    let up = Q.steps.0.up in
    let below : (z : Pt) → z ∈ d ∷ r → z.y ≼ pos 0 = λ z m. (Q.low z (Memᴰ.tail m)).below in
    goes (to_right c d right up l) (
    right_side Dx (c ∷ d ∷ r) c d r (flipped c ∷ turned c ∷ map turned (up_and_back (d ∷ r) (flipped c ∷ []))) right below Q.steps.1
    (at_top c d right up l (goes (to_left c d right up l) (left_side Dx (c ∷ d ∷ r) c d r (flipped c ∷ []) right below Q.steps.1 (at_bottom c d right up l))))
    )

pub ring_once : {Dx Dy : ℤ} (c : Pt) (q : List Pt) → IsQuarter c q Dx Dy → NoDup (ring_of c q)
ring_once c q Q = (once_distinct c c (onwards c q) (in_order c q Q)).once
