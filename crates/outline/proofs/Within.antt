-- A corner of the pen, put at an end of the segment, is within all sides; and which end a side of the pen is moved to.
use mathlib.Core.Path.{◌≡◌}
use mathlib.Core.List.{List}
use native.Mathlib.Omega.{arith}
use lib.IntN.{ℤ, pos, neg_ℤ, ◌+ℤ◌, ◌-ℤ◌, ◌*ℤ◌}
use Rattle.integers.specs.Orders.{◌≼◌}
use Rattle.integers.specs.Compare.{max_z}
use Rattle.integers.specs.Count.{◌∈◌}
use Rattle.integers.proofs.Ring.{ring, reify}
use Rattle.integers.proofs.Order.{le_refl}
use Rattle.integers.proofs.Tests.{max_first, max_second, max_l, max_r}
use Rattle.plane.specs.Point.{Pt}
use Rattle.plane.specs.Polygon.{Side, dot, PenLaws}
use Rattle.stroke.specs.Sweep.{Seg}
use Rattle.stroke.specs.Sides.{furthest, sides}
use Rattle.stroke.proofs.Sides.{Meets, each_side}
use Rattle.stroke.proofs.Corners.{furthest_bound}
use Rattle.outline.specs.Outline.{Ordered, forward, backward, put}

-- P is within all sides
abbrev pub Within : List Pt → Seg → Pt → Type 0
Within cs g P = (e : Side) → e ∈ sides cs g → Meets P e

-- ---- plain numbers: the corner (zx, zy) at the end (ex, ey), from the corner and the end
put_in : (a b c M ex ey zx zy : ℤ) → a *ℤ zx +ℤ b *ℤ zy ≼ c → a *ℤ ex +ℤ b *ℤ ey ≼ M → a *ℤ (ex +ℤ pos 8 *ℤ zx) +ℤ b *ℤ (ey +ℤ pos 8 *ℤ zy) ≼ pos 8 *ℤ c +ℤ M
put_in = ring 8 _ (λ ρ. simp (reify, ρ) (omega arith))

pub put_on : (a b c M ex ey zx zy : ℤ) → a *ℤ zx +ℤ b *ℤ zy ≡ c → a *ℤ ex +ℤ b *ℤ ey ≡ M → a *ℤ (ex +ℤ pos 8 *ℤ zx) +ℤ b *ℤ (ey +ℤ pos 8 *ℤ zy) ≡ pos 8 *ℤ c +ℤ M
put_on = ring 8 _ (λ ρ. simp (reify, ρ) (omega arith))

-- both ends lie on a line along the path
pub ends_right : (ax ay bx by : ℤ) → (by -ℤ ay) *ℤ bx +ℤ neg_ℤ (bx -ℤ ax) *ℤ by ≡ (by -ℤ ay) *ℤ ax +ℤ neg_ℤ (bx -ℤ ax) *ℤ ay
ends_right = ring 4 _ (simp reify (omega arith))

pub ends_left : (ax ay bx by : ℤ) → neg_ℤ (by -ℤ ay) *ℤ bx +ℤ (bx -ℤ ax) *ℤ by ≡ neg_ℤ (by -ℤ ay) *ℤ ax +ℤ (bx -ℤ ax) *ℤ ay
ends_left = ring 4 _ (simp reify (omega arith))

eq_le : (x y : ℤ) → x ≡ y → x ≼ y
eq_le = ring 2 _ (simp reify (omega arith))

-- ---- the end that a side of the pen is moved to is the one that lies further along its normal
pub further_low : (g : Seg) (a b : ℤ) {lo hi : Pt} → Ordered g lo hi → dot a b hi ≼ dot a b lo → max_z (dot a b g.from) (dot a b g.to) ≡ dot a b lo
further_low g a b (forward _) h = max_first (dot a b g.from) (dot a b g.to) h
further_low g a b (backward _) h = max_second (dot a b g.from) (dot a b g.to) h

pub further_high : (g : Seg) (a b : ℤ) {lo hi : Pt} → Ordered g lo hi → dot a b lo ≼ dot a b hi → max_z (dot a b g.from) (dot a b g.to) ≡ dot a b hi
further_high g a b (forward _) h = max_second (dot a b g.from) (dot a b g.to) h
further_high g a b (backward _) h = max_first (dot a b g.from) (dot a b g.to) h

-- the path from the lower end to the upper one does not fall
pub not_falling : (g : Seg) {lo hi : Pt} → Ordered g lo hi → lo.y ≼ hi.y
not_falling g (forward h) = h
not_falling g (backward h) = h

module _ (cs : List Pt) (Dx Dy : ℤ) (pen : PenLaws cs Dx Dy) (g : Seg) where
  A : Pt
  A = g.from

  B : Pt
  B = g.to

  u : ℤ
  u = B.x -ℤ A.x

  v : ℤ
  v = B.y -ℤ A.y

  -- an end lies no further out than the one that a side is moved to, and along the path as far as the first
  record End (E : Pt) : Type 0 where
    moved_in : (a b : ℤ) → dot a b E ≼ max_z (dot a b A) (dot a b B)
    right_in : dot v (neg_ℤ u) E ≼ dot v (neg_ℤ u) A
    left_in : dot (neg_ℤ v) u E ≼ dot (neg_ℤ v) u A

  -- so a corner there is within every side, since it is within the pen's edges and no further along the path's sides than the furthest
  in_end : {E z : Pt} → End E → z ∈ cs → Within cs g (put E z)
  unfolding A B u v
  in_end {E} {z} h m =
      each_side (Meets (put E z)) cs g (record {
        edgewise = λ e k. put_in e.a e.b e.c _ E.x E.y z.x z.y (pen.convex e z k m) (h.moved_in e.a e.b);
        path = λ _. (
          put_in v (neg_ℤ u) (furthest v (neg_ℤ u) cs) (dot v (neg_ℤ u) A) E.x E.y z.x z.y (furthest_bound v (neg_ℤ u) cs m) h.right_in,
          put_in (neg_ℤ v) u (furthest (neg_ℤ v) u cs) (dot (neg_ℤ v) u A) E.x E.y z.x z.y (furthest_bound (neg_ℤ v) u cs m) h.left_in,
        );
      })

  first : End A
  unfolding A B
  first = record { moved_in = λ a b. max_l (dot a b A) (dot a b B); right_in = le_refl (dot v (neg_ℤ u) A); left_in = le_refl (dot (neg_ℤ v) u A) }

  second : End B
  unfolding A B u v
  second = record {
    moved_in = λ a b. max_r (dot a b A) (dot a b B);
    right_in = eq_le _ _ (ends_right A.x A.y B.x B.y);
    left_in = eq_le _ _ (ends_left A.x A.y B.x B.y);
  }

  pub in_low : {lo hi z : Pt} → Ordered g lo hi → z ∈ cs → Within cs g (put lo z)
  unfolding A B
  in_low (forward _) m = in_end first m
  in_low (backward _) m = in_end second m

  pub in_high : {lo hi z : Pt} → Ordered g lo hi → z ∈ cs → Within cs g (put hi z)
  unfolding A B
  in_high (forward _) m = in_end second m
  in_high (backward _) m = in_end first m
