-- A black centre lies no further to the right of a segment's ends than half the pen's width, and to the left less far: the point a little left of it lies in the sweep
-- too (`BlackBeside`), and the sweep reaches no further to the left than half the pen's width.
use mathlib.Core.List.{List, map}
use native.Mathlib.Omega.{arith}
use lib.IntN.{ℤ, pos, negsuc, neg_ℤ, ◌+ℤ◌, ◌-ℤ◌, ◌*ℤ◌}
use mathlib.Core.Logic.{inl, inr}
use Rattle.integers.specs.Orders.{◌≼◌, ◌≺◌}
use Rattle.integers.specs.Compare.{min_z, max_z}
use Rattle.integers.proofs.Ring.{ring, reify, ◌⊢◌}
use Rattle.integers.proofs.Order.{mul_nn, mul_mono, sub_nn, lt_le, le_or_lt}
use Rattle.integers.proofs.Signs.{square_pos}
use Rattle.integers.proofs.Tests.{max_l, max_r, min_l, min_r}
use Rattle.plane.specs.Point.{Pt}
use Rattle.plane.specs.Polygon.{PenLaws}
use Rattle.stroke.specs.Sweep.{Seg, Sweep}
use Rattle.stroke.specs.Sides.{furthest}
use Rattle.stroke.specs.Black.{Black}
use Rattle.stroke.specs.Beside.{larger, larger_seg, beside}
use Rattle.stroke.specs.Theorems.{BlackSideways}
use Rattle.stroke.proofs.Corners.{furthest_corner}
use Rattle.stroke.proofs.Inside.{outermost}
use Rattle.stroke.proofs.Support.{one_lt}
use Rattle.stroke.proofs.Enlarged.{pen_larger}
use Rattle.stroke.proofs.Beside.{black_beside}

-- ---- from the bound in the direction right, and in the direction left
rightward : (x y F M D : ℤ) → pos 1 *ℤ x +ℤ pos 0 *ℤ y ≼ pos 8 *ℤ F +ℤ M → F ≼ D → x ≼ M +ℤ pos 8 *ℤ D
rightward = ring 5 _ (λ ρ. simp (reify, ρ) (omega arith))

leftward : (x y F m D : ℤ) → negsuc 0 *ℤ x +ℤ pos 0 *ℤ y ≼ pos 8 *ℤ F +ℤ neg_ℤ m → F ≼ D → m -ℤ pos 8 *ℤ D ≼ x
leftward = ring 5 _ (λ ρ. simp (reify, ρ) (omega arith))

at_right : (x y m : ℤ) → x ≼ m → pos 1 *ℤ x +ℤ pos 0 *ℤ y ≼ m
at_right = ring 3 _ (λ ρ. simp (reify, ρ) (omega arith))

at_left : (x y m : ℤ) → m ≼ x → negsuc 0 *ℤ x +ℤ pos 0 *ℤ y ≼ neg_ℤ m
at_left = ring 3 _ (λ ρ. simp (reify, ρ) (omega arith))

left_most : (x y m : ℤ) → neg_ℤ x ≼ m → negsuc 0 *ℤ x +ℤ pos 0 *ℤ y ≼ m
left_most = ring 3 _ (λ ρ. simp (reify, ρ) (omega arith))

module _ (cs : List Pt) (Dx Dy : ℤ) (pen : PenLaws cs Dx Dy) where
  rightmost : furthest (pos 1) (pos 0) cs ≼ Dx
  rightmost = let t = furthest_corner cs Dx Dy pen (pos 1) (pos 0) in rw (← t.2) (at_right t.0.x t.0.y Dx (pen.wide t.0 t.1))

  leftmost : furthest (negsuc 0) (pos 0) cs ≼ Dx
  leftmost = let t = furthest_corner cs Dx Dy pen (negsuc 0) (pos 0) in rw (← t.2) (left_most t.0.x t.0.y Dx (pen.wide _ (pen.mirror_x t.0 t.1)))

  -- ---- the sweep: neither end lies to the right of M, and none to the left of m
  module _ (g : Seg) (X : Pt) (w : Sweep cs g X) where
    sweep_right : (M : ℤ) → g.from.x ≼ M → g.to.x ≼ M → X.x ≼ M +ℤ pos 8 *ℤ Dx
    sweep_right M a b =
        rightward X.x X.y (furthest (pos 1) (pos 0) cs) M Dx
        (outermost cs Dx Dy pen g X w (pos 1) (pos 0) M (at_right g.from.x g.from.y M a) (at_right g.to.x g.to.y M b)) rightmost

    sweep_left : (m : ℤ) → m ≼ g.from.x → m ≼ g.to.x → m -ℤ pos 8 *ℤ Dx ≼ X.x
    sweep_left m a b =
        leftward X.x X.y (furthest (negsuc 0) (pos 0) cs) m Dx
        (outermost cs Dx Dy pen g X w (negsuc 0) (pos 0) (neg_ℤ m) (at_left g.from.x g.from.y m a) (at_left g.to.x g.to.y m b)) leftmost

-- ---- what the point beside a black centre says of the centre, in the drawing N = m m times as large
crowded : (N l D x m : ℤ) → pos 0 ≼ N → pos 1 ≼ m → N *ℤ l -ℤ pos 8 *ℤ (N *ℤ D) ≼ N *ℤ x -ℤ m → x ≼ l -ℤ pos 8 *ℤ D → pos 1 ≼ pos 0
crowded = ring 5 _ (λ ρ hN hm h k. mul_nn hN (sub_nn k) ⊢ hm ⊢ h ⊢ simp (reify, ρ) (omega arith))

module _ (cs : List Pt) (Dx Dy : ℤ) (pen : PenLaws cs Dx Dy) (g : Seg) (X : Pt) (black : Black cs g X) where
  left_of : (l : ℤ) → l ≼ g.from.x → l ≼ g.to.x → l -ℤ pos 8 *ℤ Dx ≺ X.x
  left_of l a b =
      let decides = black_beside cs Dx Dy pen g X in
      let m = max_z decides.0 (pos 1) in
      let N = m *ℤ m in
      let some = max_r decides.0 (pos 1) in
      let hN = square_pos m (one_lt m some) in
      let nn = lt_le (pos 0) N hN in
      let swept = (decides.1 m (max_l decides.0 (pos 1))).0 black in
      let bound =
      sweep_left (map (larger N) cs) (N *ℤ Dx) (N *ℤ Dy) (pen_larger N hN cs Dx Dy pen) (larger_seg N g) (beside m X) swept
      (N *ℤ l) (mul_mono N l g.from.x nn a) (mul_mono N l g.to.x nn b) in
      elim (le_or_lt X.x (l -ℤ pos 8 *ℤ Dx)) [ inl k ↦ absurd (crowded N l Dx X.x m nn some bound k).le | inr k ↦ k ]

pub black_sideways : BlackSideways
black_sideways cs Dx Dy pen g X black =
    let a = g.from.x in
    let b = g.to.x in
    (left_of cs Dx Dy pen g X black (min_z a b) (min_l a b) (min_r a b), sweep_right cs Dx Dy pen g X black.swept (max_z a b) (max_l a b) (max_r a b))
