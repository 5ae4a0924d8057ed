-- A point of the sweep lies no further up or down than the pen reaches from the segment's ends: so a row with a black centre is reached.
use mathlib.Core.Path.{◌≡◌, ap₂}
use mathlib.Core.Bool.{true, ◌&&◌}
use mathlib.Core.List.{List}
use native.Mathlib.Omega.{arith}
use lib.IntN.{ℤ, pos, negsuc, neg_ℤ, ◌+ℤ◌, ◌-ℤ◌, ◌*ℤ◌}
use Rattle.integers.specs.Orders.{◌≼◌}
use Rattle.integers.specs.Compare.{min_z, max_z}
use Rattle.integers.proofs.Ring.{ring, reify}
use Rattle.integers.proofs.Tests.{le_iff, max_l, max_r, min_l, min_r}
use Rattle.plane.specs.Point.{Pt}
use Rattle.plane.specs.Polygon.{PenLaws}
use Rattle.stroke.specs.Sweep.{Seg, centre, Sweep}
use Rattle.stroke.specs.Sides.{furthest}
use Rattle.stroke.specs.Extent.{reached}
use Rattle.stroke.proofs.Corners.{furthest_corner}
use Rattle.stroke.proofs.Inside.{outermost}

-- from the bound in the direction up, and in the direction down
upward : (x y F M D : ℤ) → pos 0 *ℤ x +ℤ pos 1 *ℤ y ≼ pos 8 *ℤ F +ℤ M → F ≼ D → y ≼ M +ℤ pos 8 *ℤ D
upward = ring 5 _ (λ ρ. simp (reify, ρ) (omega arith))

downward : (x y F m D : ℤ) → pos 0 *ℤ x +ℤ negsuc 0 *ℤ y ≼ pos 8 *ℤ F +ℤ neg_ℤ m → F ≼ D → m -ℤ pos 8 *ℤ D ≼ y
downward = ring 5 _ (λ ρ. simp (reify, ρ) (omega arith))

at_up : (x y m : ℤ) → y ≼ m → pos 0 *ℤ x +ℤ pos 1 *ℤ y ≼ m
at_up = ring 3 _ (λ ρ. simp (reify, ρ) (omega arith))

at_down : (x y m : ℤ) → m ≼ y → pos 0 *ℤ x +ℤ negsuc 0 *ℤ y ≼ neg_ℤ m
at_down = ring 3 _ (λ ρ. simp (reify, ρ) (omega arith))

down_most : (x y m : ℤ) → neg_ℤ y ≼ m → pos 0 *ℤ x +ℤ negsuc 0 *ℤ y ≼ m
down_most = ring 3 _ (λ ρ. simp (reify, ρ) (omega arith))

module _ (cs : List Pt) (Dx Dy : ℤ) (pen : PenLaws cs Dx Dy) where
  highest : furthest (pos 0) (pos 1) cs ≼ Dy
  highest = let t = furthest_corner cs Dx Dy pen (pos 0) (pos 1) in rw (← t.2) (at_up t.0.x t.0.y Dy (pen.high t.0 t.1))

  deepest : furthest (pos 0) (negsuc 0) cs ≼ Dy
  deepest = let t = furthest_corner cs Dx Dy pen (pos 0) (negsuc 0) in rw (← t.2) (down_most t.0.x t.0.y Dy (pen.high _ (pen.mirror_y t.0 t.1)))

  -- the sweep from below and above
  module _ (g : Seg) (X : Pt) (w : Sweep cs g X) where
    pub sweep_below : X.y ≼ max_z g.from.y g.to.y +ℤ pos 8 *ℤ Dy
    sweep_below =
        let M = max_z g.from.y g.to.y in
        upward X.x X.y (furthest (pos 0) (pos 1) cs) M Dy
        (outermost cs Dx Dy pen g X w (pos 0) (pos 1) M (at_up g.from.x g.from.y M (max_l g.from.y g.to.y)) (at_up g.to.x g.to.y M (max_r g.from.y g.to.y))) highest

    pub sweep_above : min_z g.from.y g.to.y -ℤ pos 8 *ℤ Dy ≼ X.y
    sweep_above =
        let m = min_z g.from.y g.to.y in
        downward X.x X.y (furthest (pos 0) (negsuc 0) cs) m Dy
        (outermost cs Dx Dy pen g X w (pos 0) (negsuc 0) (neg_ℤ m) (at_down g.from.x g.from.y m (min_l g.from.y g.to.y))
        (at_down g.to.x g.to.y m (min_r g.from.y g.to.y))) deepest

  pub is_reached : (g : Seg) (i j : ℤ) → Sweep cs g (centre i j) → reached cs g j ≡ true
  is_reached g i j w = rw pen.reaches (ap₂ ◌&&◌ ((le_iff _ (pos 16 *ℤ j)).1 (sweep_above g (centre i j) w)) ((le_iff (pos 16 *ℤ j) _).1 (sweep_below g (centre i j) w)))
