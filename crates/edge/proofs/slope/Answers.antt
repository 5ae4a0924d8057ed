-- Across by less than up, the quotient is 0 or -1.
use Rattle.std.proofs.Common.{◌≡◌, arith, ℤ, pos, ◌+ℤ◌, ◌-ℤ◌, ◌*ℤ◌, w64}
use lib.IntN.{negsuc}
use Rattle.integers.specs.Orders.{◌≼◌, ◌≺◌}
use Rattle.integers.specs.Floor.{floor_div}
use Rattle.integers.proofs.Ring.{ring, reify}
use Rattle.integers.proofs.Floor.{floor_div_unique}
use Rattle.integers.proofs.Machine.{par, num, any, sub_at, flip_fits, lt_yes, le_yes}
use Rattle.edge.proofs.slope.Goals as goal

-- ---- the quotient of a steep edge, to the right and to the left
steep_right : (dx dy : ℤ) → pos 0 ≼ dx → dx ≺ dy → pos 0 ≡ floor_div dx dy
steep_right dx dy l h = let b = bounds dx dy l h in floor_div_unique dx dy (pos 0) b.0 b.1 b.2
  where
    bounds : (dx dy : ℤ) → pos 0 ≼ dx → dx ≺ dy → (pos 0 ≺ dy) × (dy *ℤ pos 0 ≼ dx) × (dx ≺ dy *ℤ pos 0 +ℤ dy)
    bounds = ring 2 _ λ ρ. simp (reify, ρ) (omega arith)

steep_left : (dx dy : ℤ) → dx ≺ pos 0 → negsuc 0 -ℤ dx ≺ dy → negsuc 0 ≡ floor_div dx dy
steep_left dx dy l h = let b = bounds dx dy l h in floor_div_unique dx dy (negsuc 0) b.0 b.1 b.2
  where
    bounds : (dx dy : ℤ) → dx ≺ pos 0 → negsuc 0 -ℤ dx ≺ dy → (pos 0 ≺ dy) × (dy *ℤ negsuc 0 ≼ dx) × (dx ≺ dy *ℤ negsuc 0 +ℤ dy)
    bounds = ring 2 _ λ ρ. simp (reify, ρ) (omega arith)

pub returns-then-dx-dy : goal.returns-then-dx-dy
returns-then-dx-dy c =
    let dx = par {w = w64} c.ranges.dx in
    let dy = par {w = w64} c.ranges.dy in
    let back = any (sub_at (num {w = w64} (negsuc 0) tt) dx) (flip_fits c.ranges.dx) in
    steep_left c.args.dx c.args.dy (lt_yes dx (num {w = w64} (pos 0) tt) c.if-dx-lt0.true) (lt_yes back dy c.if-dx-dy.true)

pub returns-then-dx-dy-2 : goal.returns-then-dx-dy-2
returns-then-dx-dy-2 c =
    let dx = par {w = w64} c.ranges.dx in
    steep_right c.args.dx c.args.dy (le_yes (num {w = w64} (pos 0) tt) dx c.if-dx-ge0.true) (lt_yes dx (par {w = w64} c.ranges.dy) c.if-dx-dy-2.true)
