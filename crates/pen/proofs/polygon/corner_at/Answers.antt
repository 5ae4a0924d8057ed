-- The walk's first half is the right side, and its second half the same turned by half a turn.
use Rattle.std.proofs.Common.{ap, ◌∙◌, arith}
use mathlib.Core.Path.{ap₂}
use Rattle.plane.specs.Point.{pt}
use Rattle.pen.specs.Polygon.{turned}
use Rattle.pen.specs.Mirrored.{quarter_in}
use Rattle.pen.proofs.Opposites.{i8_opposite}
use Rattle.pen.proofs.Walk.{right_half, left_half}
use Rattle.pen.proofs.polygon.corner_at.Goals as goal

pub returns-then-i-half-clause-corner : goal.returns-then-i-half-clause-corner
returns-then-i-half-clause-corner c =
    let a = c.args in
    c.right_side.ensures.corner ∙ right_half (quarter_in a.n a.xs.now a.ys.now) c.requires.quarter a.i c.if-i-half.true

pub returns-clause-corner : goal.returns-clause-corner
returns-clause-corner c =
    let a = c.args in
    let r = c.right_side-r.ensures in
    ap₂ pt (i8_opposite r.small.x_small) (i8_opposite r.small.y_small)
    ∙ ap turned r.corner
    ∙ left_half (quarter_in a.n a.xs.now a.ys.now) c.requires.quarter a.i (omega arith)
