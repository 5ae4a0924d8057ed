-- Up the quarter the corner is read as it stands; on the way back its y has the other sign.
use Rattle.std.proofs.Common.{◌*◌, ◌-◌, ◌<◌, ◌∙◌, arith}
use mathlib.Core.Path.{ap₂}
use Rattle.plane.specs.Point.{pt}
use Rattle.pen.specs.Mirrored.{quarter_in}
use Rattle.pen.proofs.Opposites.{i8_itself, i8_opposite}
use Rattle.pen.proofs.Walk.{going_up, going_back}
use Rattle.pen.proofs.polygon.right_side.Goals as goal

pub returns-then-i-n-clause-corner : goal.returns-then-i-n-clause-corner
returns-then-i-n-clause-corner c =
    let a = c.args in
    let m = c.requires.quarter in
    let h = c.if-i-n.true in
    ap₂ pt (i8_itself (m.x_small a.i h)) (i8_itself (m.y_small a.i h))
    ∙ going_up (quarter_in a.n a.xs.now a.ys.now) m a.i h

pub returns-clause-corner : goal.returns-clause-corner
returns-clause-corner c =
    let a = c.args in
    let m = c.requires.quarter in
    let k = 2 * a.n - 1 - a.i in
    let h : k < a.n = omega arith in
    ap₂ pt (i8_itself (m.x_small k h)) (i8_opposite (m.y_small k h))
    ∙ going_back (quarter_in a.n a.xs.now a.ys.now) m a.i k h (omega arith)
