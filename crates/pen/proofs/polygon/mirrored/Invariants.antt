-- The loop stores the walk's corners one after the other, each with the next one, as `once_each` does.
use Rattle.std.proofs.Common.{◌-◌, ◌*◌}
use Rattle.plane.specs.Point.{pt}
use Rattle.pen.proofs.Mirroring.{Going}
use Rattle.pen.proofs.polygon.mirrored.Given as goal

abbrev pub invariant-loop-i : goal.invariant-loop-i
invariant-loop-i l = Going l.q l.p l.i (pt l.ax l.ay)

abbrev pub decreases-loop-i : goal.decreases-loop-i
decreases-loop-i l = 4 * l.q.count - l.i
