-- Each turn narrows by one edge more, from the last back to the first, and hands on the corner that it read.
use Rattle.std.proofs.Common.{pos}
use Rattle.extent.specs.Held.{ends}
use Rattle.extent.proofs.Going.{Going}
use Rattle.extent.proofs.side.edges.Given as goal

abbrev pub invariant-loop-i : goal.invariant-loop-i
invariant-loop-i l = Going l.n l.xs l.ys (pos 0) (ends l.g) l.initial.r l.r l.qx l.qy l.i
