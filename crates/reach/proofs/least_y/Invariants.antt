-- The y's before entry 2 k + 1, which is a y, make what is kept.
use Rattle.std.proofs.Common.{◌+◌, ◌*◌}
use Rattle.reach.proofs.Pass.{Passed}
use Rattle.reach.proofs.Heights.{least_together}
use Rattle.reach.proofs.least_y.Given as goal

abbrev pub invariant-loop-k : goal.invariant-loop-k
invariant-loop-k l = Passed least_together l.path l.least (2 * l.k + 1)
