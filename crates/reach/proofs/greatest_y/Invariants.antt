-- The y's before entry 2 k + 1, which is a y, make what is kept.
use Rattle.std.proofs.Common.{◌+◌, ◌*◌}
use Rattle.reach.proofs.Pass.{Passed}
use Rattle.reach.proofs.Heights.{greatest_together}
use Rattle.reach.proofs.greatest_y.Given as goal

abbrev pub invariant-loop-k : goal.invariant-loop-k
invariant-loop-k l = Passed greatest_together l.path l.greatest (2 * l.k + 1)
