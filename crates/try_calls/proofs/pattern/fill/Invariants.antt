-- Each turn stores one value more.
use Rattle.try_calls.proofs.Fill.{Filled}
use Rattle.try_calls.proofs.pattern.fill.Given as goal

abbrev pub invariant-loop-i : goal.invariant-loop-i
invariant-loop-i g l = Filled g.T.Patterned.at l.initial.list l.list l.i
