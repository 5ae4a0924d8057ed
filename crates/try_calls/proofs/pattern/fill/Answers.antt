-- Each place gets what `at` answers.
use Rattle.std.proofs.Common.{rules}
use Rattle.try_calls.proofs.Fill.{begun, more}
use Rattle.try_calls.proofs.pattern.fill.Goals as goal

pub loop-i-init : goal.loop-i-init
loop-i-init g c = begun _ _

pub loop-i-preserved : goal.loop-i-preserved
loop-i-preserved g c = more c.loop-i.invariant (search rules) _ c.at.ensures
