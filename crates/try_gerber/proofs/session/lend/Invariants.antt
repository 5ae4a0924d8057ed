-- Each part has a byte at least.
use Rattle.std.proofs.Common.{◌<◌, length}
use Rattle.try_gerber.proofs.session.lend.Given as goal

abbrev pub invariant-loop-got : goal.invariant-loop-got
invariant-loop-got l = 0 < length l.buf

abbrev pub decreases-loop-got : goal.decreases-loop-got
decreases-loop-got l = l.left
