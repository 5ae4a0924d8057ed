-- Each call behind a stroke has a byte less at least.
use Rattle.std.proofs.Common.{length}
use Rattle.bench_gerber.proofs.feed.Given as goal

abbrev pub decreases-loop-length : goal.decreases-loop-length
decreases-loop-length l = length l.rest
