-- Each call behind a stroke has a byte less at least.
use Rattle.std.proofs.Common.{length}
use Rattle.try_gerber.proofs.session.feed.Given as goal

abbrev pub decreases-loop-aperture : goal.decreases-loop-aperture
decreases-loop-aperture l = length l.rest
