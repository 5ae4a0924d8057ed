-- The place that is written out is the vacant one. It is stated here, and not left to the search, so that a place that keeps something is refused at this equation.
use Rattle.std.proofs.Common.{refl}
use Rattle.aperture.proofs.vacant.Goals as goal

pub returns : goal.returns
returns c = refl
