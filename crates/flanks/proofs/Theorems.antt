-- The claims of specs/Theorems.antt, each under its name there.
use Rattle.flanks.specs.Theorems.{FlanksBound, CutIs}
use Rattle.flanks.proofs.Bound as bound
use Rattle.flanks.proofs.Cuts as cuts

pub flanks_bound : FlanksBound
flanks_bound = bound.flanks_bound

pub cut_is : CutIs
cut_is = cuts.cut_is
