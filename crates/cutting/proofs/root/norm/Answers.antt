-- Each product is at most a numeral: p and q are at most 16, u and v at most 64.
use Rattle.std.proofs.Common.{refl}
use Rattle.quarter.specs.NearRoot.{norm}
use Rattle.quarter.proofs.Most.{norm_most}
use Rattle.cutting.proofs.root.norm.Goals as goal

pub returns-clause-norm : goal.returns-clause-norm
unfolding norm
returns-clause-norm c = refl

pub returns-clause-small : goal.returns-clause-small
unfolding norm
returns-clause-small c = norm_most c.requires.setting c.requires.summed.u_small c.requires.summed.v_small
