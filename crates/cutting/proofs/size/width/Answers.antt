use Rattle.std.proofs.Common.{refl}
use Rattle.setting.specs.Setting.{Dx}
use Rattle.cutting.proofs.size.width.Goals as goal

pub returns : goal.returns
unfolding Dx
returns c = refl
