use Rattle.std.proofs.Common.{refl}
use Rattle.setting.specs.Setting.{Dy}
use Rattle.cutting.proofs.size.height.Goals as goal

pub returns : goal.returns
unfolding Dy
returns c = refl
