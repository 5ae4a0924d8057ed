-- What the quarter answers by the check of its setting.
use mathlib.Core.Path.{◌≡◌}
use mathlib.Core.Bool.{true, false}
use mathlib.Core.List.{[]}
use Rattle.setting.specs.declared.Setting.{Setting}
use Rattle.setting.specs.Setting.{taken}
use Rattle.quarter.specs.Cutting.{quarter}
use Rattle.quarter.specs.Answer.{quarter_of, cornered}

pub cornered_taken : (σ : Setting) → taken σ ≡ true → cornered σ ≡ quarter_of (quarter σ)
unfolding cornered
cornered_taken σ e = rw (e, cornered)

pub cornered_none : (σ : Setting) → taken σ ≡ false → cornered σ ≡ quarter_of []
unfolding cornered
cornered_none σ e = rw (e, cornered)
