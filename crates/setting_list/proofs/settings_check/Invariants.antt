-- Each turn checks one setting more, or is refused.
use Rattle.setting_list.proofs.Held.{Reached}
use Rattle.setting_list.proofs.settings_check.Given as goal

-- those before setting i passed
abbrev pub invariant-loop-i : goal.invariant-loop-i
invariant-loop-i l = Reached l.settings l.i
