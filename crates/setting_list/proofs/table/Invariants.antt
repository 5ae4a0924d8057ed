-- Each turn defines one aperture more, or is refused.
use Rattle.std.proofs.Common.{◌≡◌, ◌-◌}
use Rattle.setting_list.specs.Settings.{tabled_from, table_of, setting_count}
use Rattle.setting_list.proofs.table.Given as goal

-- what is left to be defined gives the answer
abbrev pub invariant-loop-i : goal.invariant-loop-i
invariant-loop-i l = tabled_from l.settings l.i (setting_count l.settings - l.i) l.t ≡ table_of l.settings
