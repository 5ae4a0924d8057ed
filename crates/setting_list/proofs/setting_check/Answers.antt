-- The two checks of the definition, one after the other; the three numbers that are checked are the setting.
use Rattle.std.proofs.Common.{sym, ap, ◌∙◌}
use Rattle.setting.specs.Answer.{checked}
use Rattle.setting.proofs.Answers.{checked_taken, checked_refused}
use Rattle.setting_list.specs.Settings.{setting_at}
use Rattle.setting_list.proofs.Held.{outside, inside, setting_is}
use Rattle.setting_list.proofs.setting_check.Goals as goal

pub returns-in_default : goal.returns-in_default
returns-in_default c =
    let l = c.args.settings.now in
    let i = c.args.i in
    let found = ap checked (setting_is l i c.number.ensures c.number-2.ensures c.number-3.ensures) in
    outside l i (sym c.within.ensures ∙ c.if-not-within.false) (checked_refused (setting_at l i) (sym (c.in_default.ensures ∙ found)))

pub returns : goal.returns
returns c =
    let l = c.args.settings.now in
    let i = c.args.i in
    let found = ap checked (setting_is l i c.number.ensures c.number-2.ensures c.number-3.ensures) in
    inside l i (sym c.within.ensures ∙ c.if-not-within.false) (checked_taken (setting_at l i) _ (sym (c.in-Taken.ensures ∙ found))).0
