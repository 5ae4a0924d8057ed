-- The check's answer says which of the two answers it is: a setting that it takes is the one given, and the rounds may go.
use Rattle.std.proofs.Common.{sym, ap, subst, ◌∙◌}
use Rattle.setting.specs.declared.Setting.{Setting}
use Rattle.setting.specs.Setting.{Taken}
use Rattle.setting.proofs.Limits.{taken_iff}
use Rattle.setting.proofs.Answers.{checked_taken, checked_refused}
use Rattle.quarter.specs.Cutting.{quarter}
use Rattle.quarter.specs.Answer.{quarter_of}
use Rattle.quarter.proofs.Cornered.{cornered_taken, cornered_none}
use Rattle.cutting.proofs.build.Goals as goal

pub returns-in_default : goal.returns-in_default
returns-in_default c = c.none.ensures ∙ sym (cornered_none c.args.s (checked_refused c.args.s (sym c.in_default.ensures)))

pub quarter-requires : goal.quarter-requires
quarter-requires c =
    let k = checked_taken c.args.s c.in-Taken.t (sym c.in-Taken.ensures) in
    subst Taken k.1 ((taken_iff _).0 k.0)

pub returns : goal.returns
returns c =
    let k = checked_taken c.args.s c.in-Taken.t (sym c.in-Taken.ensures) in
    c.quarter.ensures ∙ ap (λ (s : Setting). quarter_of (quarter s)) (sym k.1) ∙ sym (cornered_taken _ k.0)
