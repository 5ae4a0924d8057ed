-- The two cases of the test of a place in use.
use Rattle.std.proofs.Common.{sym, ◌∙◌}
use Rattle.aperture.proofs.Answers.{looks_nowhere, looks_at}
use Rattle.aperture.proofs.look_up.Goals as goal

pub returns-then-not-is_held : goal.returns-then-not-is_held
returns-then-not-is_held c = sym (looks_nowhere _ _ (sym c.is_held.ensures ∙ c.if-not-is_held.true))

pub returns : goal.returns
returns c = sym (looks_at _ _ (sym c.is_held.ensures ∙ c.if-not-is_held.false))
