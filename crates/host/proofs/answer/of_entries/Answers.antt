-- What the checks refuse is refused; a row that the path misses is clear; otherwise the pen is the one that is built.
use Rattle.std.proofs.Common.{sym, ap, subst, ◌∙◌, [], ℕ}
use Rattle.limits.specs.Sizes.{entries_max}
use Rattle.limits.specs.declared.Verdict.{Verdict}
use Rattle.checks.proofs.Verdicts.{verdict_passed}
use Rattle.outcome.proofs.Fits.{small_code}
use Rattle.outcome.proofs.Verdicts.{Small, small_verdict}
use Rattle.host.specs.Call.{call_with, built_corners, dot, entries_verdict}
use Rattle.host.proofs.Outcomes.{call_refused}
use Rattle.host.proofs.Missed.{call_clear, dot_passes}
use Rattle.host.proofs.answer.of_entries.Goals as goal

pub returns-in_default : goal.returns-in_default
returns-in_default c =
    let a = c.args in
    let e = c.check-checked.ensures in
    let f = c.in_default.is in
    ap (λ (n : ℕ). record { answer = n; bytes = a.bytes.now })
    (small_code c.refused.ensures f (subst (Small entries_max) (sym e) (small_verdict a.path.now a.call.columns a.call.rows a.call.row)))
    ∙ call_refused (built_corners a.call) a.call (entries_verdict a.call a.path.now) a.path.now a.bytes.now (sym e ∙ f)

pub misses-requires-clause-checked : goal.misses-requires-clause-checked
misses-requires-clause-checked c = let a = c.args in verdict_passed a.path.now a.call.columns a.call.rows a.call.row (sym c.check-checked.ensures ∙ c.in-Passed.is)

pub missed-requires : goal.missed-requires
missed-requires c = let a = c.args in dot_passes a.path.now a.call.columns a.call.rows a.call.row (sym c.check-checked.ensures ∙ c.in-Passed.is)

pub returns-then-misses : goal.returns-then-misses
returns-then-misses c =
    let a = c.args in
    c.missed.ensures
    ∙ ap (λ (v : Verdict). call_with [] a.call v dot a.bytes.now) (sym (sym c.check-checked.ensures ∙ c.in-Passed.is))
    ∙ call_clear (built_corners a.call) a.call (entries_verdict a.call a.path.now) a.path.now dot a.bytes.now (c.misses.ensures c.if-misses.true)
