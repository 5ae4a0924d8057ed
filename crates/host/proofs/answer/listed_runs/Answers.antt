-- The list is long enough, so that it is as the list says.
use Rattle.std.proofs.Common.{◌≡◌, sym, ◌∙◌, subst, ℕ}
use Rattle.plane.specs.Point.{corners}
use Rattle.checks.specs.Answer.{Result}
use Rattle.host.specs.Call.{runs_with, entries_verdict}
use Rattle.host.proofs.Outcomes.{Drawn, call_runs_lem, call_enough}
use Rattle.host.proofs.answer.listed_runs.Goals as goal

pub write-requires : goal.write-requires
write-requires c =
    let a = c.args in
    let cs = corners a.count a.xs.now a.ys.now in
    (subst (λ (r : Result ℕ). Drawn r a.runs.now (runs_with cs a.call (entries_verdict a.call a.path.now) a.path.now a.runs.now)) (sym c.runs_of-a.ensures)
    (call_runs_lem cs a.call a.path.now a.list.now a.runs.now)).fit

-- it is never too short
pub returns : goal.returns
returns c =
    let a = c.args in
    let cs = corners a.count a.xs.now a.ys.now in
    let told = subst (λ (r : Result ℕ). Drawn r a.runs.now (runs_with cs a.call (entries_verdict a.call a.path.now) a.path.now a.runs.now)) (sym c.runs_of-a.ensures)
    (call_runs_lem cs a.call a.path.now a.list.now a.runs.now) in
    let enough = subst (λ (r : Result ℕ). ¬ (r.answer.refusal ≡ 7)) (sym c.runs_of-a.ensures) (call_enough cs a.call a.path.now a.list.now c.requires) in
    c.write.ensures ∙ told.told enough
