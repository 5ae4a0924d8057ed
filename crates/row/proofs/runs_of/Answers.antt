-- The checks refuse, or the row is drawn as their answer allows.
use Rattle.std.proofs.Common.{◌∙◌, sym}
use Rattle.plane.specs.Point.{corners}
use Rattle.checks.proofs.Verdicts.{verdict_passed}
use Rattle.row.proofs.Calls.{runs_refused, runs_passed}
use Rattle.row.proofs.runs_of.Goals as goal

pub returns-in_default : goal.returns-in_default
returns-in_default c =
    let a = c.args in
    runs_refused (corners a.count a.xs.now a.ys.now) a.path.now a.columns a.rows a.row a.runs.now c.check-checked.ensures c.in_default.is c.report.ensures

pub draw_runs-requires : goal.draw_runs-requires
draw_runs-requires c =
    let a = c.args in
    verdict_passed a.path.now a.columns a.rows a.row (sym c.check-checked.ensures ∙ c.in-Passed.is)

pub returns : goal.returns
returns c =
    let a = c.args in
    runs_passed (corners a.count a.xs.now a.ys.now) a.path.now a.columns a.rows a.row a.runs.now c.check-checked.ensures c.in-Passed.is c.draw_runs.ensures
