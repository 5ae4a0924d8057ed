-- The checks refuse, or the row is drawn as their answer allows.
use Rattle.std.proofs.Common.{◌∙◌, sym}
use Rattle.plane.specs.Point.{corners}
use Rattle.checks.proofs.Verdicts.{verdict_passed}
use Rattle.packed.proofs.Calls.{packed_refused, packed_passed}
use Rattle.packed.proofs.packed_of.Goals as goal

pub returns-in_default : goal.returns-in_default
returns-in_default c =
    let a = c.args in
    packed_refused (corners a.count a.xs.now a.ys.now) a.path.now a.columns a.rows a.row a.bytes.now c.check-checked.ensures c.in_default.is c.report.ensures

pub draw_packed-requires : goal.draw_packed-requires
draw_packed-requires c =
    let a = c.args in
    verdict_passed a.path.now a.columns a.rows a.row (sym c.check-checked.ensures ∙ c.in-Passed.is)

pub returns : goal.returns
returns c =
    let a = c.args in
    packed_passed (corners a.count a.xs.now a.ys.now) a.path.now a.columns a.rows a.row a.bytes.now c.check-checked.ensures c.in-Passed.is c.draw_packed.ensures
