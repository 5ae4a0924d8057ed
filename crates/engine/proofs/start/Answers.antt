-- The checks one after the other: each refuses, or leads to the next. Where all are passed, the engine is that of the pen at the place that was found.
use Rattle.std.proofs.Common.{◌≡◌, refl, sym, ap, ◌∙◌, arith, rules, length}
use Rattle.limits.specs.Sizes.{places}
use Rattle.pen.specs.declared.Pen.{Pen}
use Rattle.aperture.proofs.Theorems.{looked_small}
use Rattle.engine.specs.Engine.{engine_of}
use Rattle.engine.proofs.StartCases.{start_refused, start_done, verdict_unheld, verdict_no_segment, verdict_left, pen_found}
use Rattle.engine.proofs.start.Goals as goal

pub returns-in_default : goal.returns-in_default
returns-in_default c =
    let a = c.args in
    start_refused a.table a.number a.path.now a.columns a.rows a.row
    (verdict_unheld a.table a.number a.path.now a.columns a.rows a.row (sym c.look_up.ensures ∙ c.in_default.is)) refl c.refused.ensures

pub returns-in_default-segment : goal.returns-in_default-segment
returns-in_default-segment c =
    let a = c.args in
    let found = sym c.look_up.ensures ∙ c.in-At.is in
    start_refused a.table a.number a.path.now a.columns a.rows a.row
    (verdict_no_segment a.table a.number a.path.now a.columns a.rows a.row found c.segment_check-segment.ensures c.in_default-segment.is)
    c.in_default-segment.is c.refused-in_default-segment.ensures

pub returns-in_default-checked : goal.returns-in_default-checked
returns-in_default-checked c =
    let a = c.args in
    let found = sym c.look_up.ensures ∙ c.in-At.is in
    let is_segment = sym c.segment_check-segment.ensures ∙ c.in-Passed.is in
    start_refused a.table a.number a.path.now a.columns a.rows a.row
    (verdict_left a.table a.number a.path.now a.columns a.rows a.row found is_segment ∙ sym c.check-checked.ensures)
    c.in_default-checked.is c.refused-in_default-checked.ensures

pub offset_bounds-table-i : goal.offset_bounds-table-i
offset_bounds-table-i c =
    let small = looked_small c.args.table c.args.number _ (sym c.look_up.ensures ∙ c.in-At.is) in
    record { fits = omega (arith, small) }

pub bounds-table-i : goal.bounds-table-i
bounds-table-i c = looked_small c.args.table c.args.number _ (sym c.look_up.ensures ∙ c.in-At.is)

pub returns : goal.returns
returns c =
    let a = c.args in
    let found = sym c.look_up.ensures ∙ c.in-At.is in
    let is_segment = sym c.segment_check-segment.ensures ∙ c.in-Passed.is in
    let checked = sym c.check-checked.ensures ∙ c.in-Passed-checked.is in
    let long : length a.table.places ≡ places = search rules in
    start_done a.table a.number a.path.now a.columns a.rows a.row
    (verdict_left a.table a.number a.path.now a.columns a.rows a.row found is_segment ∙ checked) c.done.ensures
    (c.engine_of.ensures ∙ ap (λ (z : Pen). engine_of z a.path.now a.columns a.rows a.row) (pen_found a.table a.number _ long found))
