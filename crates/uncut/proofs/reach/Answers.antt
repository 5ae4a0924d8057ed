-- The checks one after the other, as at an engine's start: each refuses, or leads to the next. Where all are passed, the extent is that of the pen at the place that was found.
use Rattle.std.proofs.Common.{refl, sym, ap, ◌∙◌, arith, List, length}
use Rattle.limits.specs.Sizes.{raster_max}
use Rattle.plane.specs.Point.{Pt}
use Rattle.aperture.proofs.Theorems.{looked_small}
use Rattle.aperture.proofs.Held.{corners_found}
use Rattle.stroke.specs.Sweep.{Seg, path_points, segments}
use Rattle.checks.proofs.Verdicts.{verdict_passed}
use Rattle.checks.proofs.Entries.{passed_entries}
use Rattle.engine.proofs.OneSegment.{one_segment}
use Rattle.engine.proofs.StartCases.{verdict_unheld, verdict_no_segment, verdict_left}
use Rattle.uncut.specs.Uncut.{first_extent}
use Rattle.uncut.proofs.Reaching.{reach_refused, reach_done}
use Rattle.uncut.proofs.reach.Goals as goal

pub returns-in_default : goal.returns-in_default
returns-in_default c =
    let a = c.args in
    reach_refused a.table a.number a.path.now a.row
    (verdict_unheld a.table a.number a.path.now raster_max raster_max a.row (sym c.look_up.ensures ∙ c.in_default.is)) refl c.refused.ensures

pub returns-in_default-segment : goal.returns-in_default-segment
returns-in_default-segment c =
    let a = c.args in
    let found = sym c.look_up.ensures ∙ c.in-At.is in
    reach_refused a.table a.number a.path.now a.row
    (verdict_no_segment a.table a.number a.path.now raster_max raster_max a.row found c.segment_check-segment.ensures c.in_default-segment.is)
    c.in_default-segment.is c.refused-in_default-segment.ensures

pub returns-in_default-checked : goal.returns-in_default-checked
returns-in_default-checked c =
    let a = c.args in
    let found = sym c.look_up.ensures ∙ c.in-At.is in
    let is_segment = sym c.segment_check-segment.ensures ∙ c.in-Passed.is in
    reach_refused a.table a.number a.path.now a.row
    (verdict_left a.table a.number a.path.now raster_max raster_max a.row found is_segment ∙ sym c.check-checked.ensures)
    c.in_default-checked.is c.refused-in_default-checked.ensures

pub offset_bounds-table-i : goal.offset_bounds-table-i
offset_bounds-table-i c =
    let small = looked_small c.args.table c.args.number _ (sym c.look_up.ensures ∙ c.in-At.is) in
    record { fits = omega (arith, small) }

pub bounds-table-i : goal.bounds-table-i
bounds-table-i c = looked_small c.args.table c.args.number _ (sym c.look_up.ensures ∙ c.in-At.is)

pub first_extent-requires-clause-segment : goal.first_extent-requires-clause-segment
first_extent-requires-clause-segment c =
    let e = ap (λ (l : List Seg). length l) (one_segment (passed_entries c.args.path.now (sym c.segment_check-segment.ensures ∙ c.in-Passed.is))) in
    omega (arith, e)

pub first_extent-requires-clause-drawable : goal.first_extent-requires-clause-drawable
first_extent-requires-clause-drawable c = verdict_passed c.args.path.now raster_max raster_max c.args.row (sym c.check-checked.ensures ∙ c.in-Passed-checked.is)

pub returns : goal.returns
returns c =
    let a = c.args in
    let found = sym c.look_up.ensures ∙ c.in-At.is in
    let is_segment = sym c.segment_check-segment.ensures ∙ c.in-Passed.is in
    let checked = sym c.check-checked.ensures ∙ c.in-Passed-checked.is in
    reach_done a.table a.number a.path.now a.row
    (verdict_left a.table a.number a.path.now raster_max raster_max a.row found is_segment ∙ checked) c.done.ensures
    (c.first_extent.ensures
    ∙ ap (λ (cs : List Pt). first_extent cs (segments (path_points a.path.now)) a.row) (corners_found a.table a.number _ found))
