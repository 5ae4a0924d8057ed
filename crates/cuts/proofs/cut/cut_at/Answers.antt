-- The segment's extent is that of the definition, and so is its cut.
use Rattle.std.proofs.Common.{◌≡◌, ◌∙◌, sym, ap, ap₂, rules, List, ℕ, get_or, slice_index_or, ◌+◌, ◌*◌, ◌<◌, length, ℤ, pos, to_z, of_z, w32, w64, FitsSigned}
use Rattle.std.proofs.Math.Facts.{to_z-of_z}
use Rattle.plane.specs.Point.{Pt, corners}
use Rattle.stroke.specs.Sweep.{Seg, segments, path_points}
use Rattle.segments.specs.Ends.{EndsAt}
use Rattle.extent.specs.Answer.{seg, extent_of}
use Rattle.std.specs.Prelude.{Option, Some, None}
use Rattle.extent.specs.declared.Extent.{Extent}
use Rattle.extent.proofs.Answered.{same_extent}
use Rattle.cuts.specs.declared.cut.Cut.{Cut}
use Rattle.cuts.specs.Cuts.{cut_to, extent_in, cuts}
use Rattle.cuts.proofs.Raster.{cut_place, cut_below}
use Rattle.cuts.proofs.cut.cut_at.Goals as goal

-- what stands past the last segment
abbrev past : Seg
past = seg (pos 0) (pos 0) (pos 0) (pos 0)

-- the four entries that were read are those of the segment's ends; and what is cut as the definition cuts it is the cut of the segment
is_answer : (cs : List Pt) (j columns : ℕ) {path : List ℤ} {k to : ℕ} {e : Option Extent} {r : Option Cut} → EndsAt path k to → k < length (segments (path_points path)) →
    FitsSigned w32 (get_or path (2 * k) (pos 0)) → FitsSigned w32 (get_or path (2 * k + 1) (pos 0)) →
    FitsSigned w32 (get_or path to (pos 0)) → FitsSigned w32 (get_or path (to + 1) (pos 0)) →
    e ≡ extent_of cs (to_z w32 (of_z w32 (get_or path (2 * k) (pos 0)))) (to_z w32 (of_z w32 (get_or path (2 * k + 1) (pos 0))))
    (to_z w32 (of_z w32 (get_or path to (pos 0)))) (to_z w32 (of_z w32 (get_or path (to + 1) (pos 0)))) j →
    r ≡ cut_to columns e → r ≡ get_or (cuts cs (path_points path) columns j) k None
is_answer cs j columns {path} {k} ends h a b c d e f =
    f ∙ ap (cut_to columns) (e ∙ same_extent cs j (to_z-of_z {w = w32} a) (to_z-of_z {w = w32} b) (to_z-of_z {w = w32} c) (to_z-of_z {w = w32} d)
    ∙ ap (extent_in cs j) (sym (ends.segment past))) ∙ sym (cut_place cs (path_points path) columns j k past h)

pub returns-in_err-e-clause-cut : goal.returns-in_err-e-clause-cut
returns-in_err-e-clause-cut c =
    let a = c.args in
    let p : FitsSigned w32 (slice_index_or a.path.now (2 * a.k) (pos 0)) = search rules in
    let q : FitsSigned w32 (slice_index_or a.path.now (2 * a.k + 1) (pos 0)) = search rules in
    let r : FitsSigned w32 (slice_index_or a.path.now c.end_of-to.result (pos 0)) = search rules in
    let s : FitsSigned w32 (slice_index_or a.path.now (c.end_of-to.result + 1) (pos 0)) = search rules in
    let none : c.extent_at.result ≡ None = c.in_err-e.was in
    is_answer (corners a.count a.xs.now a.ys.now) a.row a.columns (c.end_of-to.ensures c.requires.segment) c.requires.segment p q r s c.extent_at.ensures
    (c.from_residual.ensures ∙ ap (cut_to a.columns) (sym none))

pub returns-clause-cut : goal.returns-clause-cut
returns-clause-cut c =
    let a = c.args in
    let p : FitsSigned w32 (slice_index_or a.path.now (2 * a.k) (pos 0)) = search rules in
    let q : FitsSigned w32 (slice_index_or a.path.now (2 * a.k + 1) (pos 0)) = search rules in
    let r : FitsSigned w32 (slice_index_or a.path.now c.end_of-to.result (pos 0)) = search rules in
    let s : FitsSigned w32 (slice_index_or a.path.now (c.end_of-to.result + 1) (pos 0)) = search rules in
    let some : c.extent_at.result ≡ Some c.in_ok-e.e = c.in_ok-e.was in
    is_answer (corners a.count a.xs.now a.ys.now) a.row a.columns (c.end_of-to.ensures c.requires.segment) c.requires.segment p q r s c.extent_at.ensures
    (c.cut_span.ensures ∙ ap (cut_to a.columns) (sym some))

pub returns-clause-below : goal.returns-clause-below
returns-clause-below c = cut_below (Some c.in_ok-e.e) c.cut_span.ensures
