-- The four entries that are read are those of the first segment's ends, and its extent is what is answered.
use Rattle.std.proofs.Common.{sym, ap, ◌∙◌, rules, ◌+◌, slice_index_or, pos, w32, FitsSigned}
use Rattle.std.proofs.Math.Facts.{to_z-of_z}
use Rattle.pen.specs.Answer.{pen_corners}
use Rattle.stroke.specs.Sweep.{Seg}
use Rattle.extent.specs.Answer.{seg}
use Rattle.extent.proofs.Answered.{same_extent}
use Rattle.cuts.specs.Cuts.{extent_in}
use Rattle.uncut.proofs.Reaching.{found_first}
use Rattle.uncut.proofs.first_extent.Goals as goal

-- what stands past the last segment
abbrev past : Seg
past = seg (pos 0) (pos 0) (pos 0) (pos 0)

pub returns : goal.returns
returns c =
    let path = c.args.path.now in
    let end = c.end_of-end.result in
    let ends = c.end_of-end.ensures c.requires.segment in
    let p : FitsSigned w32 (slice_index_or path 0 (pos 0)) = search rules in
    let q : FitsSigned w32 (slice_index_or path 1 (pos 0)) = search rules in
    let r : FitsSigned w32 (slice_index_or path end (pos 0)) = search rules in
    let s : FitsSigned w32 (slice_index_or path (end + 1) (pos 0)) = search rules in
    let cs = pen_corners c.args.pen in
    c.extent_of.ensures
    ∙ same_extent cs c.args.row (to_z-of_z {w = w32} p) (to_z-of_z {w = w32} q) (to_z-of_z {w = w32} r) (to_z-of_z {w = w32} s)
    ∙ ap (extent_in cs c.args.row) (sym (ends.segment past)) ∙ found_first cs c.requires.drawable past c.requires.segment
