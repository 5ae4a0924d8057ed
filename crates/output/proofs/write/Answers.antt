-- True is answered only where the top band was put. The rows are there, or what is told of them is the drawing's refusal.
use Rattle.std.proofs.Common.{◌≡◌, ◌∙◌, ℕ, ◌+◌, ◌≤◌, length, List, refl, sym, arith}
use Rattle.std.proofs.Math.ListN.{replicate, length-replicate}
use Rattle.integers.proofs.Tests.{clash}
use Rattle.drawing.specs.Strokes.{drawing_of}
use Rattle.output.specs.Bands.{band_bytes}
use Rattle.output.proofs.Order.{answer_passed, rows_inside}
use Rattle.output.proofs.write.Goals as goal

-- the buffer as it is made
abbrev made : List ℕ
made = replicate {A = ℕ} band_bytes 0

-- it is as long as was asked: by the lemma, for to compute it would be to count half a million bytes one by one
made_long : band_bytes ≡ length made
made_long = sym (length-replicate {A = ℕ} band_bytes 0)

pub slice_bounds-put_band-end : goal.slice_bounds-put_band-end
slice_bounds-put_band-end c = made_long

pub slice_bounds-deliver-end : goal.slice_bounds-deliver-end
slice_bounds-deliver-end c = made_long ∙ sym c.put_band-answer.auto.out

pub returns-in-Refused : goal.returns-in-Refused
returns-in-Refused c e =
    let a = c.args in
    answer_passed (drawing_of a.settings.now a.apertures.now a.starts.now a.entries.now) a.columns a.rows a.first a.n made c.put_band-answer.ensures (c.deliver.ensures.taken e)

pub slice_bounds-write_top-end : goal.slice_bounds-write_top-end
slice_bounds-write_top-end c = made_long

pub write_top-requires : goal.write_top-requires
write_top-requires c = rows_inside c.args.rows c.args.first c.args.n (sym c.rows_check-of_rows.ensures ∙ c.in_default.is)

pub returns-then-not-write_top : goal.returns-then-not-write_top
returns-then-not-write_top c e = absurd (clash e refl)

pub overflow_sub-left : goal.overflow_sub-left
overflow_sub-left c = omega (arith, c.rows_of.ensures)

pub slice_bounds-write_rest-end : goal.slice_bounds-write_rest-end
slice_bounds-write_rest-end c = made_long ∙ sym c.write_top.auto.out

pub write_rest-requires : goal.write_rest-requires
write_rest-requires c =
    let a = c.args in
    let inside : a.first + a.n ≤ a.rows = rows_inside a.rows a.first a.n (sym c.rows_check-of_rows.ensures ∙ c.in_default.is) in
    omega (arith, inside)

pub returns : goal.returns
returns c e = c.write_top.ensures c.if-not-write_top.false
