-- Three lists are made, lent to be filled, and lent again to be drawn. That each is as long as was asked, a lemma tells: to compute it would be to count half a million
-- entries one by one.
use Rattle.std.proofs.Common.{◌∙◌, ℕ, ℤ, pos, sym}
use Rattle.std.proofs.Math.ListN.{length-replicate}
use Rattle.plot.proofs.draw_file.Goals as goal

pub slice_bounds-read-end : goal.slice_bounds-read-end
slice_bounds-read-end c = sym (length-replicate {A = ℤ} 524288 (pos 0))

pub slice_bounds-read-end-2 : goal.slice_bounds-read-end-2
slice_bounds-read-end-2 c = sym (length-replicate {A = ℕ} 131072 0)

pub slice_bounds-read-end-3 : goal.slice_bounds-read-end-3
slice_bounds-read-end-3 c = sym (length-replicate {A = ℕ} 131073 0)

pub slice_bounds-write_film-end : goal.slice_bounds-write_film-end
slice_bounds-write_film-end c = sym (c.read.auto.apertures ∙ length-replicate {A = ℕ} 131072 0)

pub slice_bounds-write_film-end-2 : goal.slice_bounds-write_film-end-2
slice_bounds-write_film-end-2 c = sym (c.read.auto.starts ∙ length-replicate {A = ℕ} 131073 0)

pub slice_bounds-write_film-end-3 : goal.slice_bounds-write_film-end-3
slice_bounds-write_film-end-3 c = sym (c.read.auto.path ∙ length-replicate {A = ℤ} 524288 (pos 0))
