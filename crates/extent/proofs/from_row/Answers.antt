-- An i32 fits an i64, also less the row's place.
use Rattle.integers.proofs.Machine.{sub}
use Rattle.integers.proofs.Words.{widened_from}
use Rattle.limits.proofs.Rows.{row_place}
use Rattle.extent.proofs.from_row.Goals as goal

pub returns : goal.returns
returns c =
    let f = c.ranges in
    let at = row_place c.requires in
    rw ((widened_from f.ax c.from.ensures tt).reads, (sub (widened_from f.ay c.from-2.ensures tt) at tt).reads, (widened_from f.bx c.from-3.ensures tt).reads, (sub (widened_from f.by c.from-4.ensures tt) at tt).reads)
