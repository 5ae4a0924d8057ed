-- Each turn puts the line of one column behind those of the columns before it.
use Rattle.std.proofs.Common.{◌-◌, ◌≡◌}
use Rattle.text.specs.Put.{put_at}
use Rattle.lines.specs.Held.{columns_text}
use Rattle.lines.proofs.row.Rows.put_columns.Given as goal

abbrev pub invariant-loop-i : goal.invariant-loop-i
invariant-loop-i l =
    record { end = l.next; buffer = l.out } ≡ put_at l.fn.out l.at (columns_text l.self.a.now l.self.b.now l.self.digits.now l.from (l.i - l.from))
