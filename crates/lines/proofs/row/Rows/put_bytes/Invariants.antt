-- Before byte k: the columns of the bytes before it, of which the last may have spare bits.
use Rattle.std.proofs.Common.{◌-◌, ◌*◌, ◌≡◌, min}
use Rattle.text.specs.Put.{put_at}
use Rattle.lines.specs.Held.{columns_text}
use Rattle.lines.proofs.row.Rows.put_bytes.Given as goal

abbrev pub invariant-loop-k : goal.invariant-loop-k
invariant-loop-k l =
    record { end = l.next; buffer = l.out }
    ≡ put_at l.fn.out l.at (columns_text l.self.a.now l.self.b.now l.self.digits.now (8 * l.first) (min (8 * l.k) l.self.columns - 8 * l.first))
