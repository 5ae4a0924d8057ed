-- A byte that is the same in both rows has no lines.
use Rattle.std.proofs.Common.{◌+◌, ◌-◌, ◌*◌, min, refl, arith}
use Rattle.lines.proofs.Columns.{no_byte}
use Rattle.lines.proofs.row.Rows.put_byte.Goals as goal

pub returns-then-self-k : goal.returns-then-self-k
returns-then-self-k c =
    let s = c.args.self.now in
    let a = c.args in
    no_byte s.a.now s.b.now s.digits.now a.out.now a.at (8 * a.k) (min (8 * a.k + 8) s.columns - 8 * a.k) (omega arith) a.k c.if-self-k.true refl (omega arith)
