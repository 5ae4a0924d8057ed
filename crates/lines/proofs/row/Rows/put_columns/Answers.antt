-- The line of one column more, for which there is room.
use Rattle.std.proofs.Common.{◌+◌, ◌-◌, arith}
use Rattle.lines.proofs.Columns.{none, room_left, column_behind}
use Rattle.lines.proofs.row.Rows.put_columns.Goals as goal

pub loop-i-init : goal.loop-i-init
loop-i-init c =
    let s = c.args.self.now in
    let a = c.args in
    none s.a.now s.b.now s.digits.now s.short a.at a.from (a.from - a.from) (omega (arith, s.few)) a.out.now (omega arith) (omega arith)

pub put_column-next-requires-clause-room : goal.put_column-next-requires-clause-room
put_column-next-requires-clause-room c =
    let s = c.args.self.now in
    let a = c.args in
    let l = c.loop-i in
    room_left s.a.now s.b.now s.digits.now s.short a.at a.from (l.i - a.from) (omega (arith, s.few)) a.out.now l.invariant 1 (omega arith)

pub loop-i-preserved : goal.loop-i-preserved
loop-i-preserved c =
    let s = c.args.self.now in
    let a = c.args in
    let l = c.loop-i in
    column_behind s.a.now s.b.now s.digits.now s.short a.at a.from (l.i - a.from) (omega (arith, s.few)) a.out.now l.invariant
    l.i (l.i + 1 - a.from) (omega arith) (omega arith) (omega (arith, s.few)) (omega arith) c.put_column-next.ensures
