-- The lines of one word's columns more, for which there is room.
use Rattle.std.proofs.Common.{◌+◌, ◌*◌, arith}
use Rattle.lines.proofs.Columns.{none, room_left, more_behind}
use Rattle.lines.proofs.row.Rows.put_words.Goals as goal

pub loop-i-init : goal.loop-i-init
loop-i-init c =
    let s = c.args.self.now in
    let a = c.args in
    none s.a.now s.b.now s.digits.now s.short a.at 0 0 (omega arith) a.out.now (omega arith) (omega arith)

pub put_word-next-requires-clause-room : goal.put_word-next-requires-clause-room
put_word-next-requires-clause-room c =
    let s = c.args.self.now in
    let a = c.args in
    let r = c.requires in
    let l = c.loop-i in
    room_left s.a.now s.b.now s.digits.now s.short a.at 0 (64 * l.i) (omega (arith, s.few, r.words)) a.out.now l.invariant 64 (omega (arith, r.room))

pub loop-i-preserved : goal.loop-i-preserved
loop-i-preserved c =
    let s = c.args.self.now in
    let a = c.args in
    let r = c.requires in
    let l = c.loop-i in
    more_behind s.a.now s.b.now s.digits.now s.short a.at 0 (64 * l.i) (omega (arith, s.few, r.words)) a.out.now l.invariant
    (64 * l.i) 64 (64 * (l.i + 1)) (omega arith) (omega arith) (omega (arith, s.few, r.words)) (omega (arith, r.room)) c.put_word-next.ensures
