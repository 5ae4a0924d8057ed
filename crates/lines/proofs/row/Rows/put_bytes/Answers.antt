-- The lines of one byte's columns more, for which there is room.
use Rattle.std.proofs.Common.{◌+◌, ◌-◌, ◌*◌, ◌≤◌, min, arith}
use Rattle.lines.proofs.Columns.{none, room_left, more_behind, byte_more}
use Rattle.lines.proofs.row.Rows.put_bytes.Goals as goal

pub loop-k-init : goal.loop-k-init
loop-k-init c =
    let s = c.args.self.now in
    let a = c.args in
    none s.a.now s.b.now s.digits.now s.short a.at (8 * a.first) (min (8 * a.first) s.columns - 8 * a.first) (omega (arith, s.few)) a.out.now (omega arith) (omega (arith, c.requires.room))

pub put_byte-next-requires-clause-room : goal.put_byte-next-requires-clause-room
put_byte-next-requires-clause-room c =
    let s = c.args.self.now in
    let a = c.args in
    let r = c.requires in
    let l = c.loop-k in
    let inside : 8 * l.k ≤ s.columns = omega (arith, r.few) in
    room_left s.a.now s.b.now s.digits.now s.short a.at (8 * a.first) (min (8 * l.k) s.columns - 8 * a.first) (omega (arith, s.few)) a.out.now l.invariant
    (min (8 * l.k + 8) s.columns - 8 * l.k) (omega (arith, r.room))

pub loop-k-preserved : goal.loop-k-preserved
loop-k-preserved c =
    let s = c.args.self.now in
    let a = c.args in
    let r = c.requires in
    let l = c.loop-k in
    let inside : 8 * l.k ≤ s.columns = omega (arith, r.few) in
    let past : a.first ≤ l.k = omega arith in
    more_behind s.a.now s.b.now s.digits.now s.short a.at (8 * a.first) (min (8 * l.k) s.columns - 8 * a.first) (omega (arith, s.few)) a.out.now l.invariant
    (8 * l.k) (min (8 * l.k + 8) s.columns - 8 * l.k) (min (8 * (l.k + 1)) s.columns - 8 * a.first) (omega arith) (byte_more a.first l.k s.columns past inside) (omega (arith, s.few)) (omega (arith, r.room)) c.put_byte-next.ensures
