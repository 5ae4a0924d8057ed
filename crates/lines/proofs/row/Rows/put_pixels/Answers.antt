-- The columns of the words, and those behind them.
use Rattle.std.proofs.Common.{◌≡◌, ◌+◌, ◌-◌, ◌*◌, ◌/◌, ℕ, min, ap₂, ◌∙◌, arith}
use Rattle.text.specs.Put.{put_at}
use Rattle.lines.specs.Held.{columns_text}
use Rattle.lines.proofs.Columns.{room_left, more_behind}
use Rattle.lines.proofs.row.Rows.put_pixels.Goals as goal

-- the columns behind the words
behind : (columns n : ℕ) → n ≡ (columns + 7) / 8 → min (8 * n) columns - 8 * (8 * (columns / 64)) ≡ columns - 64 * (columns / 64)
behind columns n e =
    let m : min (8 * n) columns ≡ columns = omega arith in
    let f : 8 * (8 * (columns / 64)) ≡ 64 * (columns / 64) = omega arith in
    ap₂ ◌-◌ m f

pub returns : goal.returns
returns c =
    let s = c.args.self.now in
    let a = c.args in
    let past = 64 * (s.columns / 64) in
    let first : 8 * (8 * (s.columns / 64)) ≡ past = omega arith in
    more_behind s.a.now s.b.now s.digits.now s.short a.at 0 past (omega (arith, s.few)) a.out.now c.put_words-next.ensures
    past (s.columns - past) s.columns (omega arith) (omega arith) (omega (arith, s.few)) c.requires.room
    (c.put_bytes.ensures ∙ ap₂ (λ (f k : ℕ). put_at c.put_words-next.new.out c.put_words-next.result (columns_text s.a.now s.b.now s.digits.now f k)) first (behind s.columns c.length_of.result c.length_of.ensures))

pub put_bytes-requires-clause-room : goal.put_bytes-requires-clause-room
put_bytes-requires-clause-room c =
    let s = c.args.self.now in
    let a = c.args in
    let past = 64 * (s.columns / 64) in
    let room = room_left s.a.now s.b.now s.digits.now s.short a.at 0 past (omega (arith, s.few)) a.out.now c.put_words-next.ensures (s.columns - past) (omega (arith, c.requires.room)) in
    omega (arith, behind s.columns c.length_of.result c.length_of.ensures, room)
