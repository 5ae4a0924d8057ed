-- The text of a row in a lent buffer.
use Rattle.std.specs.Prelude.{ℕ, Bool, cond, ◌&&◌, List, leb, length, Option, Some, None}
use Rattle.limits.specs.Sizes.{is_size, is_row}
use Rattle.bits.specs.Bits.{packed_length}
use Rattle.text.specs.Put.{put_at}
use Rattle.lines.specs.Lines.{lines_text}
use Rattle.lines.specs.Rows.{row_lines}

-- no row's text is longer (RowFits): a line as "row 16383 16384" and 16,384 as "16383 16383 1", with their line ends
abbrev pub text_room : ℕ
text_room = 229392

-- both packed rows have so many bytes, and the buffer has room for any row's text
abbrev pub is_whole : ℕ → ℕ → ℕ → ℕ → Bool
is_whole length first second room = leb length first && (leb length second && leb text_room room)

-- there is such a row, and all of it
abbrev pub is_ready : ℕ → ℕ → ℕ → ℕ → ℕ → Bool
is_ready columns j first second room = is_size columns && (is_row j && is_whole (packed_length columns) first second room)

-- how many bytes the text of a row has, and the buffer that has it at its start
pub record RowPut : Type 0 where
  pub count : Option ℕ
  pub buffer : List ℕ

-- where there is no such row nothing is put
abbrev pub row_put : List ℕ → List ℕ → ℕ → ℕ → List ℕ → RowPut
row_put a b columns j out =
    let p = put_at out 0 (lines_text (row_lines a b columns j)) in
    cond (is_ready columns j (length a) (length b) (length out)) (record { count = Some p.end; buffer = p.buffer }) (record { count = None; buffer = out })
