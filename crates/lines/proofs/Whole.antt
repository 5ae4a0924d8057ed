-- A whole row: its number's line, and the lines of its pixels behind it.
use Prim.Native.Nat.{ℕ, ◌+◌, ◌*◌, ◌≤◌}
use native.Mathlib.Omega.{arith}
use mathlib.Core.Path.{◌≡◌, sym, ap, ◌∙◌}
use mathlib.Core.List.{List, ◌++◌, append-nil}
use lib.ListN.{length}
use borrow.Author.Tests.{le-leb}
use Rattle.limits.specs.Sizes.{raster_max}
use Rattle.bits.specs.Bits.{packed_length}
use Rattle.text.specs.Decimal.{decimal}
use Rattle.text.specs.Put.{Put, put_at}
use Rattle.text.proofs.Pieces.{put_fits, put_next, put_length}
use Rattle.difference.specs.Apart.{apart, differing, counted}
use Rattle.difference.proofs.Counting.{none_counted}
use Rattle.difference.proofs.Theorems.{few_differ}
use Rattle.lines.specs.Lines.{row_text, lines_text}
use Rattle.lines.specs.Rows.{row_lines}
use Rattle.lines.specs.Put.{text_room}
use Rattle.lines.specs.Held.{columns_text, Both}
use Rattle.lines.proofs.Texts.{row_few, columns_few, columns_none, pixels_text}

-- where both rows are there their differing pixels are counted
pub both_counted : (a b : List ℕ) (columns : ℕ) → Both a b columns → counted a b columns ≡ differing a b columns
both_counted a b columns h =
    rw (le-leb columns raster_max h.few, le-leb (packed_length columns) (length a) h.first, le-leb (packed_length columns) (length b) h.second)

-- and are no more than the columns
pub few_counted : (a b : List ℕ) (columns : ℕ) → Both a b columns → counted a b columns ≤ raster_max
few_counted a b columns h = omega (arith, both_counted a b columns h, few_differ a b columns, h.few)

module _ (a b out : List ℕ) (columns j : ℕ) (rows : Both a b columns) (small : j ≤ raster_max) (room : text_room ≤ length out) where
  -- the text of the row: the line of its number, and the text of its columns
  pub lines_text_lem : row_text j (differing a b columns) ++ columns_text a b (decimal j) 0 columns ≡ lines_text (row_lines a b columns j)
  unfolding lines_text
  lines_text_lem = ap (λ (l : List ℕ). row_text j (differing a b columns) ++ l) (sym (pixels_text a b j 0 columns))

  row_short : length (row_text j (differing a b columns)) ≤ 16
  row_short = row_few j (differing a b columns) small (omega (arith, few_differ a b columns, rows.few))

  -- where nothing differs the line of the number is all
  pub no_pixels : differing a b columns ≡ 0 → put_at out 0 (row_text j (differing a b columns)) ≡ put_at out 0 (lines_text (row_lines a b columns j))
  no_pixels e =
      let none = columns_none a b (decimal j) 0 columns (λ x low high. none_counted (apart a b) columns e x (omega arith)) in
      ap (put_at out 0) (sym (append-nil (row_text j (differing a b columns))) ∙ ap (λ (l : List ℕ). row_text j (differing a b columns) ++ l) (sym none) ∙ lines_text_lem)

  module _ {next : ℕ} {out' : List ℕ} (has : record { end = next; buffer = out' } ≡ put_at out 0 (row_text j (differing a b columns))) where
    -- behind that line there is room for all columns
    pub pixels_room : next + 14 * columns ≤ length out'
    pixels_room =
        let n : next ≡ 0 + length (row_text j (differing a b columns)) = ap (λ (p : Put). p.end) (has ∙ put_fits out 0 (row_text j (differing a b columns)) (omega (arith, row_short))) in
        let l : length out' ≡ length out = ap (λ (p : Put). length p.buffer) has ∙ put_length out 0 (row_text j (differing a b columns)) in
        omega (arith, row_short, rows.few)

    pub whole_row : length (decimal j) ≤ 5 → {P : Put} → P ≡ put_at out' next (columns_text a b (decimal j) 0 columns) → P ≡ put_at out 0 (lines_text (row_lines a b columns j))
    whole_row short e =
        let c = columns_few a b (decimal j) 0 columns (omega (arith, rows.few)) short in
        put_next out 0 (row_text j (differing a b columns)) (columns_text a b (decimal j) 0 columns) (omega (arith, row_short, rows.few)) has e
        ∙ ap (put_at out 0) lines_text_lem
