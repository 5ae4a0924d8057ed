-- The report of two whole files, given as their bytes.
use Rattle.std.specs.Prelude.{ℕ, zero, suc, ◌+◌, ◌-◌, ◌*◌, List, [], ◌++◌, length, take, drop, Result, Ok, Err}
use Rattle.bits.specs.Bits.{packed_length}
use Rattle.pbm.specs.Reading.{header_in}
use Rattle.text.specs.Ascii.{ascii}
use Rattle.lines.specs.Lines.{Line, lines_text}
use Rattle.lines.specs.Rows.{row_lines}
use Rattle.compare.specs.declared.Refusal.{Refusal}
use Rattle.compare.specs.declared.Sizes.{Sizes}
use Rattle.compare.specs.Refusals.{name, sizes_of, last_byte, Ends, ends_of}

-- "are refused by name before any row is reported": a report is a refusal, or lines
pub data Report : Type 0 where
  refused : Refusal → Report
  told : List Line → Report

-- "top row first": the rows from j - 1 down to 0, of films whose row k is a k and b k
unfoldable pub film_lines : ℕ → (ℕ → List ℕ) → (ℕ → List ℕ) → ℕ → List Line
film_lines columns a b zero = []
film_lines columns a b (suc j) = row_lines (a j) (b j) columns j ++ film_lines columns a b j

-- row j of a film whose data start at index `start` of its file: the top row comes first, so that rows - 1 - j are above it
abbrev pub row_in : List ℕ → ℕ → ℕ → ℕ → ℕ → List ℕ
row_in f columns rows start j = take (packed_length columns) (drop (start + (rows - 1 - j) * packed_length columns) f)

-- how many bytes a file has from its film's last byte on
abbrev pub end_of : List ℕ → ℕ → ℕ → ℕ → ℕ
end_of f columns rows start = length (drop (last_byte columns rows start) f)

-- what is left to report once the sizes, and then the ends, have been looked at
abbrev pub report_ended : List ℕ → List ℕ → ℕ → ℕ → ℕ → Ends → Report
report_ended f g columns rows start (Ok _) = told (film_lines columns (row_in f columns rows start) (row_in g columns rows start) rows)
report_ended f g columns rows start (Err r) = refused r

abbrev pub report_sized : List ℕ → List ℕ → Result Sizes Refusal → Report
report_sized f g (Ok s) = report_ended f g s.columns s.rows s.start (ends_of (end_of f s.columns s.rows s.start) (end_of g s.columns s.rows s.start))
report_sized f g (Err r) = refused r

abbrev pub report_of : List ℕ → List ℕ → Report
report_of f g = report_sized f g (sizes_of (header_in f) (header_in g))

-- its bytes
abbrev pub report_text : Report → List ℕ
report_text (refused r) = ascii (name r)
report_text (told ls) = lines_text ls
