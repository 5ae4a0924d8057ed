-- All lines of a report: their order, and what they depend on. InOrder, SamePixel, SpareBitsNothing and FilmOverItself of specs/Theorems.antt, each under its name there
-- in small letters.
use Prim.Native.Nat.{ℕ, ◌<◌}
use mathlib.Core.Path.{◌≡◌, sym, ap, ◌∙◌, subst}
use mathlib.Core.List.Memᴰ.{eq_of_singleton as only}
use mathlib.Core.List.{List}
use Rattle.std.specs.Prelude.{Result, Ok, Err}
use Rattle.integers.specs.Count.{◌∈◌}
use Rattle.pbm.specs.Reading.{header_in}
use Rattle.lines.specs.Lines.{Line}
use Rattle.lines.specs.Rows.{row_lines}
use Rattle.lines.specs.Theorems.{line_row, Ordered}
use Rattle.lines.proofs.Theorems.{row_same, row_over_itself}
use Rattle.compare.specs.declared.Sizes.{Sizes}
use Rattle.compare.specs.declared.Refusal.{Refusal}
use Rattle.compare.specs.Refusals.{sizes_of, Ends, ends_of}
use Rattle.compare.specs.Report.{told, film_lines, row_in, end_of, report_ended, report_sized}
use Rattle.compare.specs.Theorems.{lines_of, InOrder, SamePixel, SpareBitsNothing, FilmOverItself}
use Rattle.compare.proofs.Told.{film_row, films_told}
use Rattle.compare.proofs.FilmLines.{film_ordered, film_same}
use Rattle.compare.proofs.Places.{same_bits}
use Rattle.compare.proofs.EachLine.{in_report}

-- ---- "top row first and left to right": a refusal has no lines, and the lines of rows are in order whatever the rows are
ended_ordered : (f g : List ℕ) (columns rows start : ℕ) (e : Ends) → Ordered (lines_of (report_ended f g columns rows start e))
ended_ordered f g columns rows start (Ok _) = film_ordered columns (row_in f columns rows start) (row_in g columns rows start) rows
ended_ordered f g columns rows start (Err r) = tt

-- whatever the sizes say, it is one or the other
sized_ordered : (f g : List ℕ) (s : Result Sizes Refusal) → Ordered (lines_of (report_sized f g s))
sized_ordered f g (Ok s) = ended_ordered f g s.columns s.rows s.start (ends_of (end_of f s.columns s.rows s.start) (end_of g s.columns s.rows s.start))
sized_ordered f g (Err r) = tt

-- and whatever the headers are
pub in_order : InOrder
in_order f g = sized_ordered f g (sizes_of (header_in f) (header_in g))

-- ---- "without spare bits": the lines of each row are those of its pixels
module _ (f g f' g' : List ℕ) (columns rows : ℕ) (p : SamePixel f f' columns rows) (q : SamePixel g g' columns rows) where
  abbrev a : ℕ → List ℕ
  a = film_row f columns rows

  abbrev b : ℕ → List ℕ
  b = film_row g columns rows

  abbrev a' : ℕ → List ℕ
  a' = film_row f' columns rows

  abbrev b' : ℕ → List ℕ
  b' = film_row g' columns rows

  -- two rows with the same pixels have the same lines
  same_row : (j : ℕ) → j < rows → row_lines (a j) (b j) columns j ≡ row_lines (a' j) (b' j) columns j
  same_row j h = row_same (a j) (a' j) (b j) (b' j) columns j (same_bits f f' columns rows j p h) (same_bits g g' columns rows j q h)

  -- so all rows together have
  same_lines : film_lines columns a b rows ≡ film_lines columns a' b' rows
  same_lines = film_same columns a b a' b' rows same_row

pub spare_bits_nothing : SpareBitsNothing
spare_bits_nothing f g f' g' columns rows films films' p q = films_told films ∙ ap told (same_lines f g f' g' columns rows p q) ∙ sym (films_told films')

-- ---- a film laid over itself: each row has one line, with the number 0
pub film_over_itself : FilmOverItself
film_over_itself f columns rows film l m =
    let j = line_row l in
    let h = (in_report (record { first = film; second = film }) l).0 m in
    (j, only (subst (λ (ls : List Line). l ∈ ls) (row_over_itself (film_row f columns rows j) columns j) h.1))
