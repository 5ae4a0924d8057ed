-- The number of a row is that of its pixel lines in the report: EachNumber of specs/Theorems.antt. A report's lines are those of its rows, and each names its row.
use Prim.Native.Nat.{ℕ, ◌<◌}
use native.Mathlib.Omega.{arith}
use mathlib.Core.Path.{◌≡◌, sym, ap, subst}
use mathlib.Core.Logic.{◌↔◌}
use mathlib.Core.List.Memᴰ.{not-nil}
use mathlib.Core.List.{List}
use Rattle.std.specs.Prelude.{Result, Ok, Err}
use Rattle.integers.specs.Count.{◌∈◌, Number}
use Rattle.integers.proofs.Count.{number_iff}
use Rattle.pbm.specs.Reading.{header_in}
use Rattle.lines.specs.Lines.{Line, row}
use Rattle.lines.specs.Rows.{row_lines}
use Rattle.lines.specs.Theorems.{PixelOf, line_row}
use Rattle.lines.proofs.Theorems.{row_number}
use Rattle.lines.proofs.Entries.{row_entries}
use Rattle.difference.specs.Apart.{differing}
use Rattle.compare.specs.declared.Sizes.{Sizes}
use Rattle.compare.specs.declared.Refusal.{Refusal}
use Rattle.compare.specs.Refusals.{sizes_of, Ends, ends_of}
use Rattle.compare.specs.Report.{film_lines, row_in, end_of, report_ended, report_sized}
use Rattle.compare.specs.Theorems.{lines_of, EachNumber}
use Rattle.compare.proofs.FilmLines.{in_film}

-- what is claimed of some lines
abbrev Counted : List Line → Type 0
Counted ls = (j n : ℕ) → row j n ∈ ls → Number (λ l. (l ∈ ls) × PixelOf j l) n

-- of a film's lines: the pixel lines of row j in them are those in the lines of row j
film_counted : (columns : ℕ) (a b : ℕ → List ℕ) (rows : ℕ) → Counted (film_lines columns a b rows)
film_counted columns a b rows j n m =
    let ls = film_lines columns a b rows in
    let h = (in_film columns a b rows (row j n)).0 m in
    let e : n ≡ differing (a j) (b j) columns = ((row_number (a j) (b j) columns j j n).0 h.1).1 in
    let same : (l : Line) → ((l ∈ row_lines (a j) (b j) columns j) × PixelOf j l) ↔ ((l ∈ ls) × PixelOf j l) =
    λ l. ((λ k. ((in_film columns a b rows l).1 (here l k.1 h.0 k.0), k.1)), λ k. (back l k.1 ((in_film columns a b rows l).0 k.0).1, k.1)) in
    subst (Number (λ l. (l ∈ ls) × PixelOf j l)) (sym e) (number_iff _ _ same (row_entries (a j) (b j) columns j))
  where
    here : (l : Line) → PixelOf j l → j < rows → l ∈ row_lines (a j) (b j) columns j → (line_row l < rows) × (l ∈ row_lines (a (line_row l)) (b (line_row l)) columns (line_row l))
    here l p h m =
        let e : j ≡ line_row l = sym (ap line_row p.1.1) in
        (omega (arith, e, h), subst (λ (k : ℕ). l ∈ row_lines (a k) (b k) columns k) e m)

    back : (l : Line) → PixelOf j l → l ∈ row_lines (a (line_row l)) (b (line_row l)) columns (line_row l) → l ∈ row_lines (a j) (b j) columns j
    back l p m = subst (λ (k : ℕ). l ∈ row_lines (a k) (b k) columns k) (ap line_row p.1.1) m

-- a refusal has no lines
ended_counted : (f g : List ℕ) (columns rows start : ℕ) (e : Ends) → Counted (lines_of (report_ended f g columns rows start e))
ended_counted f g columns rows start (Ok _) = film_counted columns (row_in f columns rows start) (row_in g columns rows start) rows
ended_counted f g columns rows start (Err r) = λ j n m. absurd (not-nil m)

sized_counted : (f g : List ℕ) (s : Result Sizes Refusal) → Counted (lines_of (report_sized f g s))
sized_counted f g (Ok s) = ended_counted f g s.columns s.rows s.start (ends_of (end_of f s.columns s.rows s.start) (end_of g s.columns s.rows s.start))
sized_counted f g (Err r) = λ j n m. absurd (not-nil m)

pub each_number : EachNumber
each_number f g = sized_counted f g (sizes_of (header_in f) (header_in g))
