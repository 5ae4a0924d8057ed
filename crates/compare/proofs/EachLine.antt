-- Each line of a report, by the places of the two files: EachPixel, EachRow and EachOnes of specs/Theorems.antt, each under its name there in small letters.
-- A report of films is the lines of their rows (Told), each of which names its row (FilmLines), and the rows' pixels are the films' (Places). So what the
-- crates below say of two rows is said of two films.
use Prim.Native.Nat.{ℕ, ◌+◌, ◌-◌, ◌*◌, ◌<◌}
use native.Mathlib.Omega.{arith}
use mathlib.Core.Path.{◌≡◌, refl, sym, ap₂, ◌∙◌, subst}
use mathlib.Core.Logic.{◌↔◌, inl, inr}
use mathlib.Core.Bool.{true}
use mathlib.Core.List.{List}
use lib.ListN.{length, drop, length-take, length-drop}
use Rattle.integers.specs.Count.{◌∈◌, Number}
use Rattle.integers.proofs.Count.{number_iff, number_unique}
use Rattle.wire.specs.Theorems.{AreBytes}
use Rattle.bits.specs.Bits.{packed_length}
use Rattle.pbm.specs.Pbm.{header}
use Rattle.difference.specs.Apart.{apart, differing}
use Rattle.difference.specs.RowOnes.{row_ones}
use Rattle.difference.proofs.Theorems.{one_black, differing_number, ones_number}
use Rattle.lines.specs.Lines.{Line, row, pixel}
use Rattle.lines.specs.Rows.{row_lines}
use Rattle.lines.specs.Theorems.{OnlyIn, line_row}
use Rattle.lines.proofs.Theorems.{row_pixels, row_number}
use Rattle.compare.specs.Report.{row_in, report_of}
use Rattle.compare.specs.Theorems.{Films, lines_of, OnlyFilm, EachPixel, EachRow, EachOnes}
use Rattle.compare.proofs.Told.{film_row, films_lines}
use Rattle.compare.proofs.FilmLines.{in_film}
use Rattle.compare.proofs.Places.{row_byte, only_bit}

-- two rows are apart in a column exactly where one of them alone has it black
apart_only : (a b : List ℕ) (i : ℕ) → (apart a b i ≡ true) ↔ ((film : ℕ) × OnlyIn a b i film)
apart_only a b i = (
  (λ e. elim ((one_black a b i).0 e) [ inl k ↦ (1, inl (refl, k)) | inr k ↦ (2, inr (refl, k)) ]),
  λ o. (one_black a b i).1 (elim o.1 [ inl k ↦ inl k.1 | inr k ↦ inr k.1 ]),
)

-- a part of a file of bytes is bytes
row_bytes : (f : List ℕ) (columns rows start j : ℕ) → AreBytes f → AreBytes (row_in f columns rows start j)
row_bytes f columns rows start j h k l =
    let at : ℕ = start + (rows - 1 - j) * packed_length columns in
    let taken = length-take (packed_length columns) (drop at f) in
    let there : at + k < length f = omega (arith, taken, length-drop at f) in
    omega (arith, row_byte f columns rows start j k (omega (arith, taken)), h (at + k) there)

module _ {f g : List ℕ} {columns rows : ℕ} (films : Films f g columns rows) where
  -- the rows of the two films
  abbrev a : ℕ → List ℕ
  a = film_row f columns rows

  abbrev b : ℕ → List ℕ
  b = film_row g columns rows

  -- l is a line of the row that it names
  abbrev InRow : Line → Type 0
  InRow l = (line_row l < rows) × (l ∈ row_lines (a (line_row l)) (b (line_row l)) columns (line_row l))

  -- the report is the lines of the film's rows, and each line names its row
  pub in_report : (l : Line) → (l ∈ lines_of (report_of f g)) ↔ InRow l
  in_report l = subst (λ (ls : List Line). (l ∈ ls) ↔ InRow l) (sym (films_lines films)) (in_film columns a b rows l)

  -- ---- a pixel's line: what row_pixels says of its row
  pixel_told : (i j film : ℕ) → (pixel i j film ∈ lines_of (report_of f g)) ↔ ((j < rows) × ((i < columns) × OnlyFilm f g columns rows i j film))
  pixel_told i j film =
      let there = in_report (pixel i j film) in
      let in_row = row_pixels (a j) (b j) columns j i j film in (
        (λ m. let h = there.0 m in let o = (in_row.0 h.1).1 in (h.0, (o.0, (only_bit columns rows i j o.0 f g film).0 o.1))),
        λ h. there.1 (h.0, in_row.1 (refl, (h.1.0, (only_bit columns rows i j h.1.0 f g film).1 h.1.1))),
      )

  -- ---- a row's line
  -- the films differ in column i of row j: one alone has it black
  abbrev Differs : ℕ → ℕ → Type 0
  Differs j i = (i < columns) × ((film : ℕ) × OnlyFilm f g columns rows i j film)

  -- it is where their rows are apart
  differs_iff : (j i : ℕ) → ((i < columns) × (apart (a j) (b j) i ≡ true)) ↔ Differs j i
  differs_iff j i = (
    (λ h. (h.0, let o = (apart_only (a j) (b j) i).0 h.1 in (o.0, (only_bit columns rows i j h.0 f g o.0).0 o.1))),
    λ h. (h.0, (apart_only (a j) (b j) i).1 (h.1.0, (only_bit columns rows i j h.0 f g h.1.0).1 h.1.1)),
  )

  -- so the number of a row's line is the number of those columns
  row_differs : (j : ℕ) → Number (Differs j) (differing (a j) (b j) columns)
  row_differs j = number_iff (λ i. (i < columns) × (apart (a j) (b j) i ≡ true)) (Differs j) (differs_iff j) (differing_number (a j) (b j) columns)

  -- and there is no other such number
  row_told : (j n : ℕ) → (row j n ∈ lines_of (report_of f g)) ↔ ((j < rows) × Number (Differs j) n)
  row_told j n =
      let there = in_report (row j n) in
      let in_row = row_number (a j) (b j) columns j j n in (
        (λ m. let h = there.0 m in (h.0, subst (Number (Differs j)) (sym (in_row.0 h.1).1) (row_differs j))),
        λ h. there.1 (h.0, in_row.1 (refl, number_unique ℕ (Differs j) n (differing (a j) (b j) columns) h.1 (row_differs j))),
      )

  -- ---- and it is the count of ones in the two rows' difference, where the files are bytes
  ones_told : AreBytes f → AreBytes g → (j n : ℕ) → row j n ∈ lines_of (report_of f g) →
      n ≡ row_ones (row_in f columns rows films.first.start j) (row_in g columns rows films.second.start j) columns
  ones_told hf hg j n m =
      let start : ℕ = length (header columns rows) in
      ((row_number (a j) (b j) columns j j n).0 ((in_report (row j n)).0 m).1).1
      ∙ sym (ones_number (a j) (b j) (row_bytes f columns rows start j hf) (row_bytes g columns rows start j hg) columns)
      ∙ ap₂ (λ (s t : ℕ). row_ones (row_in f columns rows s j) (row_in g columns rows t j) columns) (sym films.first.head.long) (sym films.second.head.long)

-- ---- the claims
pub each_pixel : EachPixel
each_pixel f g columns rows films = pixel_told films

pub each_row : EachRow
each_row f g columns rows films = row_told films

pub each_ones : EachOnes
each_ones f g hf hg columns rows films = ones_told films hf hg
