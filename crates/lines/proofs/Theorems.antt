-- The claims of specs/Theorems.antt, each under its name there in small letters.
use Prim.Native.Nat.{ℕ, ◌<◌}
use native.Mathlib.Omega.{arith}
use mathlib.Core.Path.{◌≡◌, refl, sym, ap, ap₂, ◌∙◌}
use mathlib.Core.Logic.{inl, inr}
use mathlib.Core.Bool.{cond}
use mathlib.Core.List.Memᴰ.{cases_cons as cases}
use mathlib.Core.List.Memᴰ.{head}
use mathlib.Core.List.Memᴰ.{tail}
use mathlib.Core.List.{List, ◌∷◌}
use lib.ListN.{length, length-append}
use Rattle.integers.specs.Count.{◌∈◌}
use Rattle.bits.specs.Bits.{bit_at}
use Rattle.text.specs.Decimal.{last_digits, decimal}
use Rattle.text.proofs.Decimal.{few_digits}
use Rattle.difference.specs.Apart.{apart, differing}
use Rattle.difference.proofs.Theorems.{same_pixels, over_itself, few_differ}
use Rattle.text.specs.Ascii.{ascii}
use Rattle.lines.specs.Lines.{Line, row, pixel, row_text, lines_text}
use Rattle.lines.specs.Rows.{pixel_lines}
use Rattle.lines.specs.Theorems.{OnlyIn, RowPixels, RowNumber, line_row, line_place, RowOrdered, RowSame, RowOverItself, RowFits, LinesSpelt}
use Rattle.lines.proofs.Texts.{row_few, columns_few, pixels_text}
use Rattle.lines.proofs.Pixels.{film_only, shown, is_shown, pixels_ordered, pixels_same, pixels_none}

-- ---- what a line tells, so that equal lines tell the same
abbrev line_number : Line → ℕ
line_number (row j n) = n
line_number (pixel i j film) = film

-- the line of a row's number is no pixel's
not_pixel : {i j k n film : ℕ} → row k n ≡ pixel i j film → ⊥
not_pixel e = omega (arith, ap line_place e)

-- ---- a pixel's line among those of row j: it is of that row, of one of its columns, and has the film that alone has that column black
module _ (a b : List ℕ) (columns j i k film : ℕ) where
  told : pixel i k film ∈ pixel_lines a b j 0 columns → (k ≡ j) × ((i < columns) × OnlyIn a b i film)
  told m =
      let h = shown a b j 0 columns (pixel i k film) m in
      let e : i ≡ h.column = omega (arith, ap line_place h.line) in
      let black : film ≡ cond (bit_at a i) 1 2 = ap line_number h.line ∙ ap (λ (x : ℕ). cond (bit_at a x) 1 2) (sym e) in
      (ap line_row h.line, (omega (arith, e, h.high), (film_only (bit_at a i) (bit_at b i) film).0 (ap (apart a b) e ∙ h.differs, black)))

  tells : (k ≡ j) × ((i < columns) × OnlyIn a b i film) → pixel i k film ∈ pixel_lines a b j 0 columns
  tells h =
      let f = (film_only (bit_at a i) (bit_at b i) film).1 h.1.1 in
      is_shown a b j 0 columns (pixel i k film) record { column = i; low = omega arith; high = omega (arith, h.1.0); differs = f.0; line = ap₂ (pixel i) h.0 f.1 }

pub row_pixels : RowPixels
row_pixels a b columns j i k film = (
  (λ m. elim (cases m) [ inl e ↦ absurd (not_pixel (sym e)) | inr r ↦ told a b columns j i k film r ]),
  λ h. tail (tells a b columns j i k film h),
)

-- ---- the number's line, the order, and what the lines depend on
-- the number's line stands first, and no other tells a number
pub row_number : RowNumber
row_number a b columns j k n = (
  (λ m. elim (cases m) [
    | inl e ↦ (ap line_row e, ap line_number e)
    | inr r ↦ absurd (not_pixel (shown a b j 0 columns (row k n) r).line)
  ]),
  λ h. head (ap₂ row h.0 h.1),
)

-- the number's place is left of every column
pub row_ordered : RowOrdered
row_ordered a b columns j = (
  (λ m k. let h = shown a b j 0 columns m k in inr (ap line_row h.line, omega (arith, ap line_place h.line))),
  pixels_ordered a b j 0 columns,
)

-- the same number, and the same pixels
pub row_same : RowSame
row_same a a' b b' columns j e f =
    ap₂ (λ (n : ℕ) (ls : List Line). row j n ∷ ls)
    (same_pixels a a' b b' columns e f)
    (pixels_same a a' b b' j 0 columns (λ x l. e x (omega arith)) (λ x l. f x (omega arith)))

-- the number 0, and no pixel
pub row_over_itself : RowOverItself
row_over_itself a columns j = ap₂ (λ (n : ℕ) (ls : List Line). row j n ∷ ls) (over_itself a columns) (pixels_none a j 0 columns)

-- 16 bytes for the number's line, and 14 for each column
pub row_fits : RowFits
unfolding lines_text
row_fits a b columns j h k =
    let n = differing a b columns in
    let short = few_digits j (omega arith) in
    omega (
      arith,
      length-append (row_text j n) (lines_text (pixel_lines a b j 0 columns)),
      row_few j n (omega arith) (omega (arith, few_differ a b columns)),
      ap length (pixels_text a b j 0 columns),
      columns_few a b (decimal j) 0 columns (omega arith) short,
    )

-- ---- the text of some lines, computed
pub lines_spelt : LinesSpelt
unfolding lines_text ascii last_digits
lines_spelt = refl
