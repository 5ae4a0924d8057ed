-- The text of a row's lines: how long it is at most, and that of neighbouring columns put together.
use Prim.Native.Nat.{ℕ, zero, suc, ◌+◌, ◌*◌, ◌≤◌, ◌<◌}
use native.Mathlib.Nat.{add-zero, zero-add, suc-add}
use native.Mathlib.Omega.{arith}
use mathlib.Core.Path.{◌≡◌, refl, sym, ap, ◌∙◌}
use mathlib.Core.Bool.{Bool, true, false, cond}
use mathlib.Core.List.{List, [], ◌∷◌, ◌++◌, append_assoc, append-nil}
use lib.ListN.{length, length-append}
use Rattle.limits.specs.Sizes.{raster_max}
use Rattle.bits.specs.Bits.{bit_at}
use Rattle.text.specs.Decimal.{last_digits, decimal}
use Rattle.text.proofs.Decimal.{few_digits}
use Rattle.difference.specs.Apart.{apart}
use Rattle.text.specs.Ascii.{ascii}
use Rattle.lines.specs.Lines.{Line, pixel, row_text, film_text, pixel_text, lines_text}
use Rattle.lines.specs.Rows.{pixel_lines}
use Rattle.lines.specs.Held.{column_text, columns_text}

-- ---- lengths: a number up to 16,384 has at most five digits
pub row_few : (j n : ℕ) → j ≤ raster_max → n ≤ raster_max → length (row_text j n) ≤ 16
unfolding ascii
row_few j n h k =
    let dj = few_digits j (omega arith) in
    let dn = few_digits n (omega arith) in
    simp length-append (omega arith)

-- " 1" or " 2", and the line end
pub film_text_lem : (first : Bool) → film_text (cond first 1 2) ≡ 32 ∷ cond first 49 50 ∷ 10 ∷ []
unfolding ascii last_digits
film_text_lem true = refl
film_text_lem false = refl

pub film_long : (first : Bool) → length (film_text (cond first 1 2)) ≡ 3
film_long first = ap length (film_text_lem first)

pub pixel_few : (i : ℕ) (digits : List ℕ) (first : Bool) → i ≤ raster_max → length digits ≤ 5 → length (pixel_text i digits (cond first 1 2)) ≤ 14
unfolding ascii
pixel_few i digits first h k =
    let d = few_digits i (omega arith) in
    let f = film_long first in
    omega (arith, length-append (decimal i ++ ascii " " ++ digits) (film_text (cond first 1 2)), length-append (decimal i ++ ascii " ") digits, length-append (decimal i) (ascii " "))

-- ---- the columns of two rows
module _ (a b digits : List ℕ) where
  -- a column has a line or none
  pub column_shown : (i : ℕ) → apart a b i ≡ true → column_text a b digits i ≡ pixel_text i digits (cond (bit_at a i) 1 2)
  column_shown i e = ap (λ (t : Bool). cond t (pixel_text i digits (cond (bit_at a i) 1 2)) []) e

  pub column_not : (i : ℕ) → apart a b i ≡ false → column_text a b digits i ≡ []
  column_not i e = ap (λ (t : Bool). cond t (pixel_text i digits (cond (bit_at a i) 1 2)) []) e

  pub column_few : (i : ℕ) → i ≤ raster_max → length digits ≤ 5 → length (column_text a b digits i) ≤ 14
  column_few i h k = go (apart a b i) refl
    where
      go : (t : Bool) → apart a b i ≡ t → length (column_text a b digits i) ≤ 14
      go true e = omega (arith, ap length (column_shown i e), pixel_few i digits (bit_at a i) h k)
      go false e = omega (arith, ap length (column_not i e))

  pub columns_few : (i n : ℕ) → i + n ≤ raster_max → length digits ≤ 5 → length (columns_text a b digits i n) ≤ 14 * n
  unfolding columns_text
  columns_few i zero h k = omega arith
  columns_few i (suc n) h k =
      omega (arith, length-append (column_text a b digits i) (columns_text a b digits (suc i) n), column_few i (omega arith) k, columns_few (suc i) n (omega arith) k)

  pub columns_add : (i m n : ℕ) → columns_text a b digits i m ++ columns_text a b digits (i + m) n ≡ columns_text a b digits i (m + n)
  unfolding columns_text
  columns_add i zero n = ap (λ (k : ℕ). columns_text a b digits k n) (add-zero i) ∙ ap (columns_text a b digits i) (sym (zero-add n))
  columns_add i (suc m) n =
      append_assoc (column_text a b digits i) (columns_text a b digits (suc i) m) (columns_text a b digits (i + suc m) n)
      ∙ ap (λ (k : ℕ). column_text a b digits i ++ (columns_text a b digits (suc i) m ++ columns_text a b digits k n)) (omega arith)
      ∙ ap (λ (l : List ℕ). column_text a b digits i ++ l) (columns_add (suc i) m n)
      ∙ ap (columns_text a b digits i) (sym (suc-add m n))

  pub one_column : (i : ℕ) → columns_text a b digits i 1 ≡ column_text a b digits i
  unfolding columns_text
  one_column i = append-nil (column_text a b digits i)

  -- where no column differs there is no text
  pub columns_none : (i n : ℕ) → ((x : ℕ) → i ≤ x → x < i + n → apart a b x ≡ false) → columns_text a b digits i n ≡ []
  unfolding columns_text
  columns_none i zero h = refl
  columns_none i (suc n) h =
      ap (λ (l : List ℕ). l ++ columns_text a b digits (suc i) n) (column_not i (h i (omega arith) (omega arith)))
      ∙ columns_none (suc i) n (λ x l m. h x (omega arith) (omega arith))

-- the lines as text, column by column
pub pixels_text : (a b : List ℕ) (j i n : ℕ) → lines_text (pixel_lines a b j i n) ≡ columns_text a b (decimal j) i n
unfolding lines_text pixel_lines columns_text
pixels_text a b j i zero = refl
pixels_text a b j i (suc n) = go (apart a b i) (pixel_lines a b j (suc i) n) (columns_text a b (decimal j) (suc i) n) (pixels_text a b j (suc i) n)
  where
    text : List ℕ
    text = pixel_text i (decimal j) (cond (bit_at a i) 1 2)

    go : (t : Bool) (ls : List Line) (l : List ℕ) → lines_text ls ≡ l → lines_text (cond t (pixel i j (cond (bit_at a i) 1 2) ∷ []) [] ++ ls) ≡ cond t text [] ++ l
    go true ls l r = ap (λ (k : List ℕ). text ++ k) r
    go false ls l r = r
