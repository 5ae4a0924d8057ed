-- What only the code is asked: a row's pixel lines as text, with the digits of the row at hand.
use Rattle.std.specs.Prelude.{ℕ, zero, suc, ◌≤◌, cond, List, [], ◌++◌, length}
use Rattle.limits.specs.Sizes.{raster_max}
use Rattle.bits.specs.Bits.{packed_length, bit_at}
use Rattle.difference.specs.Apart.{apart}
use Rattle.lines.specs.Lines.{pixel_text}

-- the line of column i, where the two rows differ there
abbrev pub column_text : List ℕ → List ℕ → List ℕ → ℕ → List ℕ
column_text a b digits i = cond (apart a b i) (pixel_text i digits (cond (bit_at a i) 1 2)) []

-- the lines of n columns from i on
unfoldable pub columns_text : List ℕ → List ℕ → List ℕ → ℕ → ℕ → List ℕ
columns_text a b digits i zero = []
columns_text a b digits i (suc n) = column_text a b digits i ++ columns_text a b digits (suc i) n

-- two packed rows that are there, of so many columns
pub record Both (a b : List ℕ) (columns : ℕ) : Type 0 where
  pub few : columns ≤ raster_max
  pub first : packed_length columns ≤ length a
  pub second : packed_length columns ≤ length b
