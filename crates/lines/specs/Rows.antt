-- The lines of two packed rows laid over each other.
use Rattle.std.specs.Prelude.{ℕ, zero, suc, cond, List, [], ◌∷◌, ◌++◌}
use Rattle.bits.specs.Bits.{bit_at}
use Rattle.difference.specs.Apart.{apart, differing}
use Rattle.lines.specs.Lines.{Line, row, pixel}

-- column i of row j, where the two rows differ there, with the film that has it black
abbrev pub column_lines : List ℕ → List ℕ → ℕ → ℕ → List Line
column_lines a b j i = cond (apart a b i) (pixel i j (cond (bit_at a i) 1 2) ∷ []) []

-- "left to right": n columns from i on
unfoldable pub pixel_lines : List ℕ → List ℕ → ℕ → ℕ → ℕ → List Line
pixel_lines a b j i zero = []
pixel_lines a b j i (suc n) = column_lines a b j i ++ pixel_lines a b j (suc i) n

-- the number of row j, and then its pixels
abbrev pub row_lines : List ℕ → List ℕ → ℕ → ℕ → List Line
row_lines a b columns j = row j (differing a b columns) ∷ pixel_lines a b j 0 columns
