-- The columns in which two packed rows differ, and how many they are.
use Rattle.std.specs.Prelude.{ℕ, zero, suc, ◌+◌, Bool, cond, ◌&&◌, List, leb, length}
use Rattle.std.specs.Bool.{xor}
use Rattle.limits.specs.Sizes.{raster_max}
use Rattle.bits.specs.Bits.{packed_length, bit_at}

-- the two rows differ in column x: one has it black and the other not
abbrev pub apart : List ℕ → List ℕ → ℕ → Bool
apart a b x = xor (bit_at a x) (bit_at b x)

-- how many of the numbers below n pass a test
unfoldable pub count_below : (ℕ → Bool) → ℕ → ℕ
count_below p zero = 0
count_below p (suc n) = count_below p n + cond (p n) 1 0

-- "the number of differing pixels": how many of the columns of the raster are apart, and so "without spare bits"
abbrev pub differing : List ℕ → List ℕ → ℕ → ℕ
differing a b columns = count_below (apart a b) columns

-- both rows are there, and are no wider than a raster can be
abbrev pub are_rows : List ℕ → List ℕ → ℕ → Bool
are_rows a b columns = leb columns raster_max && (leb (packed_length columns) (length a) && leb (packed_length columns) (length b))

-- what `differing` answers: where a row is not there, 0
abbrev pub counted : List ℕ → List ℕ → ℕ → ℕ
counted a b columns = cond (are_rows a b columns) (differing a b columns) 0
