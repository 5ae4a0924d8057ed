-- W1's other wording, over whole numbers: "the count of ones in the two rows' difference without spare bits".
use Rattle.std.specs.Prelude.{ℕ, zero, suc, ◌+◌, ◌-◌, ◌*◌, ◌/◌, ◌^◌, List, get_or}
use Rattle.std.specs.Int.Bits.{bit_xor}
use Rattle.std.specs.Int.Count.{ones}
use Rattle.bits.specs.Bits.{packed_length}

-- the first n bytes of a row as one number: the leftmost pixel is its highest bit
unfoldable pub number_of_row : List ℕ → ℕ → ℕ
number_of_row row zero = 0
number_of_row row (suc n) = number_of_row row n * 256 + get_or row n 0

-- "spare bits": how many bits of a packed row's bytes are past its last column
abbrev pub spare_bits : ℕ → ℕ
spare_bits columns = 8 * packed_length columns - columns

-- "the two rows' difference": a number with a one where they differ, spare bits included
abbrev pub row_difference : List ℕ → List ℕ → ℕ → ℕ
row_difference a b columns = bit_xor (number_of_row a (packed_length columns)) (number_of_row b (packed_length columns))

-- "the count of ones in the two rows' difference without spare bits", which are the lowest
abbrev pub row_ones : List ℕ → List ℕ → ℕ → ℕ
row_ones a b columns = ones (row_difference a b columns / 2 ^ spare_bits columns)
