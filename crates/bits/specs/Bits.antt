-- A row of pixels as bits, eight to a byte, and black columns laid over it.
use Rattle.std.specs.Prelude.{ℕ, zero, suc, ◌+◌, ◌-◌, ◌*◌, ◌/◌, ◌%◌, ◌^◌, Bool, cond, ◌&&◌, List, [], ◌∷◌, leb, ltb, eqb, length, get_or}
use Rattle.std.specs.Int.Bits.{bit_or}

-- "the leftmost pixel in the highest bit, black is 1, spare bits are 0": the byte of the columns from i on, k bits of it, after the bits in acc
unfoldable pub bits_from : (ℕ → Bool) → ℕ → ℕ → ℕ → ℕ
bits_from f i zero acc = acc
bits_from f i (suc k) acc = bits_from f (suc i) k (2 * acc + cond (f i) 1 0)

-- the bytes of the columns from i on, n of them
unfoldable pub bytes_from : (ℕ → Bool) → ℕ → ℕ → List ℕ
bytes_from f i zero = []
bytes_from f i (suc n) = bits_from f i 8 0 ∷ bytes_from f (i + 8) n

-- "A packed row fills ceil(columns/8) bytes"
abbrev pub packed_length : ℕ → ℕ
packed_length columns = (columns + 7) / 8

-- the bytes of a row: the columns of the raster that are black
abbrev pub packed : (ℕ → Bool) → ℕ → List ℕ
packed f columns = bytes_from (λ x. ltb x columns && f x) 0 (packed_length columns)

-- column x is black by the bytes; past them none is
abbrev pub bit_at : List ℕ → ℕ → Bool
bit_at b x = eqb (get_or b (x / 8) 0 / 2 ^ (7 - x % 8) % 2) 1

-- bytes with those of another row laid over them: black is 1, so a bit is 1 where either has it
unfoldable pub laid_over : List ℕ → List ℕ → List ℕ
laid_over [] s = []
laid_over (d ∷ ds) [] = d ∷ ds
laid_over (d ∷ ds) (s ∷ ss) = bit_or d s ∷ laid_over ds ss

-- bytes with the columns at which f is true laid over them, as far as the bytes go
abbrev pub blackened : (ℕ → Bool) → List ℕ → List ℕ
blackened f b = laid_over b (bytes_from f 0 (length b))

-- the columns from `left` on and before `end`
abbrev pub span : ℕ → ℕ → ℕ → Bool
span left end x = leb left x && ltb x end
