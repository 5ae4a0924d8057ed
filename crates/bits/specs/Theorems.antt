-- Which columns are black by the bytes. The claims are types; proofs/Theorems.antt proves each under its name.
use Rattle.std.specs.Prelude.{ℕ, ◌/◌, ◌<◌, ◌≡◌, Bool, ◌&&◌, ◌||◌, List, ltb, length}
use Rattle.bits.specs.Bits.{packed, bit_at, laid_over, blackened}

-- "the leftmost pixel in the highest bit, black is 1, spare bits are 0": by a packed row, the columns of the raster that it packs
abbrev pub PackedBlack : Type 0
PackedBlack = (f : ℕ → Bool) (columns x : ℕ) → bit_at (packed f columns) x ≡ (ltb x columns && f x)

-- by bytes that others are laid over, those that were black and those that are black by the others
abbrev pub LaidBlack : Type 0
LaidBlack = (d s : List ℕ) (x : ℕ) → x / 8 < length d → bit_at (laid_over d s) x ≡ (bit_at d x || bit_at s x)

-- the same of columns that are laid over bytes
abbrev pub BlackenedBlack : Type 0
BlackenedBlack = (f : ℕ → Bool) (b : List ℕ) (x : ℕ) → x / 8 < length b → bit_at (blackened f b) x ≡ (bit_at b x || f x)
