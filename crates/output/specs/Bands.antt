-- The bands of a film, or of some neighbouring rows of it, in the order in which they are written: the top one first.
use Rattle.std.specs.Prelude.{ℕ, zero, suc, ◌+◌, ◌-◌, ◌/◌, min, max, List, [], ◌++◌}
use Rattle.bits.specs.Bits.{packed_length}
use Rattle.checks.specs.Answer.{Result}
use Rattle.drawing.specs.Strokes.{Drawing}
use Rattle.drawing.specs.Film.{band_of, band_put}

-- how many bytes the buffer has
abbrev pub band_bytes : ℕ
band_bytes = 524288

-- how many rows of so many bytes the next band has, where so many are left: as many as fit into the buffer, and one at least
abbrev pub rows_of : ℕ → ℕ → ℕ
rows_of width left = min left (max (band_bytes / max width 1) 1)

-- the next band, where so many rows from row `first` on are left: the highest of them
abbrev pub next_band : Drawing → ℕ → ℕ → ℕ → ℕ → List ℕ
next_band d columns rows first left = let n = rows_of (packed_length columns) left in band_of d columns rows (first + (left - n)) n

-- put into a buffer
abbrev pub next_put : Drawing → ℕ → ℕ → ℕ → ℕ → List ℕ → Result ℕ
next_put d columns rows first left b = let n = rows_of (packed_length columns) left in band_put d columns rows (first + (left - n)) n b

-- one band behind the other, so many at most, until no row is left
unfoldable pub bands_from : Drawing → ℕ → ℕ → ℕ → ℕ → ℕ → List ℕ
bands_from d columns rows first zero left = []
bands_from d columns rows first (suc bands) left = next_band d columns rows first left ++ bands_from d columns rows first bands (left - rows_of (packed_length columns) left)

-- all of them: there are no more bands than rows
abbrev pub all_bands : Drawing → ℕ → ℕ → ℕ → ℕ → List ℕ
all_bands d columns rows first n = bands_from d columns rows first n n
