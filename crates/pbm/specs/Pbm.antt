-- Document 01, "Cases" and "Units and sizes": a raw PBM file.
use Rattle.std.specs.Prelude.{ℕ, zero, suc, ◌*◌, cond, ◌&&◌, List, [], ◌∷◌, ◌++◌, length}
use Rattle.limits.specs.Sizes.{is_size}
use Rattle.bits.specs.Bits.{packed_length}
use Rattle.checks.specs.Checks.{raster_verdict}
use Rattle.checks.specs.Answer.{Result, Offer, given}
use Rattle.text.specs.Decimal.{decimal}
use Rattle.text.specs.Put.{started}

-- "the characters P4, newline, 5, space, 3, newline": here with any digits of the columns and of the rows
abbrev pub headed : List ℕ → List ℕ → List ℕ
headed columns rows = (80 ∷ 52 ∷ 10 ∷ []) ++ columns ++ (32 ∷ []) ++ rows ++ (10 ∷ [])

-- "Sizes are decimal without leading zeros, columns first"
abbrev pub header : ℕ → ℕ → List ℕ
header columns rows = headed (decimal columns) (decimal rows)

-- "The top row comes first": the bytes of row rows - 1 down to row 0
unfoldable pub top_first : ℕ → (ℕ → List ℕ) → List ℕ
top_first zero row = []
top_first (suc j) row = row j ++ top_first j row

-- a whole file: the header and the packed rows
abbrev pub file : ℕ → ℕ → (ℕ → List ℕ) → List ℕ
file columns rows row = header columns rows ++ top_first rows row

-- "A packed row fills ceil(columns/8) bytes": how many bytes all rows fill, and 0 where there is no raster of these sizes
abbrev pub data_length : ℕ → ℕ → ℕ
data_length columns rows = cond (is_size columns && is_size rows) (rows * packed_length columns) 0

-- what a call offers that has this file: it stands at the start of the buffer, the rest of which is unchanged
abbrev pub file_offer : List ℕ → List ℕ → Offer ℕ
file_offer f b = record { count = length f; space = length b; after = started f b; before = b }

-- a header alone: 4, "raster size outside 1 to 16,384", comes before 7
abbrev pub header_put : ℕ → ℕ → List ℕ → Result ℕ
header_put columns rows b = given (raster_verdict columns rows) (file_offer (header columns rows) b)
