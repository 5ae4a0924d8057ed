-- A stroke laid over the packed rows of a band, that is of some neighbouring rows of a film: what the call answers and leaves, for every input. It is made of
-- the packed row's definition of black.
use Rattle.std.specs.Prelude.{ℕ, ◌+◌, ◌-◌, ◌*◌, ◌/◌, ◌%◌, Bool, cond, ◌&&◌, List, leb, ltb, length, ℤ, pos}
use Rattle.plane.specs.Point.{Pt}
use Rattle.bits.specs.Bits.{packed_length, blackened}
use Rattle.setting.specs.declared.Setting.{Setting}
use Rattle.setting.specs.Answer.{checked, checked_verdict}
use Rattle.pen.specs.Polygon.{pen}
use Rattle.stroke.specs.Sweep.{path_points}
use Rattle.stroke.specs.Runs.{black_at}
use Rattle.checks.specs.Checks.{call_verdict}
use Rattle.checks.specs.Answer.{Result, Offer, given}

-- The rows of a band stand one under the other, the top one first, `stride` bytes to each. So bit z of its bytes is column z % (8 stride) of the row that lies
-- z / (8 stride) rows below the top one; past the raster's columns, and past the band's n rows, nothing is black
abbrev pub band_black : (ℕ → ℕ → Bool) → ℕ → ℕ → ℕ → ℕ → ℕ → Bool
band_black black columns first n stride z =
    let below_top = z / (8 * stride) in
    let x = z % (8 * stride) in
    ltb below_top n && (ltb x columns && black (first + (n - 1) - below_top) x)

-- the stroke laid over the rows from `first` on, n of them: "each bit is the old one or black", where black is what it is for a packed row
abbrev pub band_over : List Pt → List ℤ → ℕ → ℕ → ℕ → ℕ → List ℕ → List ℕ
band_over cs path columns first n stride b = blackened (band_black (λ j x. black_at cs (path_points path) (pos j) (pos x)) columns first n stride) b

-- 5: the highest row of the band, if it has one and the raster has all of its rows; and else a row that the raster has not
abbrev pub top_row : ℕ → ℕ → ℕ → ℕ
top_row rows first n = cond (ltb 0 n && leb (first + n) rows) (first + (n - 1)) rows

-- 7: for how many rows the bytes have room: none where a row is longer than the stride
abbrev pub room_for : ℕ → ℕ → ℕ → ℕ
room_for columns stride len = cond (leb (packed_length columns) stride) (len / stride) 0

-- what the call offers: n rows
abbrev pub band_offer : List Pt → List ℤ → ℕ → ℕ → ℕ → ℕ → List ℕ → Offer ℕ
band_offer cs path columns first n stride b = record { count = n; space = room_for columns stride (length b); after = band_over cs path columns first n stride b; before = b }

-- the call for a setting: 1, 2, 4, 5, 3, 7, as every call for a row
unfoldable pub band_call : Setting → List ℤ → ℕ → ℕ → ℕ → ℕ → ℕ → List ℕ → Result ℕ
band_call σ path columns rows first n stride b =
    given (call_verdict (checked_verdict (checked σ)) path columns rows (top_row rows first n)) (band_offer (pen σ) path columns first n stride b)
