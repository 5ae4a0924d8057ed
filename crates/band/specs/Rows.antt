-- What the functions inside the crate do: they lay some of a band's rows, for one segment or for all.
use Rattle.std.specs.Prelude.{ℕ, zero, suc, ◌+◌, ◌-◌, ◌*◌, ◌/◌, ◌%◌, ◌^◌, ◌≤◌, ◌<◌, ◌≡◌, Bool, true, false, ◌&&◌, List, leb, ltb, ℤ, pos, ◌*ℤ◌}
use Rattle.integers.specs.Orders.{◌≼◌, ◌≺◌}
use Rattle.limits.specs.Sizes.{raster_max, Size}
use Rattle.plane.specs.Point.{Pt, corners}
use Rattle.plane.specs.Polygon.{PenLaws}
use Rattle.ties.specs.Below.{below}
use Rattle.bits.specs.Bits.{span}
use Rattle.stroke.specs.Sweep.{Seg, path_points}
use Rattle.stroke.specs.Extent.{extent}
use Rattle.stroke.specs.Runs.{in_span, black_at}
use Rattle.flanks.specs.declared.Flanks.{Flanks}
use Rattle.flanks.specs.Flanks.{risen, count_to}
use Rattle.band.specs.declared.Shape.{Shape}

-- of the band whose top row is `top`, with `pitch` bits to a row, the rows from `from` on and before `to`
abbrev pub rows_black : (ℕ → ℕ → Bool) → ℕ → ℕ → ℕ → ℕ → ℕ → ℕ → Bool
rows_black black columns top pitch from to z =
    let i = z / pitch in
    let x = z % pitch in
    leb i top && (leb from (top - i) && (ltb (top - i) to && (ltb x columns && black (top - i) x)))

-- the same of a shape
abbrev pub shaped : (ℕ → ℕ → Bool) → Shape → ℕ → ℕ → ℕ → Bool
shaped black s from to = rows_black black s.columns s.top (8 * s.stride) from to

-- what a segment blackens, and what a path does
abbrev pub segment_black : List Pt → Seg → ℕ → ℕ → Bool
segment_black cs g j x = in_span (extent cs g (pos j)) (pos x)

abbrev pub path_black : List Pt → List ℤ → ℕ → ℕ → Bool
path_black cs path j x = black_at cs (path_points path) (pos j) (pos x)

-- the flanks f after k rows more, the first of them row j
unfoldable pub risen_by : ℕ → List ℤ → List ℤ → Flanks → ℕ → ℕ → Flanks
risen_by count xs ys f j zero = f
risen_by count xs ys f j (suc k) = risen count xs ys (risen_by count xs ys f j k) (j + k)

-- what lies between the flanks f in row j, where they come to row `from` first
abbrev pub flank_black : ℕ → List ℤ → List ℤ → Flanks → ℕ → ℕ → ℕ → ℕ → Bool
flank_black count xs ys f columns from j =
    let g = risen_by count xs ys f from (suc (j - from)) in
    span (count_to columns g.left.edge.column) (count_to columns g.right.edge.column)

-- the pen whose corners are the first `count` places of xs and ys
pub record PenOf (count : ℕ) (xs ys : List ℤ) : Type 0 where
  pub Dx : ℤ
  pub Dy : ℤ
  pub laws : PenLaws (corners count xs ys) Dx Dy
  pub narrow : Dx ≼ pos 128
  pub low : Dy ≼ pos 128

-- the raster's columns fit a row's bytes, and the top row is a raster's
pub record Fits (s : Shape) : Type 0 where
  pub size : Size s.columns
  pub low : s.top < raster_max
  pub wide : s.columns ≤ 8 * s.stride

-- some of a band's rows; their bytes have a place
pub record Part (s : Shape) (from to : ℕ) : Type 0 where
  pub ordered : from ≤ to
  pub inside : to ≤ s.top + 1
  pub placed : s.stride * (s.top - from) < 2 ^ 63

-- r is the first row that does not lie below the height y
pub record FirstPast (y r : ℤ) : Type 0 where
  pub under : (j : ℤ) → j ≺ r → below (pos 16 *ℤ j) y ≡ true
  pub over : (j : ℤ) → r ≼ j → below (pos 16 *ℤ j) y ≡ false

-- the same of the rows from `from` on and before `to`
pub record Past (y : ℤ) (from to r : ℕ) : Type 0 where
  pub after : from ≤ r
  pub before : r ≤ to
  pub under : (j : ℕ) → j < r → from < r → below (pos 16 *ℤ pos j) y ≡ true
  pub over : (j : ℕ) → r ≤ j → r < to → below (pos 16 *ℤ pos j) y ≡ false
