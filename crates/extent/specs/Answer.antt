-- What the code answers: the extent of a segment in a row within document 01's limits, and nothing outside them.
use Rattle.std.specs.Prelude.{ℕ, Bool, true, false, ◌&&◌, Option, Some, None, List, ℤ, pos}
use Rattle.plane.specs.Point.{Pt, pt}
use Rattle.extent.specs.declared.Extent.{Extent}
use Rattle.stroke.specs.Sweep.{Seg}
use Rattle.stroke.specs.Extent.{Span, none, columns, extent}
use Rattle.limits.specs.Sizes.{in_range, is_row}

abbrev pub seg : ℤ → ℤ → ℤ → ℤ → Seg
seg ax ay bx by = record { from = pt ax ay; to = pt bx by }

-- the path's numbers and the row are within the limits
abbrev pub allowed : ℤ → ℤ → ℤ → ℤ → ℕ → Bool
allowed ax ay bx by j = (in_range ax && in_range ay) && ((in_range bx && in_range by) && is_row j)

-- the columns from the first to the last
abbrev pub spanned : ℤ → ℤ → Option Extent
spanned first last = Some (record { first = first; last = last })

abbrev pub answered : Span → Option Extent
answered none = None
answered (columns first last) = spanned first last

unfoldable pub extent_of : List Pt → ℤ → ℤ → ℤ → ℤ → ℕ → Option Extent
extent_of cs ax ay bx by j = elim (allowed ax ay bx by j) [ true ↦ answered (extent cs (seg ax ay bx by) (pos j)) | false ↦ None ]
