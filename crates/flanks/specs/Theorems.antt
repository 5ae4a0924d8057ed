-- What is proved of the flanks. Each claim is a type; proofs/Theorems.antt proves it.
use Rattle.std.specs.Prelude.{ℕ, ◌+◌, ◌≤◌, ◌<◌, ◌≡◌, true, ◌&&◌, List, leb, ltb, ℤ, pos}
use Rattle.integers.specs.Orders.{◌≼◌}
use Rattle.limits.specs.Sizes.{raster_max, in_range}
use Rattle.plane.specs.Point.{pt, corners}
use Rattle.plane.specs.Polygon.{PenLaws}
use Rattle.stroke.specs.Extent.{extent}
use Rattle.stroke.specs.Runs.{in_span}
use Rattle.flanks.specs.declared.Flanks.{Flanks}
use Rattle.flanks.specs.Flanks.{flanks_at, span_at, cut_at}

-- For every pen with the laws whose numbers a byte holds, every segment within the limits, every row to start in and every number of rows after it: the columns between the
-- flanks are the segment's extent
abbrev pub FlanksBound : Type 0
FlanksBound =
    (count : ℕ) (xs ys : List ℤ) (Dx Dy : ℤ) → PenLaws (corners count xs ys) Dx Dy → Dx ≼ pos 128 → Dy ≼ pos 128 →
    (ax ay bx by : ℤ) → in_range ax ≡ true → in_range ay ≡ true → in_range bx ≡ true → in_range by ≡ true → (j k : ℕ) → j + k < raster_max →
    span_at (flanks_at count xs ys ax ay bx by j k) (j + k) ≡ extent (corners count xs ys) (record { from = pt ax ay; to = pt bx by }) (pos (j + k))

-- For any flanks whatever, the cut is their columns that the raster has
abbrev pub CutIs : Type 0
CutIs = (f : Flanks) (j columns : ℕ) →
    ((cut_at f j columns).end ≤ columns) × ((x : ℕ) → x < columns → in_span (span_at f j) (pos x) ≡ (leb (cut_at f j columns).first x && ltb x (cut_at f j columns).end))
