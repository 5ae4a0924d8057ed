-- What is proved of a stroke, for every pen with the laws, every segment and every direction. Each claim is a type; proofs/Theorems.antt proves it.
use Rattle.std.specs.Prelude.{◌≡◌, ◌↔◌, true, List, [], ◌∷◌, ℕ, ◌+◌, ◌-◌, ◌*◌, ◌≤◌, ◌<◌, length, get_or, ℤ, pos, ◌+ℤ◌, ◌-ℤ◌, ◌*ℤ◌}
use Rattle.integers.specs.Orders.{◌≼◌, ◌≺◌}
use Rattle.integers.specs.Compare.{min_z, max_z}
use Rattle.integers.specs.Count.{◌∈◌}
use Rattle.plane.specs.Point.{Pt, pt}
use Rattle.plane.specs.Polygon.{Side, dot, PenLaws}
use Rattle.stroke.specs.Sweep.{Seg, path_points, segments, centre, Sweep}
use Rattle.stroke.specs.Sides.{sides}
use Rattle.stroke.specs.Black.{Black, BlackPath}
use Rattle.stroke.specs.Beside.{BesideDecides}
use Rattle.stroke.specs.Extent.{black_test, In, extent}
use Rattle.stroke.specs.Runs.{Run, Longest, row_runs}
use Rattle.stroke.specs.Weight.{offset, WeightOfRows, WeightOfColumn, BandOfColumn}

-- what is claimed holds of every pen with the laws: of its corners, its width and its height, in half pixels
abbrev pub EveryPen : (List Pt → ℤ → ℤ → Type 0) → Type 0
EveryPen claim = (cs : List Pt) (Dx Dy : ℤ) → PenLaws cs Dx Dy → claim cs Dx Dy

-- A path by its entries, the numbers that a call is lent; they "count from 0". (No claim asks for an entry past the last; it would be 0.)
abbrev pub entry : List ℤ → ℕ → ℤ
entry p k = get_or p k (pos 0)

-- "x, y, x, y, ..."
abbrev pub point_at : List ℤ → ℕ → Pt
point_at p k = pt (entry p (2 * k)) (entry p (2 * k + 1))

-- 2n entries are n points, and point k is the entries 2k and 2k + 1
abbrev pub PointsAre : Type 0
PointsAre = (p : List ℤ) (n : ℕ) → length p ≡ 2 * n → (length (path_points p) ≡ n) × ((k : ℕ) (d : Pt) → k < n → get_or (path_points p) k d ≡ point_at p k)

-- "a path of one point is one such segment", with equal ends; and it has no other
abbrev pub DotIs : Type 0
DotIs = (p : List ℤ) → length p ≡ 2 → segments (path_points p) ≡ record { from = point_at p 0; to = point_at p 0 } ∷ []

-- n points, two or more, are joined by exactly n - 1 segments, in order: segment k runs from point k to point k + 1
abbrev pub SegmentsAre : Type 0
SegmentsAre = (p : List ℤ) (n : ℕ) → length p ≡ 2 * n → 2 ≤ n →
    (length (segments (path_points p)) ≡ n - 1)
    × ((k : ℕ) (d : Seg) → k < n - 1 → get_or (segments (path_points p)) k d ≡ record { from = point_at p k; to = point_at p (k + 1) })

-- 1. in the sweep by existence exactly when within every side
abbrev pub SweepSides : Type 0
SweepSides = EveryPen λ cs Dx Dy. (g : Seg) (X : Pt) → Sweep cs g X ↔ ((e : Side) → e ∈ sides cs g → dot e.a e.b X ≼ e.c)

-- 2. black by existence exactly when the test is passed. (That a centre outside the sweep is not black, even where a side drawn longer meets it, is `swept`.)
abbrev pub BlackTest : Type 0
BlackTest = EveryPen λ cs Dx Dy. (g : Seg) (X : Pt) → (black_test cs g X ≡ true) ↔ Black cs g X

-- 2b. and exactly when the point a little to the left of it, and by far less below it, lies in the sweep. This names no side and no normal: it holds the definitions of
-- `sides` and `kept` to the sweep by existence
abbrev pub BlackBeside : Type 0
BlackBeside = EveryPen λ cs Dx Dy. (g : Seg) (X : Pt) → BesideDecides cs g X

-- 2c. and it lies past neither end of its segment by more than half the pen's width; to the left it is less, since the sides there are dropped
abbrev pub BlackSideways : Type 0
BlackSideways = EveryPen λ cs Dx Dy. (g : Seg) (X : Pt) → Black cs g X →
    (min_z g.from.x g.to.x -ℤ pos 8 *ℤ Dx ≺ X.x) × (X.x ≼ max_z g.from.x g.to.x +ℤ pos 8 *ℤ Dx)

-- 2d. and moved together with its segment it stays so
abbrev pub shifted : Pt → Pt → Pt
shifted D P = pt (P.x +ℤ D.x) (P.y +ℤ D.y)

abbrev pub shifted_seg : Pt → Seg → Seg
shifted_seg D g = record { from = shifted D g.from; to = shifted D g.to }

abbrev pub BlackShifted : Type 0
BlackShifted = EveryPen λ cs Dx Dy. (g : Seg) (X D : Pt) → Black cs g X ↔ Black cs (shifted_seg D g) (shifted D X)

-- 3. a column is black for a segment exactly when it lies in the extent
abbrev pub ExtentBlack : Type 0
ExtentBlack = EveryPen λ cs Dx Dy. (g : Seg) (i j : ℤ) → In (extent cs g j) i ↔ Black cs g (centre i j)

-- 4. the computed runs are the longest runs of the black columns of the raster; and such a list is unique
abbrev pub RunsLongest : Type 0
RunsLongest = EveryPen λ cs Dx Dy. (path : List Pt) (columns j : ℕ) → Longest (λ x. BlackPath cs path (centre (pos x) (pos j))) columns (row_runs cs path columns j)

abbrev pub LongestUnique : Type 1
LongestUnique = (black : ℕ → Type 0) (n : ℕ) (rs ss : List Run) → Longest black n rs → Longest black n ss → rs ≡ ss

-- demand 3's c: "the greatest v times x minus u times y over the pen's corners". Some corner has that value, and none has a greater one
abbrev pub OffsetGreatest : Type 0
OffsetGreatest = EveryPen λ cs Dx Dy. (u : ℤ) (v : ℕ) →
    ((z : Pt) × (z ∈ cs) × (pos v *ℤ z.x -ℤ u *ℤ z.y ≡ offset cs u v)) × ((z : Pt) → z ∈ cs → pos v *ℤ z.x -ℤ u *ℤ z.y ≼ offset cs u v)

-- 5. and 6. line weight over pixels; the top of Weight tells why it is true
abbrev pub RowsHold : Type 0
RowsHold = EveryPen λ cs Dx Dy. WeightOfRows cs Dy

abbrev pub ColumnHolds : Type 0
ColumnHolds = (cs : List Pt) (Dx : ℤ) (Dy : ℕ) → PenLaws cs Dx (pos Dy) → WeightOfColumn cs Dx Dy

-- 7. which rows these are
abbrev pub ColumnBand : Type 0
ColumnBand = EveryPen λ cs Dx Dy. BandOfColumn cs Dx Dy
