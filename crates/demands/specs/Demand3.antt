-- Demand 3: "Line weight never drifts: over any v neighbouring middle rows of a stroke in direction (u, v) there are exactly c black pixels, and the answered
-- runs hold exactly c; a level stroke is exactly as many rows high as the pen."
--
-- Why it is true is told at the top of the crate stroke's specs/Weight: exactly one pixel of v neighbouring rows has v i - u j = n, whatever n is, and the
-- strip between the two lines along the path is c neighbouring values of n. There the pixels are counted; here the answers, of whichever calls: each reports
-- exactly the black pixels of its row, so that the sum over v answers is the number of pixels in v rows.
--
-- c is quoted from the demand, "the greatest v times x minus u times y over the pen's corners": some corner attains it, and no corner exceeds it.
use Rattle.std.specs.Prelude.{ℕ, zero, suc, ◌+◌, ◌-◌, ◌*◌, ◌≤◌, ◌<◌, ◌≡◌, ◌⊎◌, true, false, List, [], ◌∷◌, replicate, ℤ, pos, ◌-ℤ◌, ◌*ℤ◌}
use Rattle.integers.specs.Orders.{◌≼◌, ◌≺◌}
use Rattle.integers.specs.Count.{◌∈◌, Number}
use Rattle.plane.specs.Point.{Pt}
use Rattle.bits.specs.Bits.{bit_at}
use Rattle.setting.specs.Setting.{Dx, Dy}
use Rattle.stroke.specs.Sweep.{Seg}
use Rattle.stroke.specs.Runs.{Run, holds}
use Rattle.stroke.specs.Weight.{BlackPixel, Direction, InsideRow, InsideColumn, InRows}
use Rattle.demands.specs.Reports.{Reports}
use Rattle.demands.specs.Bands.{Bands}
use Rattle.demands.specs.Demand2.{Pens}

-- "the greatest v times x minus u times y over the pen's corners"
pub record Greatest (cs : List Pt) (u : ℤ) (v c : ℕ) : Type 0 where
  pub attained : (z : Pt) × (z ∈ cs) × (pos v *ℤ z.x -ℤ u *ℤ z.y ≡ pos c)
  pub most : (z : Pt) → z ∈ cs → pos v *ℤ z.x -ℤ u *ℤ z.y ≼ pos c

-- "The path is two points, A and then B", as a call is lent it
abbrev pub entries : Seg → List ℤ
entries g = g.from.x ∷ g.from.y ∷ g.to.x ∷ g.to.y ∷ []

-- the v rows from j on, of a stroke in direction (u, v): each is "far enough inside", and the raster "cuts nothing off" in them
pub record MiddleRows (cs : List Pt) (p : Pens cs) (g : Seg) (u : ℤ) (v c columns j : ℕ) : Type 0 where
  pub times : ℤ
  pub direction : Direction g u v times
  pub greatest : Greatest cs u v c
  pub inside : (i : ℤ) → InRows (pos j) v i → InsideRow g (pos (Dy p.setting)) i
  pub uncut : (i k : ℤ) → InRows (pos j) v k → BlackPixel cs g (record { column = i; row = k }) → (pos 0 ≼ i) × (i ≺ pos columns)

-- "one call for each row, in any order": call k is for row `row k`, and reports these runs
abbrev pub Calls : List Pt → Seg → ℕ → ℕ → ℕ → (ℕ → ℕ) → (ℕ → List Run) → Type 0
Calls cs g columns rows n row runs = (k : ℕ) → k < n → Reports cs (entries g) columns rows (row k) (runs k)

-- the sum over n answers
unfoldable pub sum_of : (ℕ → ℕ) → ℕ → ℕ
sum_of f zero = 0
sum_of f (suc n) = sum_of f n + f n

-- "the first part is a single claim on the sum over all v answers": they hold exactly c pixels in all
abbrev pub RunsHold : Type 0
RunsHold =
    (cs : List Pt) (p : Pens cs) (g : Seg) (u : ℤ) (v c columns rows j : ℕ) → MiddleRows cs p g u v c columns j →
    (runs : ℕ → List Run) → Calls cs g columns rows v (λ k. j + k) runs → sum_of (λ k. holds (runs k)) v ≡ c

-- "covers the columns from left to right, both included"
abbrev pub CoversColumn : List Run → ℤ → Type 0
CoversColumn [] i = ⊥
CoversColumn (r ∷ rs) i = ((pos r.left ≼ i) × (i ≼ pos r.right)) ⊎ CoversColumn rs i

-- a column of a level stroke: it is far enough inside, and the raster cuts nothing off in it
pub record MiddleColumn (cs : List Pt) (p : Pens cs) (g : Seg) (columns rows : ℕ) (i : ℤ) : Type 0 where
  pub level : g.from.y ≡ g.to.y
  pub differs : ¬ (g.from.x ≡ g.to.x)
  pub inside : InsideColumn g (pos (Dx p.setting)) i
  pub uncut : (j : ℤ) → BlackPixel cs g (record { column = i; row = j }) → (pos 0 ≼ i) × (i ≺ pos columns) × (pos 0 ≼ j) × (j ≺ pos rows)

-- "The level part is likewise about the answers for all rows of the raster together": they cover the column in exactly as many rows as the pen is high
abbrev pub LevelRows : Type 0
LevelRows =
    (cs : List Pt) (p : Pens cs) (g : Seg) (columns rows : ℕ) (i : ℤ) → MiddleColumn cs p g columns rows i →
    (runs : ℕ → List Run) → Calls cs g columns rows rows (λ k. k) runs → Number (λ j. (j < rows) × CoversColumn (runs j) i) (Dy p.setting)

-- ---- the bits of bands
-- clear bytes: no bit of them is 1
abbrev pub Clear : List ℕ → Type 0
Clear b = (z : ℕ) → bit_at b z ≡ false

-- so bytes are that are 0
abbrev pub ZerosClear : Type 0
ZerosClear = (n : ℕ) → Clear (replicate n 0)

-- bit z belongs to the v rows from the row i below the top one on, be it a column's, a spare one or padding
abbrev pub OfRows : ℕ → ℕ → ℕ → ℕ → Type 0
OfRows stride i v z = (8 * stride * i ≤ z) × (z < 8 * stride * (i + v))

-- A stroke laid over clear bytes: any v neighbouring middle rows hold exactly c bits that are 1, within one band or across the seams of several. The v rows from
-- the row i below the top one on are the raster's rows from first + n - (i + v) on
abbrev pub BandsHold : Type 0
BandsHold =
    (cs : List Pt) (p : Pens cs) (g : Seg) (u : ℤ) (v c columns rows stride first n i : ℕ) (before after : List ℕ) → i + v ≤ n →
    MiddleRows cs p g u v c columns (first + n - (i + v)) → Clear before → Bands cs (entries g) columns rows stride first n before after →
    Number (λ z. OfRows stride i v z × (bit_at after z ≡ true)) c

-- a level stroke, all of whose rows are the bands': in a column far enough inside as many bits are 1 as the pen is high
abbrev pub LevelBands : Type 0
LevelBands =
    (cs : List Pt) (p : Pens cs) (g : Seg) (columns rows stride first n x : ℕ) (before after : List ℕ) → x < columns → MiddleColumn cs p g columns rows (pos x) →
    ((j : ℤ) → BlackPixel cs g (record { column = pos x; row = j }) → (pos first ≼ j) × (j ≺ pos (first + n))) →
    Clear before → Bands cs (entries g) columns rows stride first n before after →
    Number (λ i. (i < n) × (bit_at after (8 * stride * i + x) ≡ true)) (Dy p.setting)

-- "The level part is likewise about the answers for all rows of the raster together": bands that are the whole raster have all rows of the stroke
abbrev pub LevelRaster : Type 0
LevelRaster =
    (cs : List Pt) (p : Pens cs) (g : Seg) (columns rows stride x : ℕ) (before after : List ℕ) → x < columns → MiddleColumn cs p g columns rows (pos x) →
    Clear before → Bands cs (entries g) columns rows stride 0 rows before after →
    Number (λ i. (i < rows) × (bit_at after (8 * stride * i + x) ≡ true)) (Dy p.setting)
