-- Demand 2: "The pen is the one that document 01's steps give. A pixel is black exactly when its centre is in the pen's sweep by document 01's edge rule; each
-- row's runs are the longest, left to right, cut to the raster."
--
-- That a setting's pen is the one of the steps is the crates quarter's and pen's (QuarterPuts, PenIsPen). Here is the rest, over every call. Black is said by
-- existence (`BlackPath`: some whole s and k ..), and `Longest` by what runs cover: they lie apart by at least one column, and a column of the raster is
-- covered exactly when its pixel is black. Why it is true: what computes is a test of sides (stroke: SweepSides, BlackTest); the columns that pass it in a row
-- are an interval, the extent (ExtentBlack); the code finds each segment's extent, cuts it to the raster and joins what touches, and every call's answer is,
-- whatever form it has, the definition's list of runs.
use Rattle.std.specs.Prelude.{ℕ, ◌+◌, ◌*◌, ◌/◌, ◌%◌, ◌-◌, ◌^◌, ◌<◌, ◌≡◌, ◌⊎◌, ◌↔◌, true, List, length, get_or, drop, ℤ, pos}
use Rattle.plane.specs.Point.{Pt}
use Rattle.bits.specs.Bits.{bit_at}
use Rattle.setting.specs.declared.Setting.{Setting}
use Rattle.setting.specs.Setting.{Taken}
use Rattle.pen.specs.Polygon.{pen}
use Rattle.stroke.specs.Sweep.{centre, path_points}
use Rattle.stroke.specs.Black.{BlackPath}
use Rattle.stroke.specs.Runs.{Run, Longest}
use Rattle.aperture.specs.declared.Table.{Table}
use Rattle.aperture.specs.Reachable.{Reachable, Holds}
use Rattle.row.specs.Calls.{row_call}
use Rattle.packed.specs.Packed.{packed_call}
use Rattle.demands.specs.Reports.{Reports}
use Rattle.demands.specs.Packs.{Packs}
use Rattle.demands.specs.Bands.{Bands}

-- the corners of the pen of some setting within the limits
pub record Pens (cs : List Pt) : Type 0 where
  pub setting : Setting
  pub taken : Taken setting
  pub same : pen setting ≡ cs

-- "each row's runs are the longest, left to right, cut to the raster", of the pixels that are black by existence
abbrev pub ReportsLongest : Type 0
ReportsLongest =
    (cs : List Pt) → Pens cs → (path : List ℤ) (columns rows j : ℕ) (rs : List Run) → Reports cs path columns rows j rs →
    Longest (λ x. BlackPath cs (path_points path) (centre (pos x) (pos j))) columns rs

-- So a stroke meets itself at a seam: two calls for one row report the same runs, whichever calls they are and whichever settings they were given, as long as
-- the pen, the path and the columns are the same
abbrev pub SeamsMeet : Type 0
SeamsMeet =
    (cs : List Pt) → Pens cs → (path : List ℤ) (columns rows rows' j : ℕ) (rs ss : List Run) → Reports cs path columns rows j rs → Reports cs path columns rows' j ss → rs ≡ ss

-- "A packed row fills ceil(columns/8) bytes and leaves the rest of its buffer"; "the leftmost pixel in the highest bit, black is 1, spare bits are 0": bit
-- 7 - b of byte k is 1 exactly when column 8k + b is one of the raster's and black by existence
pub record Packed (cs : List Pt) (path : List ℤ) (columns j count : ℕ) (before after : List ℕ) : Type 0 where
  pub bytes : count ≡ (columns + 7) / 8
  pub bits : (k b : ℕ) → k < count → b < 8 → (get_or after k 0 / 2 ^ (7 - b) % 2 ≡ 1) ↔ ((8 * k + b < columns) × BlackPath cs (path_points path) (centre (pos (8 * k + b)) (pos j)))
  pub rest : drop count after ≡ drop count before

abbrev pub PacksBlack : Type 0
PacksBlack =
    (cs : List Pt) → Pens cs → (path : List ℤ) (columns rows j count : ℕ) (before after : List ℕ) → Packs cs path columns rows j count before after →
    Packed cs path columns j count before after

-- Bands: the bit of column x in the row i below the top one is 1 exactly when it was or the pixel is black by existence; every other bit stays, be it a spare
-- one, padding after a row or what comes after the rows
pub record Banded (cs : List Pt) (path : List ℤ) (columns first n stride : ℕ) (before after : List ℕ) : Type 0 where
  pub bits : (i x : ℕ) → i < n → x < columns → (bit_at after (8 * stride * i + x) ≡ true)
      ↔ ((bit_at before (8 * stride * i + x) ≡ true) ⊎ BlackPath cs (path_points path) (centre (pos x) (pos (first + (n - 1) - i))))
  pub others : (z : ℕ) → ((i x : ℕ) → i < n → x < columns → ¬ (z ≡ 8 * stride * i + x)) → bit_at after z ≡ bit_at before z
  pub past : drop (n * stride) after ≡ drop (n * stride) before
  pub size : length after ≡ length before

abbrev pub BandsBlack : Type 0
BandsBlack =
    (cs : List Pt) (path : List ℤ) (columns rows stride first n : ℕ) (before after : List ℕ) → Bands cs path columns rows stride first n before after →
    Banded cs path columns first n stride before after

-- ---- which pen a call has
-- A band that was laid over is one of a setting within the limits
abbrev pub BandsPens : Type 0
BandsPens =
    (cs : List Pt) (path : List ℤ) (columns rows stride first n : ℕ) (before after : List ℕ) → Bands cs path columns rows stride first n before after → Pens cs

-- A table so made holds a setting's pen in every aperture that answers: an answer 0 is for some setting
abbrev pub AnsweredHolds : Type 0
AnsweredHolds =
    (t : Table) → Reachable t → (n : ℕ) (path : List ℤ) (columns rows j : ℕ) (l : List ℕ) →
    ((row_call t n path columns rows j l).answer.refusal ≡ 0) ⊎ ((packed_call t n path columns rows j l).answer.refusal ≡ 0) → (σ : Setting) × Holds t n σ
