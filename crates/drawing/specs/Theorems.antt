-- What the calls for a film promise (crates film_checks and film_band), in document 01's words, from their answers alone: nothing is asked of a drawing. The claims
-- are types; each is proved in proofs/ under its name in small letters.
--
-- Why it is true: every stroke is checked as a row call of it checks, before anything is drawn. So where the answer is 0 each aperture holds a setting and that
-- setting's pen, and each path is drawn in every row; the rows laid over each other have a bit set where some stroke makes the pixel black.
use Rattle.std.specs.Prelude.{ℕ, ◌+◌, ◌-◌, ◌*◌, ◌/◌, ◌%◌, ◌^◌, ◌≤◌, ◌<◌, ◌≡◌, ◌↔◌, ◌⊎◌, List, ◌++◌, length, get_or, take, drop, replicate, pos}
use Rattle.limits.specs.declared.Verdict.TheVariants.{Passed}
use Rattle.limits.specs.Exactly.{◌when◌else◌, done, BadRaster, NoRoom}
use Rattle.setting.specs.declared.Setting.{Setting}
use Rattle.pen.specs.Polygon.{pen}
use Rattle.aperture.specs.Table.{place_of}
use Rattle.aperture.specs.Reachable.{Holds}
use Rattle.stroke.specs.Sweep.{centre, path_points}
use Rattle.stroke.specs.Black.{BlackPath}
use Rattle.checks.specs.Checks.{verdict}
use Rattle.checks.specs.Answer.{Result}
use Rattle.bits.specs.Bits.{packed_length}
use Rattle.packed.specs.Packed.{packed_call}
use Rattle.band.specs.Refuses.{BadBand}
use Rattle.pbm.specs.Pbm.{header}
use Rattle.drawing.specs.declared.StrokeVerdict.{StrokeVerdict}
use Rattle.drawing.specs.declared.StrokeVerdict.TheVariants.{AllTaken, Stroke}
use Rattle.setting_list.specs.Settings.{setting_at}
use Rattle.setting_list.specs.Theorems.{GoodSettings, FirstBadSetting}
use Rattle.drawing.specs.Strokes.{Drawing, table_in, path_of, first_refused}
use Rattle.drawing.specs.Film.{row_of, film, band_of, band_put}

-- ---- the refusals
-- the row call of stroke k, asked for row 0, with room for the row; what such a call refuses, PackedRefuses (demands) says
abbrev pub stroke_call : Drawing → ℕ → ℕ → ℕ → Result ℕ
stroke_call d columns rows k = packed_call (table_in d) (get_or d.apertures k 0) (path_of d.starts d.entries k) columns rows 0 (replicate (packed_length columns) 0)

abbrev pub TakesStroke : Drawing → ℕ → ℕ → ℕ → Type 0
TakesStroke d columns rows k = (stroke_call d columns rows k).answer.refusal ≡ 0

abbrev pub TakesAll : Drawing → ℕ → ℕ → Type 0
TakesAll d columns rows = (k : ℕ) → k < length d.apertures → TakesStroke d columns rows k

-- stroke k is the first that is refused
pub record FirstStroke (d : Drawing) (columns rows k : ℕ) : Type 0 where
  pub one : k < length d.apertures
  pub refused : ¬ TakesStroke d columns rows k
  pub earlier : (i : ℕ) → i < k → TakesStroke d columns rows i

-- which stroke is told: the first that is refused, with the number and the place of its row call
pub data StrokeTold (d : Drawing) (columns rows : ℕ) : StrokeVerdict → Type 0 where
  all : TakesAll d columns rows → StrokeTold d columns rows AllTaken
  one : (k : ℕ) → FirstStroke d columns rows k →
      StrokeTold d columns rows (Stroke k (stroke_call d columns rows k).answer.refusal (stroke_call d columns rows k).answer.place)

abbrev pub StrokesTold : Type 0
StrokesTold = (d : Drawing) (columns rows : ℕ) → StrokeTold d columns rows (first_refused d columns rows)

-- what is left to be refused of a band where all settings and strokes are taken, in the words of the table: 4, then 5 where it has no rows or one that is none of
-- the raster's, then 7, for its rows of `width` bytes
pub record RestRefuses (columns rows first n width : ℕ) (before : List ℕ) (r : Result ℕ) : Type 0 where
  pub exactly : (k : ℕ) → (r.answer.refusal ≡ k) ↔ (4 when BadRaster columns rows else 5 when BadBand rows first n else 7 when NoRoom (n * width) (length before) else done) k
  pub nowhere : r.answer.place ≡ 0

-- a band is answered with the first setting that is refused, then as the row call of the first stroke that is refused, and then with what is left. "with 0 runs,
-- and nothing lent is changed"
pub record BandSays (d : Drawing) (columns rows first n width : ℕ) (before : List ℕ) (r : Result ℕ) : Type 0 where
  pub either : ((number : ℕ) × (place : ℕ) × FirstBadSetting d.settings number place)
      ⊎ (GoodSettings d.settings × (((k : ℕ) × FirstStroke d columns rows k) ⊎ TakesAll d columns rows))
  pub setting : (number place : ℕ) → FirstBadSetting d.settings number place → r.answer ≡ record { refusal = number; place = place; count = 0 }
  pub stroke : GoodSettings d.settings → (k : ℕ) → FirstStroke d columns rows k → r.answer ≡ (stroke_call d columns rows k).answer
  pub rest : GoodSettings d.settings → TakesAll d columns rows → RestRefuses columns rows first n width before r
  pub none : ¬ (r.answer.refusal ≡ 0) → r.answer.count ≡ 0
  pub kept : ¬ (r.answer.refusal ≡ 0) → r.list ≡ before

-- "A packed row fills ceil(columns/8) bytes": so many hold the columns, and one less would not
pub record RowWidth (columns width : ℕ) : Type 0 where
  pub enough : columns ≤ 8 * width
  pub least : 8 * width < columns + 8

abbrev pub BandPutRefuses : Type 0
BandPutRefuses =
    (d : Drawing) (columns rows first n width : ℕ) → RowWidth columns width → (b : List ℕ) →
    BandSays d columns rows first n width b (band_put d columns rows first n b)

-- ---- the band
-- a band that was put: the answer is 0
pub record BandDone (d : Drawing) (columns rows first n width : ℕ) (b : List ℕ) : Type 0 where
  pub wide : RowWidth columns width
  pub answer : (band_put d columns rows first n b).answer.refusal ≡ 0

-- the setting of stroke k's aperture
abbrev pub setting_of : Drawing → ℕ → Setting
setting_of d k = (place_of (table_in d) (get_or d.apertures k 0)).setting

-- every stroke was taken: its aperture holds its setting and that setting's pen, and its path passes the checks in every row
pub record DrawableFilm (d : Drawing) (columns rows : ℕ) : Type 0 where
  pub holds : (k : ℕ) → k < length d.apertures → Holds (table_in d) (get_or d.apertures k 0) (setting_of d k)
  pub passes : (k j : ℕ) → k < length d.apertures → j < rows → verdict (path_of d.starts d.entries k) columns rows j ≡ Passed

-- of the setting it is said again from the list: aperture 10 + i is setting i
pub record TakenBand (d : Drawing) (columns rows first n : ℕ) : Type 0 where
  pub drawable : DrawableFilm d columns rows
  pub settings : (k : ℕ) → k < length d.apertures → setting_of d k ≡ setting_at d.settings (get_or d.apertures k 0 - 10)
  pub inside : first + n ≤ rows

abbrev pub BandTaken : Type 0
BandTaken = (d : Drawing) (columns rows first n width : ℕ) (b : List ℕ) → BandDone d columns rows first n width b → TakenBand d columns rows first n

-- some stroke, with the pen of its aperture's setting, makes pixel (i, j) black, by existence
abbrev pub StrokeBlack : Drawing → ℕ → ℕ → Type 0
StrokeBlack d i j = (k : ℕ) × (k < length d.apertures) × BlackPath (pen (setting_of d k)) (path_points (path_of d.starts d.entries k)) (centre (pos i) (pos j))

-- "the leftmost pixel in the highest bit, black is 1, spare bits are 0": of the byte that has column i, in a row that starts at index `at`, the bit that counts
-- 2 ^ (7 - i % 8) is 1 exactly when i is a column of the raster and the pixel is black
abbrev pub BitBlack : Drawing → ℕ → List ℕ → ℕ → ℕ → ℕ → Type 0
BitBlack d columns bytes at i j = (get_or bytes (at + i / 8) 0 / 2 ^ (7 - i % 8) % 2 ≡ 1) ↔ ((i < columns) × StrokeBlack d i j)

-- a row by itself, any of the film's, where some band of it was put
abbrev pub FilmRow : Type 0
FilmRow =
    (d : Drawing) (columns rows first n width : ℕ) (b : List ℕ) → BandDone d columns rows first n width b → (i j : ℕ) → i < 8 * width → j < rows →
    BitBlack d columns (row_of d columns rows width j) 0 i j

-- n rows of so many bytes. "The top row comes first": above row first + j of the film there are n - 1 - j rows of the band
pub record BandBits (d : Drawing) (columns first n width : ℕ) (bytes : List ℕ) : Type 0 where
  pub size : length bytes ≡ n * width
  pub small : (m : ℕ) → m < length bytes → get_or bytes m 0 < 256
  pub bit : (i j : ℕ) → i < 8 * width → j < n → BitBlack d columns bytes ((n - 1 - j) * width) i (first + j)

-- what stands in the buffer at exit: the band, as many bytes as are counted, and behind it the bytes that were there
pub record BandGiven (d : Drawing) (columns first n width : ℕ) (before : List ℕ) (r : Result ℕ) : Type 0 where
  pub band : BandBits d columns first n width (take r.answer.count r.list)
  pub count : r.answer.count ≡ n * width
  pub rest : drop r.answer.count r.list ≡ drop r.answer.count before

abbrev pub BandBit : Type 0
BandBit =
    (d : Drawing) (columns rows first n width : ℕ) (b : List ℕ) → BandDone d columns rows first n width b →
    BandGiven d columns first n width b (band_put d columns rows first n b)

-- ---- the film of its bands
-- the whole file is a header and the band of all rows; and two bands meet at any seam, the upper one first
pub record MadeOfBands (d : Drawing) (columns rows : ℕ) : Type 0 where
  pub whole : film d columns rows ≡ header columns rows ++ band_of d columns rows 0 rows
  pub meet : (first k m : ℕ) → band_of d columns rows first (k + m) ≡ band_of d columns rows (first + k) m ++ band_of d columns rows first k

abbrev pub BandsMakeFilm : Type 0
BandsMakeFilm = (d : Drawing) (columns rows : ℕ) → MadeOfBands d columns rows
