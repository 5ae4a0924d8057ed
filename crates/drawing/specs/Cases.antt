-- Document 01: "The whole PBM file for w=16, dot at (32,16), 5 columns, 3 rows: the characters P4, newline, 5, space, 3, newline; then the bytes 0, 32, 0."
use Rattle.std.specs.Prelude.{◌≡◌, refl, List, [], ◌∷◌, ◌++◌, ℕ, ℤ, pos}
use Rattle.setting.specs.declared.Setting.{Setting}
use Rattle.setting.specs.Setting.{taken, Dx, Dy}
use Rattle.quarter.specs.NearRoot.{norm, lower, tried, bisect, near_root}
use Rattle.quarter.specs.Cutting.{amount, retained, corners, quarter}
use Rattle.pen.specs.Polygon.{up_and_back, once_each, pen}
use Rattle.plane.specs.Polygon.{chain, edges}
use Rattle.stroke.specs.Sides.{furthest, sides}
use Rattle.ties.specs.Kept.{kept}
use Rattle.stroke.specs.Extent.{narrowed, extent}
use Rattle.limits.specs.Sizes.{in_range}
use Rattle.stroke.specs.Runs.{black_at}
use Rattle.stroke.specs.Sweep.{path_points}
use Rattle.bits.specs.Bits.{bits_from, bytes_from, packed}
use Rattle.text.specs.Decimal.{last_digits}
use Rattle.pbm.specs.Pbm.{top_first, file}
use Rattle.drawing.specs.Strokes.{Drawing}
use Rattle.drawing.specs.Film.{film, band_of}

abbrev pub dot_setting : Setting
dot_setting = record { w = 16; p = 1; q = 1 }

abbrev pub dot_settings : List ℕ
dot_settings = 16 ∷ 1 ∷ 1 ∷ []

abbrev pub dot_path : List ℤ
dot_path = pos 32 ∷ pos 16 ∷ []

-- "the characters P4, newline, 5, space, 3, newline"
abbrev pub dot_header : List ℕ
dot_header = 80 ∷ 52 ∷ 10 ∷ 53 ∷ 32 ∷ 51 ∷ 10 ∷ []

-- "then the bytes 0, 32, 0"
abbrev pub dot_rows : List ℕ
dot_rows = 0 ∷ 32 ∷ 0 ∷ []

abbrev pub dot_bytes : List ℕ
dot_bytes = dot_header ++ dot_rows

-- the file of the pixels that are black by the rules
pub dot_file : file 5 3 (λ j. packed (λ x. black_at (pen dot_setting) (path_points dot_path) (pos j) (pos x)) 5) ≡ dot_bytes
unfolding
    taken Dx Dy norm lower tried bisect near_root amount retained corners quarter up_and_back once_each pen chain edges
    furthest sides kept in_range narrowed extent path_points bits_from bytes_from last_digits top_first
dot_file = refl

-- the drawing that has this dot only, with aperture 10; its film is that file, in one band (proofs/Dot.antt)
abbrev pub dot_drawing : Drawing
dot_drawing = record { settings = dot_settings; apertures = 10 ∷ []; starts = 0 ∷ 2 ∷ []; entries = dot_path }

abbrev pub DotFilm : Type 0
DotFilm = film dot_drawing 5 3 ≡ dot_bytes

abbrev pub DotBand : Type 0
DotBand = band_of dot_drawing 5 3 0 3 ≡ dot_rows
