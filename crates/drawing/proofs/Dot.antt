-- The film of the drawing with one dot is document 01's whole file, and its rows are one band.
use Prim.Native.Nat.{ℕ, ◌+◌}
use native.Mathlib.Nat.{zero-add}
use mathlib.Core.Path.{◌≡◌, refl, ap, ap₂, ◌∙◌}
use mathlib.Core.List.{List, [], ◌∷◌, ◌++◌}
use lib.IntN.{pos}
use Rattle.setting.specs.Setting.{taken, Dx, Dy}
use Rattle.setting.specs.Answer.{checked}
use Rattle.quarter.specs.NearRoot.{norm, lower, tried, bisect, near_root}
use Rattle.quarter.specs.Cutting.{amount, retained, corners, quarter}
use Rattle.pen.specs.Polygon.{up_and_back, once_each, pen}
use Rattle.plane.specs.Polygon.{chain, edges}
use Rattle.aperture.specs.Table.{defined, looked}
use Rattle.stroke.specs.Sides.{furthest, sides}
use Rattle.ties.specs.Kept.{kept}
use Rattle.stroke.specs.Extent.{narrowed, extent}
use Rattle.limits.specs.Sizes.{in_range}
use Rattle.checks.specs.Checks.{coordinate_from}
use Rattle.stroke.specs.Runs.{black_at}
use Rattle.limits.specs.declared.Verdict.TheVariants.{Passed}
use Rattle.stroke.specs.Sweep.{path_points}
use Rattle.bits.specs.Bits.{bits_from, bytes_from, packed}
use Rattle.text.specs.Decimal.{last_digits}
use Rattle.pbm.specs.Pbm.{header, top_first}
use Rattle.setting_list.specs.Settings.{tabled_from}
use Rattle.drawing.specs.Strokes.{path_of, first_from, film_verdict}
use Rattle.drawing.specs.Film.{row_of}
use Rattle.drawing.specs.Theorems.{setting_of}
use Rattle.drawing.specs.Cases.{dot_path, dot_header, dot_rows, dot_drawing, DotFilm, DotBand}
use Rattle.drawing.proofs.Rows.{same_rows}
use Rattle.drawing.proofs.Drawable.{drawable_film}
use Rattle.drawing.proofs.Packed.{any_below, row_packed}

-- the one stroke is taken
pub dot_taken : film_verdict dot_drawing 5 3 ≡ Passed
unfolding tabled_from defined checked taken looked path_of first_from coordinate_from in_range
dot_taken = refl

-- its rows are those of the pixels that are black by the rules
abbrev rows : ℕ → List ℕ
rows j = packed (λ x. any_below (λ k. black_at (pen (setting_of dot_drawing k)) (path_points (path_of (0 ∷ 2 ∷ []) dot_path k)) (pos j) (pos x)) 1) 5

bytes : top_first 3 rows ≡ dot_rows
unfolding
    tabled_from defined checked path_of taken Dx Dy norm lower tried bisect near_root amount retained corners quarter up_and_back once_each pen chain edges
    furthest sides kept in_range narrowed extent path_points bits_from bytes_from top_first any_below
bytes = refl

-- the header is that of its sizes
pub dot_header_lem : header 5 3 ≡ dot_header
unfolding last_digits
dot_header_lem = refl

-- any three rows that are its rows
three : (f : ℕ → List ℕ) → ((j : ℕ) → f j ≡ row_of dot_drawing 5 3 1 j) → top_first 3 f ≡ dot_rows
three f e = same_rows f rows 3 (λ j h. e j ∙ row_packed dot_drawing 5 3 (drawable_film dot_drawing 5 3 dot_taken) j h) ∙ bytes

pub dot_film : DotFilm
dot_film = ap₂ ◌++◌ dot_header_lem (three (row_of dot_drawing 5 3 1) (λ j. refl))

pub dot_band : DotBand
dot_band = three (λ j. row_of dot_drawing 5 3 1 (0 + j)) (λ j. ap (row_of dot_drawing 5 3 1) (zero-add j))
