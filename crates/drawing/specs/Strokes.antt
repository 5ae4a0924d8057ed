-- The strokes of a drawing, and what is checked of each before anything is drawn.
use Rattle.std.specs.Prelude.{ℕ, zero, suc, ◌+◌, true, false, ◌&&◌, List, [], leb, length, get_or, ℤ}
use Rattle.std.proofs.Math.Seq.{slice}
use Rattle.limits.specs.declared.Verdict.{Verdict}
use Rattle.limits.specs.declared.Verdict.TheVariants.{Passed, Refused}
use Rattle.limits.specs.Refusal.{◌then◌}
use Rattle.checks.specs.Checks.{raster_verdict, call_verdict}
use Rattle.aperture.specs.declared.Table.{Table}
use Rattle.aperture.specs.Table.{looked, looked_verdict}
use Rattle.drawing.specs.declared.StrokeVerdict.{StrokeVerdict}
use Rattle.drawing.specs.declared.StrokeVerdict.TheVariants.{AllTaken, Stroke}
use Rattle.setting_list.specs.Settings.{table_of, settings_verdict}

-- the settings of the apertures, the aperture of each stroke, where each stroke's entries start, with the end of the last, and the entries of all
pub record Drawing : Type 0 where
  pub settings : List ℕ
  pub apertures : List ℕ
  pub starts : List ℕ
  pub entries : List ℤ

abbrev pub drawing_of : List ℕ → List ℕ → List ℕ → List ℤ → Drawing
drawing_of settings apertures starts entries = record { settings = settings; apertures = apertures; starts = starts; entries = entries }

-- the table of its apertures
abbrev pub table_in : Drawing → Table
table_in d = (table_of d.settings).table

-- the path of stroke k: the entries from start k on and before start k + 1, a start that is missing counting as 0. Where the two are not in order, or the list
-- of entries ends before the second, there are none, and the stroke is refused with 2
unfoldable pub path_of : List ℕ → List ℤ → ℕ → List ℤ
path_of starts entries k =
    let first = get_or starts k 0 in
    let end = get_or starts (k + 1) 0 in
    elim (leb first end && leb end (length entries)) [ true ↦ slice first end entries | false ↦ [] ]

-- what a row call with an aperture checks, asked for row 0, which every raster has: "Row calls check in the order 6, 2, 4, 5, 3"
abbrev pub row_zero_verdict : Table → ℕ → List ℤ → ℕ → ℕ → Verdict
row_zero_verdict t n path columns rows = call_verdict (looked_verdict (looked t n)) path columns rows 0

abbrev pub stroke_verdict : Drawing → ℕ → ℕ → ℕ → Verdict
stroke_verdict d columns rows k = row_zero_verdict (table_in d) (get_or d.apertures k 0) (path_of d.starts d.entries k) columns rows

-- n strokes from stroke k on, one after the other: which is the first that is refused, and with what
unfoldable pub first_from : Drawing → ℕ → ℕ → ℕ → ℕ → StrokeVerdict
first_from d columns rows k zero = AllTaken
first_from d columns rows k (suc n) = elim (stroke_verdict d columns rows k) [ Passed ↦ first_from d columns rows (suc k) n | Refused number place ↦ Stroke k number place ]

-- a drawing has as many strokes as apertures
abbrev pub first_refused : Drawing → ℕ → ℕ → StrokeVerdict
first_refused d columns rows = first_from d columns rows 0 (length d.apertures)

-- "For an answer that is an enum, a definition gives this paper's number and values for each of its cases"
abbrev pub strokes_verdict : StrokeVerdict → Verdict
strokes_verdict AllTaken = Passed
strokes_verdict (Stroke k number place) = Refused number place

-- the settings, the strokes, and then the raster by itself: 4 is told of a drawing without strokes too
abbrev pub film_verdict : Drawing → ℕ → ℕ → Verdict
film_verdict d columns rows = settings_verdict d.settings then strokes_verdict (first_refused d columns rows) then raster_verdict columns rows
