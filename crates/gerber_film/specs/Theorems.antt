-- What is promised of a whole file that is drawn, for every unit, settings, file, path and lists. The claims are types; each is proved in proofs/ under its name in
-- small letters.
--
-- Why it is true: the strokes stand one after another in the path, and each has two points or more, so that there are no more of them than the lists have places;
-- where one ends the next begins, so that the starts and the end of the last tell the entries of each.
use Rattle.std.specs.Prelude.{ℕ, ◌≤◌, ◌<◌, ◌≡◌, false, List, length, get_or, ℤ}
use Rattle.std.proofs.Math.Option.{Option, none, some}
use Rattle.limits.specs.declared.Verdict.TheVariants as verdict·
use Rattle.drawing.specs.declared.StrokeVerdict.TheVariants.{AllTaken}
use Rattle.setting_list.specs.Settings.{settings_verdict}
use Rattle.drawing.specs.Strokes.{Drawing, path_of, first_refused, film_verdict}
use Rattle.language.specs.Grammar.{first, Placed, Reads}
use Rattle.gerber.specs.Reader.{Fault, finished}
use Rattle.gerber_file.specs.Strokes.{Drawn, flat}
use Rattle.gather.specs.declared.Finished.{Finished}
use Rattle.gather.specs.declared.Finished.TheVariants.{Done, Refused}
use Rattle.gather.specs.Gather.{Gathered, verdict_of}
use Rattle.gerber_film.specs.File.{Asked, end_of, left, answer_of_file, drawing_of_file, sentences, no_stroke}

-- ---- with such room no stroke is lost, whatever the file: the end of the file is well where the reader has nothing against it, and so 7 is only the reader's own,
-- for entries
pub record NoneLost (g : Gathered) : Type 0 where
  pub kept : g.gathering.lost ≡ false
  pub done : verdict_of (finished g.gathering.reader).given ≡ verdict·.Passed → (end_of g).answer ≡ Done

abbrev pub NothingLost : Type 0
NothingLost = (unit : ℕ) (settings l : List ℕ) (p : List ℤ) (a s : List ℕ) → Asked unit l p a s → NoneLost (left unit settings l p a s)

-- ---- the answer at the end of the file is what W4's sentences refuse it with; Done, where they do not
abbrev pub answer_for : Option Fault → Finished
answer_for none = Done
answer_for (some f) = Refused f.number f.place

abbrev pub FileAnswer : Type 0
FileAnswer = (unit : ℕ) (settings l : List ℕ) (p : List ℤ) (a s : List ℕ) → Asked unit l p a s → (fs : List Placed) (bad : Option ℕ) → Reads first 0 l fs bad →
    answer_of_file unit settings l p a s ≡ answer_for (sentences unit settings l p a s fs bad).refusal

-- ---- the drawing of a file that is not refused has the strokes that W4's sentences give for the file, in their order: as many, with their apertures and points
pub record SameStrokes (d : Drawing) (ds : List Drawn) : Type 0 where
  pub count : length d.apertures ≡ length ds
  pub aperture : (k : ℕ) → k < length ds → get_or d.apertures k 0 ≡ (get_or ds k no_stroke).aperture
  pub path : (k : ℕ) → k < length ds → path_of d.starts d.entries k ≡ flat (get_or ds k no_stroke).points

abbrev pub FileStrokes : Type 0
FileStrokes = (unit : ℕ) (settings l : List ℕ) (p : List ℤ) (a s : List ℕ) → Asked unit l p a s → answer_of_file unit settings l p a s ≡ Done →
    (fs : List Placed) (bad : Option ℕ) → Reads first 0 l fs bad → SameStrokes (drawing_of_file unit settings l p a s) (sentences unit settings l p a s fs bad).strokes

-- ---- a stroke that the reader gives is never refused by the drawing, whatever the raster; and so a film of settings that are not refused never is
pub record Size (n : ℕ) : Type 0 where
  pub least : 1 ≤ n
  pub most : n ≤ 16384

pub record Taken (d : Drawing) (columns rows : ℕ) : Type 0 where
  pub strokes : first_refused d columns rows ≡ AllTaken
  pub film : settings_verdict d.settings ≡ verdict·.Passed → film_verdict d columns rows ≡ verdict·.Passed

abbrev pub FileTaken : Type 0
FileTaken = (unit : ℕ) (settings l : List ℕ) (p : List ℤ) (a s : List ℕ) → Asked unit l p a s → answer_of_file unit settings l p a s ≡ Done →
    (columns rows : ℕ) → Size columns → Size rows → Taken (drawing_of_file unit settings l p a s) columns rows
