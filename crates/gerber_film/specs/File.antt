-- A file that is read whole into lent lists, and the drawing that its strokes are.
use Rattle.std.specs.Prelude.{ℕ, ◌*◌, ◌^◌, ◌≤◌, ◌<◌, ◌≡◌, true, List, [], length, take, ℤ, pos}
use Rattle.std.proofs.Math.Option.{Option}
use Rattle.aperture.specs.Table.{is_held}
use Rattle.setting_list.specs.Settings.{table_of}
use Rattle.drawing.specs.Strokes as drawing·
use Rattle.units.specs.Units.{is_unit}
use Rattle.language.specs.Grammar.{Placed, said}
use Rattle.gerber_file.specs.Strokes.{Drawn, Drawing, blank, drawn}
use Rattle.gather.specs.declared.Finished.{Finished}
use Rattle.gather.specs.Gather.{begun, Gathered, gathered, Ended, finishing}

-- what is asked: a unit, fewer than 2^64 bytes, and lists with room for as many strokes as the path has, each of two points or more, that is four entries;
-- the starts have one more, for the end of the last
pub record Asked (unit : ℕ) (l : List ℕ) (p : List ℤ) (a s : List ℕ) : Type 0 where
  pub is_unit_lem : is_unit unit ≡ true
  pub size : length l < 2 ^ 64
  pub apertures : length p ≤ 4 * length a
  pub starts : length p < 4 * length s

-- ---- what was gathered, as a drawing
-- what the call at the file's end leaves of it
abbrev pub end_of : Gathered → Ended
end_of g = finishing g.gathering g.starts

-- as many apertures as strokes were noted, the starts with the end of the last, and the path
abbrev pub drawn_from : List ℕ → Gathered → drawing·.Drawing
drawn_from settings g = drawing·.drawing_of settings (take g.gathering.count g.apertures) (end_of g).starts g.path

-- ---- a file of the bytes l, read with a table of these settings, the path p and the lists a and s being lent
module _ (unit : ℕ) (settings l : List ℕ) (p : List ℤ) (a s : List ℕ) where
  -- what is left by calls with all its bytes; by GatherAnyChunks (gather) the chunks change nothing
  abbrev pub left : Gathered
  left = gathered (begun unit) (table_of settings).table l p a s

  abbrev pub answer_of_file : Finished
  answer_of_file = (end_of left).answer

  abbrev pub drawing_of_file : drawing·.Drawing
  drawing_of_file = drawn_from settings left

  -- what W4's sentences give, where the file's reading is this (language, Reads); as ExactStrokes (gerber_file) has it
  abbrev pub sentences : List Placed → Option ℕ → Drawing
  sentences fs bad = drawn unit (is_held (table_of settings).table) (length p) blank (said (pos 0) (pos 0) fs) bad

-- what stands at an index that no stroke has
abbrev pub no_stroke : Drawn
no_stroke = record { aperture = 0; first = 0; points = []; used = 0 }
