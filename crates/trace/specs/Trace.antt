-- Points gathered into strokes, as document 02's W4 has it: "Strokes handed out stand one after another in the lent path and stay valid".
use Rattle.std.specs.Prelude.{ℕ, ◌+◌, ◌-◌, Bool, true, false, not, cond, ◌&&◌, List, leb, ltb, length, set, ℤ, pos}
use Rattle.limits.specs.Sizes.{entries_max, in_range}
use Rattle.limits.specs.Refusal.{path, coordinate, room, unless_at, ◌then◌}
use Rattle.limits.specs.declared.Verdict.{Verdict}
use Rattle.trace.specs.declared.Trace.{Trace}
use Rattle.trace.specs.declared.Ended.{Ended}

abbrev pub nowhere : Trace
nowhere = record { placed = false; x = pos 0; y = pos 0; first = 0; filled = 0 }

abbrev pub is_open : Trace → Bool
is_open t = ltb t.first t.filled

-- "a D01 with none open starts one at the current point": two points, and then one each
abbrev pub adds : Trace → ℕ
adds t = cond (is_open t) 2 4

-- ---- "Path limits .. and room (7) are those of document 01 in the row calls' order": 2, 3, 7
-- 2: "more than 8,192" entries, with those of one more point
abbrev pub is_longer : Trace → Bool
is_longer t = is_open t && ltb entries_max (t.filled - t.first + 2)

-- 3: "a coordinate outside its range"
abbrev pub is_inside : ℤ → ℤ → Bool
is_inside x y = in_range x && in_range y

-- 7: all that was handed out, the open stroke and what is added have room
abbrev pub is_fit : Trace → ℕ → Bool
is_fit t space = leb (t.filled + adds t) space

abbrev pub line_verdict : Trace → ℤ → ℤ → ℕ → ℕ → Verdict
line_verdict t x y space place = unless_at place (not (is_longer t)) path then unless_at place (is_inside x y) coordinate then unless_at place (is_fit t space) room

-- "(the range for D02 too)"
abbrev pub move_verdict : ℤ → ℤ → ℕ → Verdict
move_verdict x y place = unless_at place (is_inside x y) coordinate

-- ---- what is written
abbrev pub put2 : List ℤ → ℕ → ℤ → ℤ → List ℤ
put2 l at x y = set (set l at x) (at + 1) y

pub record Lined : Type 0 where
  pub trace : Trace
  pub entries : List ℤ

-- by whether a stroke is open: the point; or the current point, and then it
abbrev pub lined_by : Bool → Trace → ℤ → ℤ → List ℤ → Lined
lined_by true t x y l = record { trace = record { placed = true; x = x; y = y; first = t.first; filled = t.filled + 2 }; entries = put2 l t.filled x y }
lined_by false t x y l =
    record {
      trace = record { placed = true; x = x; y = y; first = t.filled; filled = t.filled + 4 };
      entries = put2 (put2 l t.filled t.x t.y) (t.filled + 2) x y;
    }

-- nothing where there is no room
unfoldable pub lined : Trace → ℤ → ℤ → List ℤ → Lined
lined t x y l = cond (is_fit t (length l)) (lined_by (is_open t) t x y l) (record { trace = t; entries = l })

-- ---- where strokes end
-- the stroke's first entry and its number of entries; what is filled is handed out
abbrev pub ended : Trace → Ended
ended t = record { trace = record { placed = t.placed; x = t.x; y = t.y; first = t.filled; filled = t.filled }; first = t.first; length = t.filled - t.first }

abbrev pub moved : Trace → ℤ → ℤ → Trace
moved t x y = record { placed = true; x = x; y = y; first = t.filled; filled = t.filled }
