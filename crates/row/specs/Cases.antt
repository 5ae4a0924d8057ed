-- Document 01, "Cases": all that are marked *, pens and rows, as the definitions give them. One table, and one statement over it.
use Rattle.std.specs.Prelude.{ℕ, suc, ◌≡◌, refl, Bool, true, false, not, ◌&&◌, List, [], ◌∷◌, map, eqb, length, replicate, ℤ, pos, neg_ℤ}
use Rattle.setting.specs.declared.Setting.{Setting}
use Rattle.setting.specs.Setting.{taken, Dx, Dy}
use Rattle.quarter.specs.NearRoot.{norm, lower, tried, bisect, near_root}
use Rattle.quarter.specs.Cutting.{amount, retained, corners, quarter}
use Rattle.plane.specs.Point.{Pt, pt, same}
use Rattle.pen.specs.Polygon.{upward, up_and_back, once_each, pen}
use Rattle.plane.specs.Polygon.{chain, edges}
use Rattle.stroke.specs.Weight.{offset}
use Rattle.stroke.specs.Sides.{furthest, sides}
use Rattle.ties.specs.Kept.{kept}
use Rattle.stroke.specs.Extent.{narrowed, extent}
use Rattle.limits.specs.Sizes.{in_range}
use Rattle.checks.specs.Checks.{coordinate_from}
use Rattle.stroke.specs.Runs.{Run, runs_from, runs_of}
use Rattle.checks.specs.Answer.{Result, done}
use Rattle.stroke.specs.Sweep.{path_points}
use Rattle.row.specs.Answer.{listed, row_result}

pub data Case : Type 0 where
  -- the setting is taken, and these are its pen's lower right corners from the bottom
  pen_is : Setting → List Pt → Case
  -- with the setting's pen, the path, and a raster of so many columns and rows: the runs of each row from row 0 up
  rows_are : Setting → List ℤ → ℕ → ℕ → List (List Run) → Case

unfoldable pub same_points : List Pt → List Pt → Bool
same_points [] [] = true
same_points [] (Q ∷ l) = false
same_points (P ∷ k) [] = false
same_points (P ∷ k) (Q ∷ l) = same P Q && same_points k l

unfoldable pub same_numbers : List ℕ → List ℕ → Bool
same_numbers [] [] = true
same_numbers [] (b ∷ l) = false
same_numbers (a ∷ k) [] = false
same_numbers (a ∷ k) (b ∷ l) = eqb a b && same_numbers k l

abbrev pub same_result : Result ℕ → Result ℕ → Bool
same_result r s =
    eqb r.answer.refusal s.answer.refusal && (eqb r.answer.place s.answer.place && (eqb r.answer.count s.answer.count && same_numbers r.list s.list))

-- a list with room for three runs
abbrev pub blank : List ℕ
blank = replicate 6 0

-- the answers for row j and those above it, in a raster of so many rows, are 0 with exactly these runs
unfoldable pub rows_from : List Pt → List ℤ → ℕ → ℕ → ℕ → List (List Run) → Bool
rows_from cs path columns rows j [] = eqb j rows
rows_from cs path columns rows j (rs ∷ l) = same_result (row_result cs path columns rows j blank) (record { answer = done (length rs); list = listed rs blank }) && rows_from cs path columns rows (suc j) l

abbrev pub holds : Case → Bool
holds (pen_is σ l) = taken σ && same_points (map upward (quarter σ)) l
holds (rows_are σ path columns rows l) = taken σ && rows_from (pen σ) path columns rows 0 l

unfoldable pub all : List Case → Bool
all [] = true
all (c ∷ l) = holds c && all l

-- the setting of width w and aspect p/q; the corner (x, -y); a run; a row with no black pixel
abbrev setting : ℕ → ℕ → ℕ → Setting
setting w p q = record { w = w; p = p; q = q }

abbrev at : ℕ → ℕ → Pt
at x y = pt (pos x) (neg_ℤ (pos y))

abbrev run : ℕ → ℕ → List Run
run l r = record { left = l; right = r } ∷ []

abbrev clear : List Run
clear = []

abbrev line : ℕ → ℕ → ℕ → ℕ → List ℤ
line a b c d = pos a ∷ pos b ∷ pos c ∷ pos d ∷ []

abbrev dot : ℕ → ℕ → List ℤ
dot a b = pos a ∷ pos b ∷ []

abbrev pub table : List Case
table =
    pen_is (setting 16 1 1) (at 0 1 ∷ at 1 0 ∷ []) ∷
    pen_is (setting 32 1 1) (at 0 2 ∷ at 2 1 ∷ []) ∷
    pen_is (setting 48 1 1) (at 1 3 ∷ at 3 1 ∷ []) ∷
    pen_is (setting 64 1 1) (at 1 4 ∷ at 3 3 ∷ at 4 1 ∷ []) ∷
    pen_is (setting 112 1 1) (at 1 7 ∷ at 4 6 ∷ at 6 4 ∷ at 7 1 ∷ []) ∷
    pen_is (setting 176 1 1) (at 1 11 ∷ at 5 10 ∷ at 8 8 ∷ at 10 5 ∷ at 11 1 ∷ []) ∷
    pen_is (setting 32 2 1) (at 2 2 ∷ at 4 0 ∷ []) ∷
    rows_are (setting 16 1 1) (dot 32 32) 20 12 (clear ∷ clear ∷ run 2 2 ∷ clear ∷ clear ∷ clear ∷ clear ∷ clear ∷ clear ∷ clear ∷ clear ∷ clear ∷ []) ∷
    rows_are (setting 16 1 1) (dot 40 32) 20 12 (clear ∷ clear ∷ run 3 3 ∷ clear ∷ clear ∷ clear ∷ clear ∷ clear ∷ clear ∷ clear ∷ clear ∷ clear ∷ []) ∷
    rows_are (setting 16 1 1) (dot 32 40) 20 12 (clear ∷ clear ∷ clear ∷ clear ∷ clear ∷ clear ∷ clear ∷ clear ∷ clear ∷ clear ∷ clear ∷ clear ∷ []) ∷
    rows_are (setting 48 1 1) (line 48 32 160 32) 20 12 (clear ∷ run 3 11 ∷ run 2 11 ∷ run 3 11 ∷ clear ∷ clear ∷ clear ∷ clear ∷ clear ∷ clear ∷ clear ∷ clear ∷ []) ∷
    rows_are (setting 48 1 1) (line 48 32 160 32) 6 12 (clear ∷ run 3 5 ∷ run 2 5 ∷ run 3 5 ∷ clear ∷ clear ∷ clear ∷ clear ∷ clear ∷ clear ∷ clear ∷ clear ∷ []) ∷
    rows_are (setting 48 1 1) (line 48 40 160 40) 20 12 (clear ∷ clear ∷ run 2 11 ∷ run 2 11 ∷ run 3 10 ∷ clear ∷ clear ∷ clear ∷ clear ∷ clear ∷ clear ∷ clear ∷ []) ∷
    []

pub all_hold : all table ≡ true
unfolding taken Dx Dy norm lower tried bisect near_root amount retained corners quarter up_and_back once_each pen chain edges furthest sides kept in_range narrowed extent
    runs_from runs_of coordinate_from path_points row_result same_points same_numbers rows_from all
all_hold = refl

-- ---- the others, of which the checker computes these quickly
abbrev two : ℕ → ℕ → List Run
two a b = record { left = a; right = a } ∷ record { left = b; right = b } ∷ []

-- "w=16, (16,64) (16,16) (80,16) (80,64)"
abbrev pub four_points : List ℤ
four_points = pos 16 ∷ pos 64 ∷ pos 16 ∷ pos 16 ∷ pos 80 ∷ pos 16 ∷ pos 80 ∷ pos 64 ∷ []

-- "row j is j..j for j from 0 to 10"; "row 1 is 1..5, row 3 is 1..1 and 5..5"
abbrev pub others : List Case
others =
    rows_are (setting 16 1 1) (line 0 0 160 160) 20 12
    (run 0 0 ∷ run 1 1 ∷ run 2 2 ∷ run 3 3 ∷ run 4 4 ∷ run 5 5 ∷ run 6 6 ∷ run 7 7 ∷ run 8 8 ∷ run 9 9 ∷ run 10 10 ∷ clear ∷ []) ∷
    rows_are (setting 16 1 1) four_points 20 12 (clear ∷ run 1 5 ∷ two 1 5 ∷ two 1 5 ∷ two 1 5 ∷ clear ∷ clear ∷ clear ∷ clear ∷ clear ∷ clear ∷ clear ∷ []) ∷
    []

pub others_hold : all others ≡ true
unfolding
    taken Dx Dy norm lower tried bisect near_root amount retained corners quarter up_and_back once_each pen chain edges furthest sides kept in_range narrowed extent
    runs_from runs_of coordinate_from path_points row_result same_points same_numbers rows_from all
others_hold = refl

-- "with one record for row 3, refusal 7"
pub one_record : (row_result (pen (setting 16 1 1)) four_points 20 12 3 (replicate 2 0)).answer.refusal ≡ 7
unfolding
    taken Dx Dy norm lower tried bisect near_root amount retained corners quarter up_and_back once_each pen chain edges furthest sides kept in_range narrowed extent
    runs_from runs_of coordinate_from path_points row_result
one_record = refl

-- "w=64 in direction (1,2): c is 9"
pub nine : offset (pen (setting 64 1 1)) (pos 1) 2 ≡ pos 9
unfolding taken Dx Dy norm lower tried bisect near_root amount retained corners quarter up_and_back once_each pen furthest
nine = refl

-- "Limits: w 15 and 513 refused, 16 and 512 taken with p=q=1; .. 262,144 taken, 262,145 refused"
pub limits_hold : (not (taken (setting 15 1 1)) && (not (taken (setting 513 1 1)) && (taken (setting 16 1 1) && taken (setting 512 1 1))))
    && (in_range (pos 262144) && not (in_range (pos 262145))) ≡ true
unfolding taken in_range
limits_hold = refl
