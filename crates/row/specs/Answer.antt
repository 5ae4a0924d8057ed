-- What a row call answers and leaves, for every input.
use Rattle.std.specs.Prelude.{ℕ, ◌*◌, ◌/◌, List, [], ◌∷◌, ◌++◌, length, drop, ℤ}
use Rattle.limits.specs.declared.Verdict.{Verdict}
use Rattle.limits.specs.declared.Verdict.TheVariants.{Passed}
use Rattle.plane.specs.Point.{Pt}
use Rattle.stroke.specs.Sweep.{path_points}
use Rattle.stroke.specs.Runs.{Run, row_runs}
use Rattle.checks.specs.Checks.{call_verdict}
use Rattle.checks.specs.Answer.{Result, Offer, given}

-- "The list of runs is lent as records of a left and a right column": here left and right alternating
abbrev pub flat : List Run → List ℕ
flat [] = []
flat (r ∷ rs) = r.left ∷ r.right ∷ flat rs

-- "On success the first records hold the runs; those after them are unchanged"
abbrev pub listed : List Run → List ℕ → List ℕ
listed rs l = flat rs ++ drop (2 * length rs) l

-- what a call offers that has these runs: 7 is "more runs than the list has records"
abbrev pub runs_offer : List Run → List ℕ → Offer ℕ
runs_offer rs l = record { count = length rs; space = length l / 2; after = listed rs l; before = l }

-- the row of a path for the corners of a pen, where the checks answer v
abbrev pub row_given : Verdict → List Pt → List ℤ → ℕ → ℕ → List ℕ → Result ℕ
row_given v cs path columns j l = given v (runs_offer (row_runs cs (path_points path) columns j) l)

-- the call for a pen that is handed over
unfoldable pub row_result : List Pt → List ℤ → ℕ → ℕ → ℕ → List ℕ → Result ℕ
row_result cs path columns rows j l = row_given (call_verdict Passed path columns rows j) cs path columns j l
