-- What a row call answers and leaves where the list of runs is lent as records: the plain call's answer, over the numbers of the records.
use Rattle.std.specs.Prelude.{ℕ, ◌*◌, ◌/◌, cond, List, [], ◌∷◌, ◌++◌, leb, take, drop, ℤ}
use Rattle.limits.specs.Sizes.{entries_max}
use Rattle.aperture.specs.declared.Table.{Table}
use Rattle.checks.specs.Answer.{Result}
use Rattle.row.specs.Calls.{row_call}
use Rattle.records.specs.declared.Run.{Run}

-- the numbers of records, left and right alternating: what the plain call is lent
abbrev pub numbers : List Run → List ℕ
numbers [] = []
numbers (r ∷ rs) = r.left ∷ r.right ∷ numbers rs

-- the records of such numbers
abbrev pub pairs : List ℕ → List Run
pairs [] = []
pairs (a ∷ []) = []
pairs (a ∷ b ∷ l) = record { left = a; right = b } ∷ pairs l

abbrev pub as_records : Result ℕ → Result Run
as_records r = record { answer = r.answer; list = pairs r.list }

-- "The list of runs is lent as records of a left and a right column"
unfoldable pub records_call : Table → ℕ → List ℤ → ℕ → ℕ → ℕ → List Run → Result Run
records_call t n path columns rows j o = as_records (row_call t n path columns rows j (numbers o))

-- a row has no more runs than its path has segments, and so at most half as many as a path can have entries
abbrev pub runs_max : ℕ
runs_max = entries_max / 2

-- how many numbers the runs of a row need, for a list of so many records
abbrev pub entries : ℕ → ℕ
entries room = cond (leb room runs_max) (2 * room) entries_max

-- the first n records are those of a plain list; those after them are unchanged
abbrev pub written : ℕ → List ℕ → List Run → List Run
written n l o = take n (pairs l) ++ drop n o
