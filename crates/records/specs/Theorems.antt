-- What is proved of the records call: it is the plain call with records in place of alternating numbers, and what that comes to, case by case.
-- Each claim is a type; proofs/Theorems.antt proves it under the same name.
use Rattle.std.specs.Prelude.{ℕ, ◌≡◌, List, map, ◌++◌, length, drop, ℤ}
use Rattle.stroke.specs.Runs as stroke
use Rattle.stroke.specs.Runs.{row_runs}
use Rattle.aperture.specs.declared.Table.{Table}
use Rattle.aperture.specs.Table.{looked, looked_verdict, held_corners}
use Rattle.checks.specs.declared.Answer.{Answer}
use Rattle.checks.specs.Checks.{call_verdict}
use Rattle.checks.specs.Answer.{Result, Offer, given}
use Rattle.stroke.specs.Sweep.{path_points}
use Rattle.row.specs.Calls.{row_call}
use Rattle.records.specs.declared.Run.{Run}
use Rattle.records.specs.Records.{numbers, records_call}

-- What a records call answers and leaves, the plain call answers and leaves for the numbers of the same records. So what is proved of plain calls holds of these.
abbrev pub SameAsPlain : Type 0
SameAsPlain =
    (t : Table) (n : ℕ) (path : List ℤ) (columns rows j : ℕ) (before after : List Run) (answer : Answer) →
    record { answer = answer; list = after } ≡ records_call t n path columns rows j before →
    record { answer = answer; list = numbers after } ≡ row_call t n path columns rows j (numbers before)

-- a run as a record
abbrev pub record_of : stroke.Run → Run
record_of r = record { left = r.left; right = r.right }

abbrev pub records_of : List stroke.Run → List Run
records_of rs = map record_of rs

-- what a call offers that has these runs: "On success the first records hold the runs; those after them are unchanged"; 7 is "more runs than the list has
-- records"
abbrev pub records_offer : List stroke.Run → List Run → Offer Run
records_offer rs o = record { count = length rs; space = length o; after = records_of rs ++ drop (length rs) o; before = o }

-- the look-up, the checks and the runs of the plain call, with room for as many runs as there are records
unfoldable pub spelt : Table → ℕ → List ℤ → ℕ → ℕ → ℕ → List Run → Result Run
spelt t n path columns rows j o = given (call_verdict (looked_verdict (looked t n)) path columns rows j) (records_offer (row_runs (held_corners t n) (path_points path) columns j) o)

-- A records call answers and leaves what is spelt out above.
abbrev pub SpeltOut : Type 0
SpeltOut = (t : Table) (n : ℕ) (path : List ℤ) (columns rows j : ℕ) (o : List Run) → records_call t n path columns rows j o ≡ spelt t n path columns rows j o
