-- Document 01, "What the drawer does": "The plotter's host program is written in C; it calls the row answer and the packed row with numbers and byte slices
-- only."
use Rattle.std.specs.Prelude.{ℕ, ◌*◌, ◌/◌, ◌%◌, List, [], ◌∷◌, ◌++◌, length, drop}
use Rattle.wire.specs.Read.{entries_of}
use Rattle.setting.specs.declared.Setting.{Setting}
use Rattle.pen.specs.Polygon.{pen}
use Rattle.stroke.specs.Sweep.{path_points}
use Rattle.stroke.specs.Runs.{Run, row_runs}
use Rattle.checks.specs.Answer.{Offer, given}
use Rattle.packed.specs.Packed.{packed_offer}
use Rattle.outcome.specs.Outcome.{host_verdict, Outcome, told}

-- "a run is four bytes, left then right column, two bytes each, lowest first"
abbrev pub run_bytes : List Run → List ℕ
run_bytes [] = []
run_bytes (r ∷ rs) = r.left % 256 ∷ r.left / 256 ∷ r.right % 256 ∷ r.right / 256 ∷ run_bytes rs

-- "and the room is the whole number of such fours"
abbrev pub run_bytes_offer : List Run → List ℕ → Offer ℕ
run_bytes_offer rs b = record { count = length rs; space = length b / 4; after = run_bytes rs ++ drop (4 * length rs) b; before = b }

unfoldable pub host_row : Setting → List ℕ → ℕ → ℕ → ℕ → List ℕ → Outcome
host_row σ bytes columns rows j b = told (given (host_verdict σ bytes columns rows j) (run_bytes_offer (row_runs (pen σ) (path_points (entries_of bytes)) columns j) b))

unfoldable pub host_packed_row : Setting → List ℕ → ℕ → ℕ → ℕ → List ℕ → Outcome
host_packed_row σ bytes columns rows j b = told (given (host_verdict σ bytes columns rows j) (packed_offer (pen σ) (entries_of bytes) columns j b))
