-- What a call is asked, in one record, and what it answers; inside the crate only. `row_goes_on` and `packed_goes_on` of proofs/Settings: this is what Host
-- says of the two functions.
use Rattle.std.specs.Prelude.{ℕ, ◌*◌, ◌/◌, ◌≡◌, false, cond, List, [], ◌∷◌, leb, length, ℤ, pos}
use Rattle.limits.specs.declared.Verdict.{Verdict}
use Rattle.limits.specs.Refusal.{room, refuse}
use Rattle.wire.specs.Read.{entries_of}
use Rattle.wire.specs.Write.{encoded}
use Rattle.plane.specs.Point.{Pt}
use Rattle.pen.specs.Answer.{pen_corners, built}
use Rattle.stroke.specs.Sweep.{path_points}
use Rattle.stroke.specs.Runs.{black_at, row_runs}
use Rattle.checks.specs.declared.Answer.{Answer}
use Rattle.checks.specs.Checks.{verdict, call_verdict}
use Rattle.checks.specs.Answer.{answer_of, given}
use Rattle.outcome.specs.Outcome.{length_verdict, coded, Outcome, told}
use Rattle.packed.specs.Packed.{packed_offer}
use Rattle.host.specs.declared.answer.Call.{Call}
use Rattle.host.specs.Host.{run_bytes_offer}

-- the runs of a list as the host's bytes, or no room for them
abbrev pub written : Answer → List ℕ → List ℕ → Outcome
written a list b = cond (leb a.count (length b / 4)) (record { answer = coded a; bytes = encoded list (2 * a.count) b }) (record { answer = coded (answer_of (refuse room 0)); bytes = b })

-- the row as runs, and packed, for the corners of a pen, where the checks answer v
unfoldable pub runs_with : List Pt → Call → Verdict → List ℤ → List ℕ → Outcome
runs_with cs c v path b = told (given v (run_bytes_offer (row_runs cs (path_points path) c.columns c.row) b))

unfoldable pub packed_with : List Pt → Call → Verdict → List ℤ → List ℕ → Outcome
packed_with cs c v path b = told (given v (packed_offer cs path c.columns c.row b))

abbrev pub call_with : List Pt → Call → Verdict → List ℤ → List ℕ → Outcome
call_with cs c v path b = cond c.packed (packed_with cs c v path b) (runs_with cs c v path b)

-- the corners of the pen that is built, whatever the setting
abbrev pub built_corners : Call → List Pt
built_corners c = pen_corners (built c.setting).pen

-- nothing in the row that is asked for is black
abbrev pub Clear : List Pt → Call → List ℤ → Type 0
Clear cs c path = (x : ℕ) → black_at cs (path_points path) (pos c.row) (pos x) ≡ false

-- a path of one point
abbrev pub dot : List ℤ
dot = pos 0 ∷ pos 0 ∷ []

-- for a path of coordinates
abbrev pub entries_verdict : Call → List ℤ → Verdict
entries_verdict c path = verdict path c.columns c.rows c.row

abbrev pub entries_call : Call → List ℤ → List ℕ → Outcome
entries_call c path b = call_with (built_corners c) c (entries_verdict c path) path b

-- for a path of bytes
abbrev pub bytes_verdict : Call → List ℕ → Verdict
bytes_verdict c path = call_verdict (length_verdict path) (entries_of path) c.columns c.rows c.row

abbrev pub bytes_call : Call → List ℕ → List ℕ → Outcome
bytes_call c path b = call_with (built_corners c) c (bytes_verdict c path) (entries_of path) b
