-- A row's answer as the host is told it: three numbers in one, and the runs as bytes.
use Prim.Native.Nat.{ℕ, ◌*◌, ◌/◌, ◌≤◌}
use mathlib.Core.Path.{◌≡◌, refl, sym, ap, ◌∙◌}
use mathlib.Core.Bool.{Bool, true, false, cond}
use mathlib.Core.List.{List}
use native.Mathlib.Omega.{arith}
use borrow.Author.Tests.{leb-true, le-leb, lt-leb}
use lib.Dec.{leb}
use lib.IntN.{ℤ}
use lib.ListN.{length}
use Rattle.limits.specs.Sizes.{entries_max}
use Rattle.limits.specs.declared.Verdict.{Verdict}
use Rattle.limits.specs.declared.Verdict.TheVariants.{Passed, Refused}
use Rattle.limits.specs.Refusal.{room, unless}
use Rattle.wire.specs.Write.{encoded}
use Rattle.wire.proofs.Laws.{encoded_none}
use Rattle.plane.specs.Point.{Pt}
use Rattle.stroke.specs.Sweep.{path_points}
use Rattle.stroke.specs.Runs.{Run, row_runs}
use Rattle.checks.specs.declared.Answer.{Answer}
use Rattle.checks.specs.Checks.{verdict, room_verdict}
use Rattle.checks.specs.Answer.{answer_of, Result, settled, given}
use Rattle.checks.proofs.Verdicts.{verdict_passed, verdict_short, room_passed, room_refused}
use Rattle.row.specs.Answer.{runs_offer, row_result}
use Rattle.row.proofs.FewRuns.{runs_entries}
use Rattle.bits.specs.Bits.{packed_length}
use Rattle.packed.specs.Packed.{packed_offer, pack_result}
use Rattle.outcome.specs.Outcome.{coded, Outcome, told}
use Rattle.outcome.specs.Fit.{Fit, fitted}
use Rattle.outcome.proofs.Fits.{given_fit}
use Rattle.outcome.proofs.Fits.{refused_code}
use Rattle.host.specs.Host.{run_bytes_offer}
use Rattle.host.specs.Call.{written, runs_with, packed_with, call_with, entries_verdict}
use Rattle.host.specs.declared.answer.Call.{Call}
use Rattle.outcome.proofs.Verdicts.{Small, small_verdict}
use Rattle.host.proofs.Words.{run_words}

-- ---- the numbers fit
-- a row has no more runs than a path has entries, and fills at most 2,048 bytes
pub runs_fit : (cs : List Pt) (path : List ℤ) (columns rows j : ℕ) → verdict path columns rows j ≡ Passed → length (row_runs cs (path_points path) columns j) ≤ entries_max
runs_fit cs path columns rows j e = omega (arith, runs_entries cs path columns j, verdict_short path columns rows j e)

pub bytes_fit : (path : List ℤ) (columns rows j : ℕ) → verdict path columns rows j ≡ Passed → packed_length columns ≤ entries_max
bytes_fit path columns rows j e = omega (arith, (verdict_passed path columns rows j e).size.few)

-- ---- the packed row
module _ (cs : List Pt) (c : Call) (path : List ℤ) (b : List ℕ) where
  pub call_packed_fit : Fit (pack_result cs path c.columns c.rows c.row b).answer
  unfolding pack_result
  call_packed_fit =
      given_fit (entries_verdict c path) (packed_offer cs path c.columns c.row b) (small_verdict path c.columns c.rows c.row)
      (bytes_fit path c.columns c.rows c.row)

  pub call_packed : told (pack_result cs path c.columns c.rows c.row b) ≡ packed_with cs c (entries_verdict c path) path b
  unfolding pack_result packed_with
  call_packed = refl

-- ---- the runs
-- what a row's answer says, unless its list is too short
pub record Drawn (r : Result ℕ) (b : List ℕ) (o : Outcome) : Type 0 where
  pub fit : Fit r.answer
  pub told : ¬ (r.answer.refusal ≡ 7) → written r.answer r.list b ≡ o

-- the runs of a list that had room for them, as bytes; the host has room for them or not
written_runs : (rs : List Run) (l b : List ℕ) → written (settled Passed (runs_offer rs l)).answer (settled Passed (runs_offer rs l)).list b ≡ told (given Passed (run_bytes_offer rs b))
written_runs rs l b = go (leb (length rs) (length b / 4)) refl
  where
    go : (t : Bool) → leb (length rs) (length b / 4) ≡ t → written (settled Passed (runs_offer rs l)).answer (settled Passed (runs_offer rs l)).list b ≡ told (given Passed (run_bytes_offer rs b))
    go true e = rw (e, run_words rs l b (leb-true (length rs) (length b / 4) e))
    go false e = rw e

-- a refused row has no runs, and leaves the bytes as they are
written_none : (n place : ℕ) (l b : List ℕ) → written (answer_of (Refused n place)) l b ≡ record { answer = coded (answer_of (Refused n place)); bytes = b }
written_none n place l b = rw (le-leb 0 (length b / 4) (omega arith), encoded_none l b)

runs_told : (v : Verdict) (rs : List Run) (l b : List ℕ) → ¬ ((given v (runs_offer rs l)).answer.refusal ≡ 7) →
    written (given v (runs_offer rs l)).answer (given v (runs_offer rs l)).list b ≡ told (given v (run_bytes_offer rs b))
runs_told (Refused n place) rs l b h = written_none n place l b
runs_told Passed rs l b h = go (leb (length rs) (length l / 2)) h
  where
    go : (t : Bool) → ¬ ((settled (unless t room) (runs_offer rs l)).answer.refusal ≡ 7) →
        written (settled (unless t room) (runs_offer rs l)).answer (settled (unless t room) (runs_offer rs l)).list b ≡ told (given Passed (run_bytes_offer rs b))
    go true h = written_runs rs l b
    go false h = absurd (h refl)

module _ (cs : List Pt) (c : Call) (path : List ℤ) (l : List ℕ) where
  abbrev rs : List Run
  rs = row_runs cs (path_points path) c.columns c.row

  pub call_runs_lem : (b : List ℕ) → Drawn (row_result cs path c.columns c.rows c.row l) b (runs_with cs c (entries_verdict c path) path b)
  unfolding row_result runs_with
  call_runs_lem b = record {
    fit = given_fit (entries_verdict c path) (runs_offer rs l) (small_verdict path c.columns c.rows c.row) (runs_fit cs path c.columns c.rows c.row);
    told = runs_told (entries_verdict c path) rs l b;
  }

  -- a list with as many numbers as the path has entries is never too short
  pub call_enough : (entries_verdict c path ≡ Passed → length path ≤ length l) → ¬ ((row_result cs path c.columns c.rows c.row l).answer.refusal ≡ 7)
  unfolding row_result
  call_enough long = go (entries_verdict c path) long (small_verdict path c.columns c.rows c.row)
    where
      go : (v : Verdict) → (v ≡ Passed → length path ≤ length l) → Small entries_max v → ¬ ((given v (runs_offer rs l)).answer.refusal ≡ 7)
      go (Refused n place) h s = λ z. omega (arith, z, s.1)
      go Passed h s = rw (le-leb (length rs) (length l / 2) (omega (arith, h refl, runs_entries cs path c.columns c.row))) (λ z. omega (arith, z))

-- ---- the bytes of a list, by the check of the host's room
module _ (a : Answer) (l b : List ℕ) {v : Verdict} (e : v ≡ room_verdict a.count (length b / 4)) where
  pub written_full : {n place x : ℕ} → v ≡ Refused n place → x ≡ coded (fitted (answer_of v)) → record { answer = x; bytes = b } ≡ written a l b
  written_full f g = let r = room_refused a.count (length b / 4) e f in rw (lt-leb a.count (length b / 4) r.0, refused_code room g r.1)

  pub written_all : {x : ℕ} {k : List ℕ} → v ≡ Passed → x ≡ coded a → k ≡ encoded l (2 * a.count) b → record { answer = x; bytes = k } ≡ written a l b
  written_all f g h = rw (le-leb a.count (length b / 4) (room_passed _ _ e f), g, h)

-- ---- a refused call is refused either way
pub call_refused : (cs : List Pt) (c : Call) (v : Verdict) (path : List ℤ) (b : List ℕ) {n place : ℕ} → v ≡ Refused n place → record { answer = coded (answer_of (Refused n place)); bytes = b } ≡ call_with cs c v path b
unfolding runs_with packed_with
call_refused cs c v path b {n} {place} e = go c.packed ∙ ap (λ (u : Verdict). call_with cs c u path b) (sym e)
  where
    go : (t : Bool) → record { answer = coded (answer_of (Refused n place)); bytes = b } ≡ cond t (packed_with cs c (Refused n place) path b) (runs_with cs c (Refused n place) path b)
    go true = refl
    go false = refl
