-- What a plain call comes to, whatever list it is lent: its checks, and its runs, of which no row has more than half as many as a raster has columns.
use Prim.Native.Nat.{ℕ, ◌≤◌}
use native.Mathlib.Omega.{arith}
use mathlib.Core.Path.{◌≡◌, refl}
use mathlib.Core.List.{List}
use lib.ListN.{length}
use lib.IntN.{ℤ}
use Rattle.limits.specs.declared.Verdict.{Verdict}
use Rattle.limits.specs.declared.Verdict.TheVariants.{Passed}
use Rattle.limits.proofs.Verdicts.{then_both}
use Rattle.aperture.specs.declared.Table.{Table}
use Rattle.aperture.specs.Table.{looked, looked_verdict, held_corners}
use Rattle.stroke.specs.Sweep.{path_points}
use Rattle.stroke.specs.Runs.{Run, row_runs}
use Rattle.checks.specs.Checks.{verdict, call_verdict}
use Rattle.checks.specs.Answer.{given}
use Rattle.checks.proofs.Verdicts.{verdict_short}
use Rattle.row.specs.Answer.{runs_offer}
use Rattle.row.specs.Calls.{row_call}
use Rattle.row.proofs.FewRuns.{runs_entries}
use Rattle.records.specs.Records.{runs_max}

module _ (t : Table) (n : ℕ) (path : List ℤ) (columns rows j : ℕ) where
  abbrev pub call_checks : Verdict
  call_checks = call_verdict (looked_verdict (looked t n)) path columns rows j

  abbrev pub call_runs : List Run
  call_runs = row_runs (held_corners t n) (path_points path) columns j

  pub call_given : (l : List ℕ) → row_call t n path columns rows j l ≡ given call_checks (runs_offer call_runs l)
  unfolding row_call
  call_given l = refl

  -- a path has two entries for each run
  pub call_few : call_checks ≡ Passed → length call_runs ≤ runs_max
  call_few e =
      let d = verdict_short path columns rows j (then_both (looked_verdict (looked t n)) (verdict path columns rows j) e).1 in
      omega (arith, runs_entries (held_corners t n) path columns j)
