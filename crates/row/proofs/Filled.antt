-- A row call on a table that holds a setting answers for that setting's pen; and an answer 0 holds the runs of the definition.
use Prim.Native.Nat.{ℕ}
use mathlib.Core.Path.{◌≡◌, ap, ◌∙◌}
use mathlib.Core.List.{List}
use lib.ListN.{length}
use lib.IntN.{ℤ}
use Rattle.setting.specs.declared.Setting.{Setting}
use Rattle.plane.specs.Point.{Pt}
use Rattle.pen.specs.Polygon.{pen}
use Rattle.aperture.specs.declared.Table.{Table}
use Rattle.aperture.proofs.Held.{holds_found, held_corners_lem}
use Rattle.checks.proofs.Verdicts.{verdict_not_zero}
use Rattle.checks.proofs.Given.{zero_gave}
use Rattle.checks.specs.Checks.{verdict}
use Rattle.stroke.specs.Runs.{Run, row_runs}
use Rattle.checks.specs.declared.Answer.{Answer}
use Rattle.stroke.specs.Sweep.{path_points}
use Rattle.row.specs.Answer.{listed, runs_offer, row_result}
use Rattle.row.specs.Calls.{row_call}
use Rattle.aperture.specs.Reachable.{Holds}

-- ---- the aperture's pen
pub call_is : {t : Table} {n : ℕ} {σ : Setting} → Holds t n σ → (p : List ℤ) (columns rows j : ℕ) (l : List ℕ) → row_call t n p columns rows j l ≡ row_result (pen σ) p columns rows j l
unfolding row_call row_result
call_is {t} {n} {σ} h p columns rows j l = rw (holds_found h, row_call) (ap (λ (cs : List Pt). row_result cs p columns rows j l) (held_corners_lem h))

-- ---- an answer 0 comes from a success
-- what an answer 0 says of the runs
pub record Filled (rs : List Run) (before : List ℕ) (answer : Answer) (after : List ℕ) : Type 0 where
  pub count : answer.count ≡ length rs
  pub left : after ≡ listed rs before

pub row_filled : (cs : List Pt) (p : List ℤ) (columns rows j : ℕ) (l : List ℕ) (a : Answer) (m : List ℕ) →
    record { answer = a; list = m } ≡ row_result cs p columns rows j l → a.refusal ≡ 0 → Filled (row_runs cs (path_points p) columns j) l a m
unfolding row_result
row_filled cs p columns rows j l a m e z =
    let g = zero_gave (runs_offer (row_runs cs (path_points p) columns j) l) (verdict p columns rows j) (verdict_not_zero p columns rows j) a m e z in
    record { count = g.count; left = g.left }

-- the answer of a call on a table that holds the setting
pub call_filled : {t : Table} {n : ℕ} {σ : Setting} → Holds t n σ → (p : List ℤ) (columns rows j : ℕ) (l : List ℕ) (a : Answer) (m : List ℕ) →
    record { answer = a; list = m } ≡ row_call t n p columns rows j l → a.refusal ≡ 0 → Filled (row_runs (pen σ) (path_points p) columns j) l a m
call_filled {σ = σ} h p columns rows j l a m e z = row_filled (pen σ) p columns rows j l a m (e ∙ call_is h p columns rows j l) z
