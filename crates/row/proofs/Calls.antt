-- A row call by what the look-up and the checks answer.
use mathlib.Core.Path.{◌≡◌, refl, ap, ◌∙◌}
use mathlib.Core.Logic.{inl, inr}
use mathlib.Core.List.{List}
use Prim.Native.Nat.{ℕ}
use native.Mathlib.Omega.{arith}
use lib.IntN.{ℤ}
use lib.ListN.{get_or}
use Rattle.limits.specs.declared.Verdict.{Verdict}
use Rattle.limits.specs.declared.Verdict.TheVariants.{Passed, Refused}
use Rattle.limits.specs.Refusal.{aperture, refuse}
use Rattle.plane.specs.Point.{Pt}
use Rattle.pen.specs.Answer.{pen_corners}
use Rattle.aperture.specs.declared.Table.{Table}
use Rattle.aperture.specs.declared.Looked.{Looked}
use Rattle.aperture.specs.declared.Looked.TheVariants as looked·
use Rattle.aperture.specs.Table.{looked, looked_verdict}
use Rattle.aperture.proofs.Held.{place_past_end, corners_found}
use Rattle.stroke.specs.Sweep.{path_points}
use Rattle.stroke.specs.Runs.{row_runs}
use Rattle.checks.specs.declared.Answer.{Answer}
use Rattle.checks.specs.Checks.{verdict}
use Rattle.checks.specs.Answer.{answer_of, Result}
use Rattle.checks.proofs.Given.{refused_here, passed_here}
use Rattle.checks.proofs.Exactly.{Placed, zero_placed}
use Rattle.row.specs.Answer.{runs_offer, row_given, row_result}
use Rattle.row.specs.Calls.{row_call}

-- ---- the checks
module _ (cs : List Pt) (path : List ℤ) (columns rows j : ℕ) (l : List ℕ) where
  pub runs_refused : {v : Verdict} {n place : ℕ} {a : Answer} → v ≡ verdict path columns rows j → v ≡ Refused n place → a ≡ answer_of v →
      record { answer = a; list = l } ≡ row_result cs path columns rows j l
  unfolding row_result
  runs_refused e f g = refused_here (runs_offer (row_runs cs (path_points path) columns j) l) e f g

  pub runs_passed : {v : Verdict} {r : Result ℕ} → v ≡ verdict path columns rows j → v ≡ Passed → r ≡ row_given Passed cs path columns j l → r ≡ row_result cs path columns rows j l
  unfolding row_result
  runs_passed e f g = passed_here (runs_offer (row_runs cs (path_points path) columns j) l) e f g

-- ---- the table
-- what the look-up is refused for is no entry of the path
pub look_placed : (p : List ℤ) (v : Looked) → Placed p (looked_verdict v)
look_placed p (looked·.At i) = zero_placed p Passed 6 (λ e. omega arith) (inl refl)
look_placed p looked·.Refused = zero_placed p (Refused 6 0) 6 (λ e. omega arith) (inr refl)

module _ (t : Table) (n : ℕ) (path : List ℤ) (columns rows j : ℕ) (l : List ℕ) where
  pub call_refused : {a : Answer} → looked t n ≡ looked·.Refused → a ≡ answer_of (refuse aperture 0) → record { answer = a; list = l } ≡ row_call t n path columns rows j l
  unfolding row_call
  call_refused e f = rw (row_call, e, f)

  pub call_at : (i : ℕ) → looked t n ≡ looked·.At i → row_result (pen_corners (get_or t.places i place_past_end).pen) path columns rows j l ≡ row_call t n path columns rows j l
  unfolding row_call row_result
  call_at i e = ap (λ (cs : List Pt). row_result cs path columns rows j l) (corners_found t n i e) ∙ rw (row_call, e)
