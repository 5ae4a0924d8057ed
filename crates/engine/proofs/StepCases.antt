-- A step by what its checks answer: where the row's check is passed, the room is left, and the columns between the flanks are the runs.
use Prim.Native.Nat.{ℕ}
use native.Mathlib.Omega.{arith}
use mathlib.Core.Path.{◌≡◌, sym, ap, ◌∙◌}
use mathlib.Core.List.{List}
use lib.Dec.{ltb}
use Rattle.limits.specs.Refusal.{row}
use Rattle.limits.specs.declared.Verdict.{Verdict}
use Rattle.limits.specs.declared.Verdict.TheVariants.{Passed, Refused}
use Rattle.limits.proofs.Verdicts.{unless_refused}
use Rattle.stroke.specs.Runs.{Run}
use Rattle.checks.specs.declared.Answer.{Answer}
use Rattle.checks.specs.Checks.{row_verdict}
use Rattle.checks.specs.Answer.{answer_of, Result, given}
use Rattle.checks.proofs.Given.{refused_here, passed_here}
use Rattle.row.specs.Answer.{runs_offer}
use Rattle.flanks.specs.declared.Cut.{Cut}
use Rattle.flanks.specs.Flanks.{cut_at}
use Rattle.engine.specs.declared.Engine.{Engine}
use Rattle.engine.specs.Engine.{cut_runs, engine_runs, step_result, next, stepped}
use Rattle.engine.proofs.Driven.{step_done, step_refused}
use Rattle.engine.proofs.Cut.{flanks_runs}

module _ (e : Engine) (l : List ℕ) where
  -- ---- what is answered, and the list
  pub step_past : {v : Verdict} {n place : ℕ} {a : Answer} → v ≡ row_verdict e.rows e.row → v ≡ Refused n place → a ≡ answer_of v → record { answer = a; list = l } ≡ step_result e l
  unfolding step_result
  step_past f g h = refused_here (runs_offer (engine_runs e) l) f g h

  pub step_written : {v : Verdict} {c : Cut} {r : Result ℕ} → v ≡ row_verdict e.rows e.row → v ≡ Passed →
      c ≡ cut_at e.flanks e.row e.columns → r ≡ given Passed (runs_offer (cut_runs c) l) → r ≡ step_result e l
  unfolding step_result
  step_written f g h k =
      passed_here (runs_offer (engine_runs e) l) f g
      (k ∙ ap (λ (c : Cut). given Passed (runs_offer (cut_runs c) l)) h ∙ ap (λ (rs : List Run). given Passed (runs_offer rs l)) (sym (flanks_runs e.flanks e.row e.columns)))

  -- ---- the engine after it, by the answer's number
  module _ {a : Answer} {m : List ℕ} (same : record { answer = a; list = m } ≡ step_result e l) where
    number_is : a.refusal ≡ (step_result e l).answer.refusal
    number_is = ap (λ (r : Result ℕ). r.answer.refusal) same

    pub stays : ¬ (a.refusal ≡ 0) → e ≡ stepped e l
    stays h = sym (step_refused e l (λ z. h (number_is ∙ z)))

    pub goes_up : {f : Engine} → a.refusal ≡ 0 → f ≡ next e → f ≡ stepped e l
    goes_up z g = g ∙ sym (step_done e l (sym number_is ∙ z))

-- a row that is refused is refused with 5, and so not with 0
pub past_number : (rows j : ℕ) {v : Verdict} {n place : ℕ} {a : Answer} → v ≡ row_verdict rows j → v ≡ Refused n place → a ≡ answer_of v → ¬ (a.refusal ≡ 0)
past_number rows j e f g z =
    let five = (unless_refused (ltb j rows) row e f).0 in
    omega (arith, z, ap (λ (a : Answer). a.refusal) (g ∙ ap answer_of five))
