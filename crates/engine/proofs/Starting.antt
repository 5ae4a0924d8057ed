-- A start that is answered 0: what it has passed, and the engine that it gives.
use Prim.Native.Nat.{ℕ}
use native.Mathlib.Omega.{arith}
use mathlib.Core.Path.{◌≡◌, refl, ap}
use mathlib.Core.List.{List}
use lib.IntN.{ℤ}
use Rattle.limits.specs.declared.Verdict.{Verdict}
use Rattle.limits.specs.declared.Verdict.TheVariants.{Passed, Refused}
use Rattle.limits.specs.Refusal.{◌then◌}
use Rattle.limits.proofs.Verdicts.{then_both, NotZero, then_not_zero}
use Rattle.aperture.specs.declared.Table.{Table}
use Rattle.aperture.specs.Table.{looked, looked_verdict, place_of}
use Rattle.aperture.proofs.Refusals.{look_not_zero}
use Rattle.checks.specs.Checks.{segment_verdict, verdict}
use Rattle.checks.proofs.Verdicts.{verdict_not_zero}
use Rattle.checks.proofs.Entries.{Entries, passed_entries, segment_not_zero}
use Rattle.engine.specs.declared.Engine.{Engine}
use Rattle.engine.specs.Engine.{start_verdict, engine_of, started_by, started}

-- ---- no refusal of a start is 0
-- so a start that answers 0 was not refused
zero_passed : (v : Verdict) (e : Engine) → NotZero v → (started_by v e).answer.refusal ≡ 0 → v ≡ Passed
zero_passed Passed e h z = refl
zero_passed (Refused n place) e h z = absurd (omega (arith, h, z))

module _ (t : Table) (n : ℕ) (p : List ℤ) (columns rows j : ℕ) where
  start_not_zero : NotZero (start_verdict t n p columns rows j)
  start_not_zero =
      then_not_zero (looked_verdict (looked t n) then segment_verdict p) _
      (then_not_zero (looked_verdict (looked t n)) (segment_verdict p) (look_not_zero (looked t n)) (segment_not_zero p))
      (verdict_not_zero p columns rows j)

  start_passed : (started t n p columns rows j).answer.refusal ≡ 0 → start_verdict t n p columns rows j ≡ Passed
  unfolding started
  start_passed = zero_passed (start_verdict t n p columns rows j) (engine_of (place_of t n).pen p columns rows j) start_not_zero

  -- what it has passed: the aperture holds a pen, the path is a segment, and a row call has nothing against the rest
  pub record Passes : Type 0 where
    pub held : looked_verdict (looked t n) ≡ Passed
    pub entries : Entries p
    pub checked : verdict p columns rows j ≡ Passed

  pub started_passes : (started t n p columns rows j).answer.refusal ≡ 0 → Passes
  started_passes z =
      let both = then_both (looked_verdict (looked t n) then segment_verdict p) (verdict p columns rows j) (start_passed z) in
      let first = then_both (looked_verdict (looked t n)) (segment_verdict p) both.0 in
      record { held = first.0; entries = passed_entries p first.1; checked = both.1 }

  -- and it gives the engine of the path's segment
  pub started_engine : (started t n p columns rows j).answer.refusal ≡ 0 → (started t n p columns rows j).engine ≡ engine_of (place_of t n).pen p columns rows j
  unfolding started
  started_engine z = ap (λ (v : Verdict). (started_by v (engine_of (place_of t n).pen p columns rows j)).engine) (start_passed z)
