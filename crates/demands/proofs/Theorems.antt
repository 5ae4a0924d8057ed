-- The claims of specs/Demand2.antt, each under its name there; that of packed rows is in Packed. Those of Demand1 are in Refusals, those of Demand3 in Weight.
use Prim.Native.Nat.{ℕ}
use native.Mathlib.Omega.{arith}
use mathlib.Core.Path.{◌≡◌, refl, sym, ◌∙◌}
use mathlib.Core.Logic.{◌⊎◌, inl, inr}
use mathlib.Core.Bool.{Bool, true, false}
use Rattle.setting.specs.declared.Setting.{Setting}
use Rattle.aperture.specs.declared.Table.{Table}
use Rattle.aperture.specs.Table.{is_held}
use Rattle.aperture.specs.Reachable.{Reachable, Holds}
use Rattle.aperture.specs.Refusals.{NoPen}
use Rattle.aperture.proofs.Refusals.{held_fails}
use Rattle.aperture.proofs.Delivered.{used_holds}
use Rattle.demands.specs.Demand2.{ReportsLongest, SeamsMeet, AnsweredHolds}
use Rattle.demands.proofs.Refusals.{row_refuses, packed_refuses}
use Rattle.demands.proofs.Reported.{reports_is}
use Rattle.demands.proofs.Weight.{reports_runs}

pub reports_longest : ReportsLongest
reports_longest cs p path columns rows j rs r = reports_runs p r

pub seams_meet : SeamsMeet
seams_meet cs p path columns rows rows' j rs ss r s = reports_is r ∙ sym (reports_is s)

-- an answer 0 is no refusal for want of a pen, so the aperture is in use
no_refusal : {NoPen Rest : Type 0} → (NoPen × (◌≡◌ {A = ℕ} 0 6)) ⊎ (¬ NoPen × Rest) → ¬ NoPen
no_refusal (inl h) = absurd (omega (arith, h.1))
no_refusal (inr h) = h.0

in_use_lem : (t : Table) → Reachable t → (n : ℕ) → ¬ NoPen t n → (σ : Setting) × Holds t n σ
in_use_lem t r n h = go (is_held t n) refl
  where
    go : (b : Bool) → is_held t n ≡ b → (σ : Setting) × Holds t n σ
    go true e = used_holds t r n e
    go false e = absurd (h (held_fails t n e))

pub answered_holds : AnsweredHolds
answered_holds t r n p columns rows j l (inl e) = in_use_lem t r n (no_refusal (((row_refuses t n p columns rows j l).exactly 0).0 e))
answered_holds t r n p columns rows j l (inr e) = in_use_lem t r n (no_refusal (((packed_refuses t n p columns rows j l).exactly 0).0 e))
