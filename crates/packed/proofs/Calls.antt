-- A call by what the look-up and the checks answer.
use mathlib.Core.Path.{◌≡◌, ap, ◌∙◌}
use mathlib.Core.List.{List}
use Prim.Native.Nat.{ℕ}
use lib.IntN.{ℤ}
use lib.ListN.{get_or}
use Rattle.limits.specs.declared.Verdict.{Verdict}
use Rattle.limits.specs.declared.Verdict.TheVariants.{Passed, Refused}
use Rattle.limits.specs.Refusal.{aperture, refuse}
use Rattle.plane.specs.Point.{Pt}
use Rattle.pen.specs.Answer.{pen_corners}
use Rattle.aperture.specs.declared.Table.{Table}
use Rattle.aperture.specs.declared.Looked.TheVariants as looked·
use Rattle.aperture.specs.Table.{looked}
use Rattle.aperture.proofs.Held.{place_past_end, corners_found}
use Rattle.checks.specs.declared.Answer.{Answer}
use Rattle.checks.specs.Checks.{verdict}
use Rattle.checks.specs.Answer.{answer_of, Result}
use Rattle.checks.proofs.Given.{refused_here, passed_here}
use Rattle.packed.specs.Packed.{packed_offer, packed_given, pack_result, packed_call}

-- ---- the checks
module _ (cs : List Pt) (path : List ℤ) (columns rows j : ℕ) (b : List ℕ) where
  pub packed_refused : {v : Verdict} {n place : ℕ} {a : Answer} → v ≡ verdict path columns rows j → v ≡ Refused n place → a ≡ answer_of v →
      record { answer = a; list = b } ≡ pack_result cs path columns rows j b
  unfolding pack_result
  packed_refused e f g = refused_here (packed_offer cs path columns j b) e f g

  pub packed_passed : {v : Verdict} {r : Result ℕ} → v ≡ verdict path columns rows j → v ≡ Passed → r ≡ packed_given Passed cs path columns j b → r ≡ pack_result cs path columns rows j b
  unfolding pack_result
  packed_passed e f g = passed_here (packed_offer cs path columns j b) e f g

-- ---- the table
module _ (t : Table) (n : ℕ) (path : List ℤ) (columns rows j : ℕ) (b : List ℕ) where
  pub call_refused : {a : Answer} → looked t n ≡ looked·.Refused → a ≡ answer_of (refuse aperture 0) → record { answer = a; list = b } ≡ packed_call t n path columns rows j b
  unfolding packed_call
  call_refused e f = rw (packed_call, e, f)

  pub call_at : (i : ℕ) → looked t n ≡ looked·.At i → pack_result (pen_corners (get_or t.places i place_past_end).pen) path columns rows j b ≡ packed_call t n path columns rows j b
  unfolding packed_call pack_result
  call_at i e = ap (λ (cs : List Pt). pack_result cs path columns rows j b) (corners_found t n i e) ∙ rw (packed_call, e)
