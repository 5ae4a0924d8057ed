-- A start by what its checks answer, and the pen that it keeps.
use Prim.Native.Nat.{ℕ, zero, suc, ◌<◌}
use native.Mathlib.Omega.{arith}
use mathlib.Core.Path.{◌≡◌, refl, sym, ap, ◌∙◌}
use mathlib.Core.List.{List, [], ◌∷◌}
use lib.ListN.{length, get_or}
use lib.IntN.{ℤ}
use Rattle.limits.specs.declared.Verdict.{Verdict}
use Rattle.limits.specs.declared.Verdict.TheVariants.{Passed, Refused}
use Rattle.limits.specs.Sizes.{places}
use Rattle.limits.specs.Refusal.{aperture, refuse}
use Rattle.aperture.specs.declared.Table.{Table}
use Rattle.aperture.specs.declared.Looked.TheVariants as looked·
use Rattle.aperture.specs.declared.Place.{Place}
use Rattle.aperture.specs.Table.{vacant, looked, place_of}
use Rattle.aperture.proofs.Theorems.{looked_held, looked_small}
use Rattle.aperture.proofs.Held.{place_past_end}
use Rattle.checks.specs.declared.Answer.{Answer}
use Rattle.checks.specs.Checks.{segment_verdict, verdict}
use Rattle.checks.specs.Answer.{done, answer_of}
use Rattle.engine.specs.declared.Engine.{Engine}
use Rattle.engine.specs.declared.Started.{Started}
use Rattle.engine.specs.Engine.{start_verdict, engine_of, stopped, started_by, started}

module _ (t : Table) (n : ℕ) (p : List ℤ) (columns rows j : ℕ) where
  -- a check refuses
  pub start_refused : {v : Verdict} {m place : ℕ} {r : Started} → start_verdict t n p columns rows j ≡ v → v ≡ Refused m place → r ≡ record { answer = answer_of v; engine = stopped } →
      r ≡ started t n p columns rows j
  unfolding started
  start_refused e f g =
      g ∙ ap (λ (v : Verdict). record { answer = answer_of v; engine = stopped }) f
      ∙ sym (ap (λ (v : Verdict). started_by v (engine_of (place_of t n).pen p columns rows j)) (e ∙ f))

  -- none does
  pub start_done : {a : Answer} {e : Engine} → start_verdict t n p columns rows j ≡ Passed → a ≡ done 0 → e ≡ engine_of (place_of t n).pen p columns rows j →
      record { answer = a; engine = e } ≡ started t n p columns rows j
  unfolding started
  start_done f g h = rw (g, h) (sym (ap (λ (v : Verdict). started_by v (engine_of (place_of t n).pen p columns rows j)) f))

  -- the checks one after the other: of the aperture, of the segment, and the others
  pub verdict_unheld : looked t n ≡ looked·.Refused → start_verdict t n p columns rows j ≡ refuse aperture 0
  verdict_unheld e = rw e

  pub verdict_no_segment : {i : ℕ} {v : Verdict} {m place : ℕ} → looked t n ≡ looked·.At i → v ≡ segment_verdict p → v ≡ Refused m place → start_verdict t n p columns rows j ≡ v
  verdict_no_segment e f g = rw (e, sym f, g)

  pub verdict_left : {i : ℕ} → looked t n ≡ looked·.At i → segment_verdict p ≡ Passed → start_verdict t n p columns rows j ≡ verdict p columns rows j
  verdict_left e f = rw (e, f)

-- ---- the pen
-- an element of a list is the same, whatever stands past its end
default_free : {A : Type 0} (l : List A) (i : ℕ) (a b : A) → i < length l → get_or l i a ≡ get_or l i b
default_free [] i a b h = absurd (omega arith)
default_free (x ∷ l) zero a b h = refl
default_free (x ∷ l) (suc i) a b h = default_free l i a b (omega arith)

-- so the pen that the code reads where the look-up led it is the aperture's
pub pen_found : (t : Table) (n i : ℕ) → length t.places ≡ places → looked t n ≡ looked·.At i → (get_or t.places i place_past_end).pen ≡ (place_of t n).pen
pen_found t n i h e =
    ap (λ (q : Place). q.pen) (default_free t.places i place_past_end vacant (omega (arith, h, looked_small t n i e)))
    ∙ ap (λ (k : ℕ). (get_or t.places k vacant).pen) (sym (looked_held t n i e).1)
