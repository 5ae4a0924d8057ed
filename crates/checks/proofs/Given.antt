-- A call by what its checks answer; and what an answer 0 says of them.
use mathlib.Core.Path.{◌≡◌, refl, sym, ap, ◌∙◌}
use mathlib.Core.List.{List}
use Prim.Native.Nat.{ℕ, ◌≤◌}
use native.Mathlib.Omega.{arith}
use lib.Dec.{leb}
use borrow.Author.Tests.{le-leb}
use Rattle.limits.specs.Refusal.{room, ◌then◌}
use Rattle.limits.specs.declared.Verdict.{Verdict}
use Rattle.limits.specs.declared.Verdict.TheVariants.{Passed, Refused}
use Rattle.limits.proofs.Verdicts.{then_both, NotZero, then_not_zero, unless_not_zero}
use Rattle.checks.specs.declared.Answer.{Answer}
use Rattle.checks.specs.Checks.{room_verdict}
use Rattle.checks.specs.Answer.{done, answer_of, Result, Offer, settled, given}
use Rattle.checks.proofs.Verdicts.{room_passed}

-- ---- from an answer 0 to the checks
-- what a call that answered 0 was offered, it gave
pub record Gave {A : Type 0} (v : Verdict) (o : Offer A) (answer : Answer) (list : List A) : Type 0 where
  pub passed : v ≡ Passed
  pub room : o.count ≤ o.space
  pub count : answer.count ≡ o.count
  pub left : list ≡ o.after

module _ {A : Type 0} (o : Offer A) where
  -- a refusal is never 0, so the checks were passed
  pub zero_gave : (v : Verdict) → NotZero v → (a : Answer) (l : List A) → record { answer = a; list = l } ≡ given v o → a.refusal ≡ 0 → Gave v o a l
  zero_gave v h a l e z = go (v then last) refl (then_not_zero v last h (unless_not_zero (leb o.count o.space) room)) e
    where
      last : Verdict
      last = room_verdict o.count o.space

      go : (w : Verdict) → (v then last) ≡ w → NotZero w → record { answer = a; list = l } ≡ settled w o → Gave v o a l
      go Passed q k e =
          let b = then_both v last q in
          record { passed = b.0; room = room_passed o.count o.space refl b.1; count = ap (λ (r : Result A). r.answer.count) e; left = ap (λ (r : Result A). r.list) e }
      go (Refused n place) q k e = absurd (omega (arith, z, ap (λ (r : Result A). r.answer.refusal) e))

  -- ---- from the checks to the call
  -- a check refuses: v is what the code was told, w what the definition says
  pub refused_here : {v w : Verdict} {n place : ℕ} {a : Answer} → v ≡ w → v ≡ Refused n place → a ≡ answer_of v → record { answer = a; list = o.before } ≡ given w o
  refused_here {n = n} {place} e f g = ap (λ (a : Answer). record { answer = a; list = o.before }) (g ∙ ap answer_of f) ∙ ap (λ (w : Verdict). given w o) (sym f ∙ e)

  -- the checks are passed, and the room is what is left
  pub passed_here : {v w : Verdict} {r : Result A} → v ≡ w → v ≡ Passed → r ≡ given Passed o → r ≡ given w o
  passed_here e f g = g ∙ ap (λ (w : Verdict). given w o) (sym f ∙ e)

  pub no_room : {v : Verdict} {n place : ℕ} {a : Answer} → v ≡ room_verdict o.count o.space → v ≡ Refused n place → a ≡ answer_of v → record { answer = a; list = o.before } ≡ given Passed o
  no_room {n = n} {place} e f g = ap (λ (a : Answer). record { answer = a; list = o.before }) (g ∙ ap answer_of f) ∙ ap (λ (w : Verdict). settled w o) (sym f ∙ e)

  pub room_left : {a : Answer} {l : List A} → o.count ≤ o.space → a ≡ done o.count → l ≡ o.after → record { answer = a; list = l } ≡ given Passed o
  room_left h e f = rw (le-leb o.count o.space h, e, f)
