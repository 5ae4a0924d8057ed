-- The claims of specs/Refusals.antt, each under its name there; and what looking up says among the checks of a call.
use mathlib.Core.Path.{◌≡◌, refl, sym, ap, ◌∙◌}
use mathlib.Core.Logic.{inl, inr}
use mathlib.Core.Bool.{Bool, true, false, not, ◌&&◌}
use Prim.Native.Nat.{ℕ}
use native.Mathlib.Omega.{arith}
use borrow.Author.Tests.{leb-false}
use lib.Dec.{leb}
use Rattle.integers.proofs.Tests.{clash}
use Rattle.limits.specs.Sizes.{aperture_min, aperture_max}
use Rattle.limits.specs.declared.Verdict.{Verdict}
use Rattle.limits.specs.declared.Verdict.TheVariants.{Passed, Refused}
use Rattle.limits.specs.Refusal.{aperture, in_use, unless, ◌then◌}
use Rattle.limits.proofs.Verdicts.{NotZero}
use Rattle.limits.proofs.Exactly.{number_of, Says, passes, refuses, unless_says, says_last, says_first}
use Rattle.setting.specs.Answer.{checked, checked_verdict}
use Rattle.setting.proofs.Exactly.{setting_says}
use Rattle.aperture.specs.declared.Table.{Table}
use Rattle.aperture.specs.declared.Looked.{Looked}
use Rattle.aperture.specs.declared.Looked.TheVariants as looked·
use Rattle.aperture.specs.Table.{vacant, holding, is_number, is_held, place_of, with_place, changed, define_verdict, defined, removed, looked, looked_verdict}
use Rattle.aperture.specs.Refusals.{NoNumber, NoPen, DefineRefuses, RemoveRefuses}
use Rattle.aperture.proofs.Numbers.{number_iff, held_parts}
use Rattle.aperture.proofs.Answers.{looks_nowhere, looks_at}

-- ---- the tests
number_good : (n : ℕ) → is_number n ≡ true → ¬ NoNumber n
number_good n e b = let k = (number_iff n).0 e in elim b [ inl h ↦ omega (arith, h, k.0) | inr h ↦ omega (arith, h, k.1) ]

number_fails : (n : ℕ) → is_number n ≡ false → NoNumber n
number_fails n e = go (leb aperture_min n) refl e
  where
    go : (t : Bool) → leb aperture_min n ≡ t → (t && leb n aperture_max) ≡ false → NoNumber n
    go false q e = inl (leb-false aperture_min n q)
    go true q e = inr (leb-false n aperture_max e)

held_good : (t : Table) (n : ℕ) → is_held t n ≡ true → ¬ NoPen t n
held_good t n e b = let h = held_parts t n e in elim b [ inl c ↦ number_good n h.0 c | inr c ↦ clash h.1 c ]

pub held_fails : (t : Table) (n : ℕ) → is_held t n ≡ false → NoPen t n
held_fails t n e = go (is_number n) refl e
  where
    go : (b : Bool) → is_number n ≡ b → (b && (place_of t n).used) ≡ false → NoPen t n
    go false q e = inl (number_fails n q)
    go true q e = inr e

-- ---- the checks
number_says : (n : ℕ) → Says (unless (is_number n) aperture) 6 (NoNumber n)
number_says n = unless_says (is_number n) aperture (NoNumber n) (number_good n) (number_fails n)

use_says : (t : Table) (n : ℕ) → Says (unless (not (place_of t n).used) in_use) 8 ((place_of t n).used ≡ true)
use_says t n = go (place_of t n).used
  where
    go : (u : Bool) → Says (unless (not u) in_use) 8 (u ≡ true)
    go true = refuses 0 refl refl
    go false = passes refl (λ e. clash e refl)

-- the look-up of a call that needs a pen
pub look_says : (t : Table) (n : ℕ) → Says (looked_verdict (looked t n)) 6 (NoPen t n)
look_says t n = go (is_held t n) refl
  where
    go : (h : Bool) → is_held t n ≡ h → Says (looked_verdict (looked t n)) 6 (NoPen t n)
    go true e = passes (ap looked_verdict (looks_at t n e)) (held_good t n e)
    go false e = refuses 0 (ap looked_verdict (looks_nowhere t n e)) (held_fails t n e)

-- and no refusal of it is 0
pub look_not_zero : (v : Looked) → NotZero (looked_verdict v)
look_not_zero (looked·.At i) = tt
look_not_zero looked·.Refused = omega arith

-- ---- the claims
changed_number : (v : Verdict) (after before : Table) → (changed v after before).refusal ≡ number_of v
changed_number Passed after before = refl
changed_number (Refused n place) after before = refl

pub define_refuses : DefineRefuses
unfolding defined
define_refuses t n σ k =
    let used : Verdict = unless (not (place_of t n).used) in_use in
    let f = says_first (number_says n) (checked_verdict (checked σ) then used) _ (says_first (setting_says σ) used _ (says_last (use_says t n))) k in
    let e = changed_number (define_verdict t n σ) (with_place t n (holding σ)) t in
    ((λ h. f.0 (sym e ∙ h)), λ h. e ∙ f.1 h)

pub remove_refuses : RemoveRefuses
unfolding removed
remove_refuses t n k =
    let f = says_last (unless_says (is_held t n) aperture (NoPen t n) (held_good t n) (held_fails t n)) k in
    let e = changed_number (unless (is_held t n) aperture) (with_place t n vacant) t in
    ((λ h. f.0 (sym e ∙ h)), λ h. e ∙ f.1 h)
