-- What checks answer, one after the other: the first that refuses is the answer, and a refusal's number is never 0.
use mathlib.Core.Path.{◌≡◌, refl, sym, ap, ◌∙◌}
use mathlib.Core.Bool.{Bool, true, false}
use Prim.Native.Nat.{ℕ, ◌≤◌}
use native.Mathlib.Omega.{arith}
use Rattle.limits.specs.declared.Verdict.{Verdict}
use Rattle.limits.specs.declared.Verdict.TheVariants.{Passed, Refused}
use Rattle.limits.specs.Refusal.{Refusal, setting, path, coordinate, raster, row, aperture, room, in_use, command, number, unless, unless_at, ◌then◌}

-- ---- a test
pub passed : {t : Bool} (r : Refusal) → t ≡ true → Passed ≡ unless t r
passed r e = rw e

pub refused : {t : Bool} (r : Refusal) → t ≡ false → Refused (number r) 0 ≡ unless t r
refused r e = rw e

pub not_passed : {A : Type 0} {n p : ℕ} → Refused n p ≡ Passed → A
not_passed e = absurd (let z : ◌≡◌ {A = ℕ} 0 1 = cc in omega arith)

pub unless_true : (t : Bool) (r : Refusal) → unless t r ≡ Passed → t ≡ true
unless_true true r e = refl
unless_true false r e = not_passed e

-- a test that refuses is not passed, and its place is 0
pub unless_refused : (t : Bool) (r : Refusal) {v : Verdict} {n p : ℕ} → v ≡ unless t r → v ≡ Refused n p → (v ≡ Refused (number r) 0) × (t ≡ false)
unless_refused true r e f = not_passed (sym f ∙ e)
unless_refused false r e f = (e, refl)

-- ---- one check after the other
pub goes_on : {u w : Verdict} (v : Verdict) → u ≡ Passed → w ≡ v → w ≡ (u then v)
goes_on v e f = f ∙ ap (λ (u : Verdict). u then v) (sym e)

pub stops : {u w : Verdict} (v : Verdict) {n p : ℕ} → u ≡ Refused n p → w ≡ u → w ≡ (u then v)
stops v e f = f ∙ e ∙ ap (λ (u : Verdict). u then v) (sym e)

pub then_both : (u v : Verdict) → (u then v) ≡ Passed → (u ≡ Passed) × (v ≡ Passed)
then_both Passed v e = (refl, e)
then_both (Refused n p) v e = not_passed e

pub then_assoc : (u v w : Verdict) → ((u then v) then w) ≡ (u then v then w)
then_assoc Passed v w = refl
then_assoc (Refused n p) v w = refl

-- ---- a refusal is never 0
abbrev pub NotZero : Verdict → Type 0
NotZero Passed = Unit
NotZero (Refused n p) = 1 ≤ n

pub number_not_zero : (r : Refusal) → 1 ≤ number r
number_not_zero setting = omega arith
number_not_zero path = omega arith
number_not_zero coordinate = omega arith
number_not_zero raster = omega arith
number_not_zero row = omega arith
number_not_zero aperture = omega arith
number_not_zero room = omega arith
number_not_zero in_use = omega arith
number_not_zero command = omega arith

pub unless_not_zero : (b : Bool) (r : Refusal) → NotZero (unless b r)
unless_not_zero true r = tt
unless_not_zero false r = number_not_zero r

pub unless_at_not_zero : (place : ℕ) (b : Bool) (r : Refusal) → NotZero (unless_at place b r)
unless_at_not_zero place true r = tt
unless_at_not_zero place false r = number_not_zero r

pub then_not_zero : (v w : Verdict) → NotZero v → NotZero w → NotZero (v then w)
then_not_zero Passed w h k = k
then_not_zero (Refused n p) w h k = h
