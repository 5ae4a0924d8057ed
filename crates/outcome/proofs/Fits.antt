-- Which answers fit one number: all that a call gives.
use Prim.Native.Nat.{ℕ, ◌≤◌, ◌<◌}
use mathlib.Core.Path.{◌≡◌, refl, ap, subst, ◌∙◌}
use mathlib.Core.Bool.{Bool, true, false}
use native.Mathlib.Omega.{arith}
use lib.Dec.{leb}
use Rattle.limits.specs.Sizes.{entries_max}
use Rattle.limits.specs.declared.Verdict.{Verdict}
use Rattle.limits.specs.declared.Verdict.TheVariants.{Passed, Refused}
use Rattle.limits.specs.Refusal.{Refusal, setting, path, coordinate, raster, row, aperture, room, in_use, command, number, refuse, unless}
use Rattle.checks.specs.declared.Answer.{Answer}
use Rattle.checks.specs.Answer.{answer_of, Offer, settled, given}
use Rattle.outcome.specs.Outcome.{coded}
use Rattle.outcome.specs.Fit.{Fit, fitted}
use Rattle.outcome.proofs.Verdicts.{Small}

-- of an answer that fits nothing is lost
pub fitted_same : {a : Answer} → Fit a → coded (fitted a) ≡ coded a
fitted_same {a} f = omega (arith, f.refusal, f.place, f.count)

-- so that it is told whole
pub code_fit : {a b : Answer} {x : ℕ} → x ≡ coded (fitted a) → a ≡ b → Fit b → x ≡ coded b
code_fit e f g = e ∙ ap (λ (a : Answer). coded (fitted a)) f ∙ fitted_same g

-- what a call answers fits one number, where its refusals are small and it has not too much to give
pub given_fit : (v : Verdict) (o : Offer ℕ) → Small entries_max v → (v ≡ Passed → o.count ≤ entries_max) → Fit (given v o).answer
given_fit (Refused n place) o s h = record { refusal = omega (arith, s.1); place = omega (arith, s.2); count = omega arith }
given_fit Passed o s h = go (leb o.count o.space)
  where
    go : (t : Bool) → Fit (settled (unless t room) o).answer
    go true = record { refusal = omega arith; place = omega arith; count = omega (arith, h refl) }
    go false = record { refusal = omega arith; place = omega arith; count = omega arith }

-- and so does a refusal with place 0
number_small : (r : Refusal) → number r < 256
number_small setting = omega arith
number_small path = omega arith
number_small coordinate = omega arith
number_small raster = omega arith
number_small row = omega arith
number_small aperture = omega arith
number_small room = omega arith
number_small in_use = omega arith
number_small command = omega arith

refused_fit : (r : Refusal) → Fit (answer_of (refuse r 0))
refused_fit r = record { refusal = number_small r; place = omega arith; count = omega arith }

pub refused_code : (r : Refusal) {v : Verdict} {x : ℕ} → x ≡ coded (fitted (answer_of v)) → v ≡ refuse r 0 → x ≡ coded (answer_of (refuse r 0))
refused_code r e f = code_fit e (ap answer_of f) (refused_fit r)

-- nor is anything lost of a refusal with a small place
pub small_code : {v : Verdict} {n place x : ℕ} → x ≡ coded (fitted (answer_of v)) → v ≡ Refused n place → Small entries_max v → x ≡ coded (answer_of (Refused n place))
small_code {n = n} {place} e f s =
    let t : Small entries_max (Refused n place) = subst (Small entries_max) f s in
    code_fit e (ap answer_of f) (record { refusal = omega (arith, t.1); place = omega (arith, t.2); count = omega arith })
