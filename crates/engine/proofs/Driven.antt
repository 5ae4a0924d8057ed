-- An engine that was started in row `row` and has made k steps since stands k rows higher, with the flanks that have risen k rows; steps that were refused do not count.
use Prim.Native.Nat.{ℕ, suc, ◌+◌}
use native.Mathlib.Omega.{arith}
use mathlib.Core.Path.{◌≡◌, ap, ◌∙◌}
use mathlib.Core.Bool.{Bool, cond}
use mathlib.Core.List.{List}
use lib.ListN.{get_or}
use lib.IntN.{ℤ, pos}
use borrow.Author.Tests.{eq-eqb, ne_eqb}
use Rattle.pen.specs.declared.Pen.{Pen}
use Rattle.aperture.specs.declared.Table.{Table}
use Rattle.aperture.specs.Table.{place_of}
use Rattle.flanks.specs.declared.Flanks.{Flanks}
use Rattle.flanks.specs.Flanks.{flanks_at}
use Rattle.engine.specs.declared.Engine.{Engine}
use Rattle.engine.specs.Engine.{engine_of, step_result, next, stepped}
use Rattle.engine.specs.Theorems.{Driven, starts, steps, again}
use Rattle.engine.proofs.OneSegment.{last}
use Rattle.engine.proofs.Starting.{Passes, started_passes, started_engine}

-- ---- a step
-- one that is done leads one row up, and one that is refused nowhere
pub step_done : (e : Engine) (l : List ℕ) → (step_result e l).answer.refusal ≡ 0 → stepped e l ≡ next e
unfolding stepped
step_done e l z = ap (λ (t : Bool). cond t (next e) e) (eq-eqb (step_result e l).answer.refusal 0 z)

pub step_refused : (e : Engine) (l : List ℕ) → ¬ ((step_result e l).answer.refusal ≡ 0) → stepped e l ≡ e
unfolding stepped
step_refused e l h = ap (λ (t : Bool). cond t (next e) e) (ne_eqb (step_result e l).answer.refusal 0 h)

-- ---- many steps
-- the flanks of the path's segment k rows above row j
abbrev pub flanks_of : Pen → List ℤ → ℕ → ℕ → Flanks
flanks_of z p j k = flanks_at z.count z.x z.y (get_or p 0 (pos 0)) (get_or p 1 (pos 0)) (get_or p (last p) (pos 0)) (get_or p (last p + 1) (pos 0)) j k

abbrev pub driven_to : Pen → List ℤ → ℕ → ℕ → ℕ → ℕ → Engine
driven_to z p columns rows j k = record { pen = z; flanks = flanks_of z p j k; columns = columns; rows = rows; row = j + k }

module _ (z : Pen) (p : List ℤ) (columns rows j : ℕ) where
  driven_none : engine_of z p columns rows j ≡ driven_to z p columns rows j 0
  driven_none = let e : j + 0 ≡ j = omega arith in rw e

  driven_more : (k : ℕ) → next (driven_to z p columns rows j k) ≡ driven_to z p columns rows j (suc k)
  driven_more k = let e : j + suc k ≡ suc (j + k) = omega arith in rw e

module _ {t : Table} {n : ℕ} {p : List ℤ} {columns rows j : ℕ} where
  pub driven_is : {k : ℕ} {e : Engine} → Driven t n p columns rows j k e → e ≡ driven_to (place_of t n).pen p columns rows j k
  driven_is (starts z) = started_engine t n p columns rows j z ∙ driven_none (place_of t n).pen p columns rows j
  driven_is (steps {k} {e} d l z) = step_done e l z ∙ ap next (driven_is d) ∙ driven_more (place_of t n).pen p columns rows j k
  driven_is (again {k} {e} d l h) = step_refused e l h ∙ driven_is d

  pub driven_passes : {k : ℕ} {e : Engine} → Driven t n p columns rows j k e → Passes t n p columns rows j
  driven_passes (starts z) = started_passes t n p columns rows j z
  driven_passes (steps d l z) = driven_passes d
  driven_passes (again d l h) = driven_passes d
