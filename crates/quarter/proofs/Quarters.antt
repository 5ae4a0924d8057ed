-- The corners that the rounds put out from a state on the way are a chain, so the quarter is one.
use Prim.Native.Nat.{ℕ, zero, suc, ◌+◌, ◌*◌, ◌≤◌}
use mathlib.Core.Path.{refl, subst}
use mathlib.Core.Logic.{inl, inr}
use native.Mathlib.Omega.{arith}
use Rattle.setting.specs.declared.Setting.{Setting}
use Rattle.setting.specs.Setting.{Taken, Dx, Dy}
use Rattle.quarter.specs.Cutting.{State, Step, ended, put, on, first, step, corners, quarter}
use Rattle.quarter.specs.Moment.{total}
use Rattle.quarter.proofs.Chain.{Link, Chain, stop, link}
use Rattle.quarter.proofs.Invariant.{Going}
use Rattle.quarter.proofs.Rounds.{Passed, Round, round, corners_by_step}
use Rattle.quarter.proofs.Progress.{first_going, first_total, corners_over}

-- what f rounds put out
abbrev Walk : Setting → ℕ → Type 0
Walk σ f = (t : State) (D k pu pv a b : ℕ) → Going D k pu pv a b t → total t ≤ f → Chain D k pu pv a b (corners σ f t)

-- after the corner of t is put out
passing : (σ : Setting) (f : ℕ) → Walk σ f → {D : ℕ} (t r : State) → Passed D t r → total t ≤ suc f → Chain D 0 t.before.u t.before.v t.x t.y (corners σ f r)
passing σ f rec {D} t r p h = elim p.next [
  | inl e ↦ rw (corners_over σ f r e.0) (stop e.1)
  | inr g ↦ rec r D 0 t.before.u t.before.v t.x t.y g (omega (arith, p.less))
]

-- by the kind of the round
stepping : (σ : Setting) (f : ℕ) → Walk σ f → {D k pu pv a b : ℕ} (t : State) → Going D k pu pv a b t → total t ≤ suc f →
    (s : Step) → Round D k pu pv a b t s → Chain D k pu pv a b (corners_by_step σ f t s)
stepping σ f rec t g h ended c = absurd (c.not_ended refl)
stepping σ f rec {D} {k} {pu} {pv} {a} {b} t g h (put r) c =
    link t.before.l2 t.before.u t.before.v
    (subst (λ (z : ℕ). Link z pu pv a b t.before.l2 t.before.u t.before.v t.x t.y) g.kept g.behind) (passing σ f rec t r (c.putting r refl) h)
stepping σ f rec {D} {k} {pu} {pv} {a} {b} t g h (on r) c = let d = c.cutting r refl in rec r D k pu pv a b d.going (omega (arith, d.less))

walk : (σ : Setting) (f : ℕ) → Walk σ f
unfolding corners
walk σ zero t D k pu pv a b g h = absurd (omega (arith, g.behind.long))
walk σ (suc f) t D k pu pv a b g h = stepping σ f (walk σ f) t g h (step σ t) (round σ t g)

pub quarter_chain : (σ : Setting) → Taken σ → Chain (Dx σ) (Dx σ) 1 0 0 (Dy σ) (quarter σ)
unfolding quarter
quarter_chain σ τ = walk σ (2 * Dx σ + 2 * Dy σ) (first σ) (Dx σ) (Dx σ) 1 0 0 (Dy σ) (first_going σ τ) (first_total σ)
