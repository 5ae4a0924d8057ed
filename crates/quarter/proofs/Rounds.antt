-- One round of the steps from a state on the way: the corner is put out, and the next state is on the way or has no corner left; or it is cut, and the
-- next state is on the way. Either takes at least one off the sum of l1 + l2.
use Prim.Native.Nat.{ℕ, zero, suc, ◌+◌, ◌*◌, ◌-◌, ◌≤◌, ◌<◌, min}
use mathlib.Core.Path.{◌≡◌, refl, subst}
use mathlib.Core.Logic.{◌⊎◌, inl, inr}
use mathlib.Core.Bool.{Bool, true, false, not}
use mathlib.Core.List.{List, [], ◌∷◌}
use native.Mathlib.Nat.{zero-mul}
use native.Mathlib.Omega.{arith}
use lib.Dec.{T, ltb, nltb→le}
use Rattle.setting.specs.declared.Setting.{Setting}
use Rattle.quarter.specs.declared.Edge.{Edge}
use Rattle.quarter.specs.NearRoot.{near_root}
use Rattle.quarter.specs.Cutting.{Corner, State, Step, ended, put, on, size, amount, passed, cut, act, step_at, step, corners}
use Rattle.quarter.specs.Moment.{sum, total}
use Rattle.quarter.proofs.Invariant.{Inner, After, upright, inner, Going}
use Rattle.quarter.proofs.Cuts.{Closer, cut_closer}
use Rattle.quarter.proofs.Slope.{slide_on}

-- ---- the amount by which a corner is cut
pub record Bounded (L R : Edge) (s : ℕ) : Type 0 where
  pub left : s ≤ L.l2
  pub right : s ≤ R.l1
  pub offset : s ≤ L.c + R.c
  pub near : 1 ≤ s → L.u * R.v ≤ 1 + L.v * R.u

pub amount_bounded : (σ : Setting) (L R : Edge) → Bounded L R (amount σ L R)
unfolding amount
amount_bounded σ L R = go (ltb (1 + L.v * R.u) (L.u * R.v)) (nltb→le (1 + L.v * R.u) (L.u * R.v))
  where
    go : (b : Bool) → (T (not b) → L.u * R.v ≤ 1 + L.v * R.u) →
        Bounded L R (elim b as (λ _. ℕ) [ true ↦ 0 | false ↦ min (min L.l2 R.l1) (L.c + R.c - near_root σ (L.u + R.u) (L.v + R.v)) ])
    go true n = record { left = omega arith; right = omega arith; offset = omega arith; near = λ h. absurd (omega arith) }
    go false n = record { left = omega arith; right = omega arith; offset = omega arith; near = λ h. n tt }

-- ---- what a round leaves
-- the corner of t is put out, and r comes next: the last corner is at the right side
pub record Passed (D : ℕ) (t r : State) : Type 0 where
  pub less : total r < total t
  pub next : ((r.after ≡ []) × (t.x ≡ D)) ⊎ Going D 0 t.before.u t.before.v t.x t.y r

pub record Round (D k pu pv a b : ℕ) (t : State) (s : Step) : Type 0 where
  pub not_ended : s ≡ ended → ⊥
  pub putting : (r : State) → s ≡ put r → Passed D t r
  pub cutting : (r : State) → s ≡ on r → Closer D k pu pv a b (total t) r

-- the corners put out from t on, where s is its round and f more follow
abbrev pub corners_by_step : Setting → ℕ → State → Step → List Corner
corners_by_step σ f t s = elim s as (λ _. List Corner) [ ended ↦ [] | put r ↦ record { x = t.x; y = t.y } ∷ corners σ f r | on r ↦ corners σ f r ]

abbrev pub state_at : ℕ → ℕ → Edge → List Edge → State
state_at x y L es = record { x = x; y = y; before = L; after = es }

-- the end of R is the next corner
passed-going :
    {D y' : ℕ} (x y : ℕ) (L R : Edge) {rest : List Edge} → 1 ≤ L.u → Inner L.u L.v x y y' R →
    After D R.u R.v (x + size R * R.u) y' rest → Going D 0 L.u L.v x y (passed x y R rest)
passed-going {D} {y'} x y L R {rest} h r k =
    let ey : y' ≡ y - size R * R.v = omega (arith, r.down) in
    record {
      kept = refl;
      base = omega arith;
      bottom = λ z. absurd (omega arith);
      turning = h;
      lies = slide_on R.u R.v (size R) x y R.c (omega (arith, r.down)) r.line;
      behind = record {
        right = r.right;
        up = omega (arith, r.up);
        level = zero-mul R.v;
        long = omega (arith, r.long);
        turn = omega (arith, r.turn);
        across = refl;
        down = omega (arith, r.down);
      };
      ahead = subst (λ (z : ℕ). After D R.u R.v (x + size R * R.u) z rest) ey k;
    }

passing :
    {D x y : ℕ} (L R : Edge) {rest : List Edge} → 1 ≤ L.u → 1 ≤ size L → After D L.u L.v x y (R ∷ rest) →
    Passed D (state_at x y L (R ∷ rest)) (passed x y R rest)
unfolding sum
passing L R h l (upright r) = record { less = omega arith; next = inl (refl, r.place) }
passing {x = x} {y} L R h l (inner y' r k) = record { less = omega arith; next = inr (passed-going x y L R h r k) }

module _ (σ : Setting) {D k pu pv a b : ℕ} (x y : ℕ) (L : Edge) where
  acting : (R : Edge) (rest : List Edge) → Going D k pu pv a b (state_at x y L (R ∷ rest)) → (n : ℕ) → Bounded L R n →
      Round D k pu pv a b (state_at x y L (R ∷ rest)) (act n σ x y L R rest)
  unfolding sum
  acting R rest g zero h =
      let p = passing L R g.behind.right g.behind.long g.ahead in
      record {
        not_ended = λ e. let z : ◌≡◌ {A = ℕ} 0 1 = cc in absurd (omega arith);
        putting = λ r e. let i : passed x y R rest ≡ r = cc in subst (λ (r : State). Passed D (state_at x y L (R ∷ rest)) r) i p;
        cutting = λ r e. let z : ◌≡◌ {A = ℕ} 0 1 = cc in absurd (omega arith);
      }
  acting R rest g (suc s) h =
      let c = cut_closer σ L R rest (suc s) g.kept g.base g.bottom g.turning (omega arith) h.left h.right (h.near (omega arith)) g.behind g.lies g.ahead in
      record {
        not_ended = λ e. let z : ◌≡◌ {A = ℕ} 0 1 = cc in absurd (omega arith);
        putting = λ r e. let z : ◌≡◌ {A = ℕ} 0 1 = cc in absurd (omega arith);
        cutting = λ r e. let i : cut σ x y (suc s) L R rest ≡ r = cc in subst (λ (r : State). Closer D k pu pv a b (size L + (size R + sum rest)) r) i c;
      }

  stepping : (es : List Edge) → Going D k pu pv a b (state_at x y L es) → After D L.u L.v x y es → Round D k pu pv a b (state_at x y L es) (step_at es σ x y L)
  stepping es g (upright {e = R} q) = acting R [] g (amount σ L R) (amount_bounded σ L R)
  stepping es g (inner y' {e = R} {es = rest} q k) = acting R rest g (amount σ L R) (amount_bounded σ L R)

pub round : (σ : Setting) {D k pu pv a b : ℕ} (t : State) → Going D k pu pv a b t → Round D k pu pv a b t (step σ t)
round σ t g = stepping σ t.x t.y t.before t.after g g.ahead
