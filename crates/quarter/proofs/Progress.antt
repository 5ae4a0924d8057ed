-- The quarter at every moment, by one induction: the state is on the way or no corner is left, at most so many corners are out, and what the rounds still put
-- out makes the quarter of them. What is claimed of moments is read off `progress`.
use Prim.Native.Nat.{ℕ, zero, suc, ◌+◌, ◌*◌, ◌≤◌, ◌<◌, min}
use mathlib.Core.Path.{◌≡◌, refl, sym, ap, ◌∙◌}
use mathlib.Core.Logic.{inl, inr}
use mathlib.Core.List.{List, [], ◌∷◌, ◌++◌, append-nil}
use lib.ListN.{length, length-append}
use lib.Seq.{append_snoc}
use native.Mathlib.Nat.{mul-zero, mul_comm}
use native.Mathlib.Omega.{arith}
use Rattle.setting.specs.declared.Setting.{Setting}
use Rattle.quarter.specs.declared.Edge.{Edge}
use Rattle.setting.specs.Setting.{Taken, Dx, Dy}
use Rattle.quarter.specs.Cutting.{Corner, State, Step, ended, put, on, first, step, step_at, corners, quarter}
use Rattle.quarter.specs.Moment.{Moment, start, puts, cuts, sum, total}
use Rattle.setting.proofs.Limits.{box_wide, box_high}
use Rattle.quarter.proofs.Invariant.{Going, upright}
use Rattle.quarter.proofs.Rounds.{round, corners_by_step}
use Rattle.quarter.proofs.Slope.{times_one}

pub first_going : (σ : Setting) → Taken σ → Going (Dx σ) (Dx σ) 1 0 0 (Dy σ) (first σ)
first_going σ t =
    let wide = box_wide t in
    let high = box_high t in
    record {
      kept = refl;
      base = omega arith;
      bottom = λ h. refl;
      turning = omega arith;
      lies = omega arith;
      behind = record { right = omega arith; up = omega arith; level = mul-zero (Dx σ); long = omega arith; turn = omega arith; across = omega arith; down = omega arith };
      ahead = upright (record { level = refl; up = refl; start = refl; half = high.0; tall = high.1; place = refl; line = refl });
    }

-- 2 Dx + 2 Dy rounds are enough
pub first_total : (σ : Setting) → total (first σ) ≤ 2 * Dx σ + 2 * Dy σ
unfolding sum
first_total σ = omega arith

-- ---- what is still put out
-- `fuel` rounds are enough from t on, and put out what `out` lacks of the quarter
record Counted (σ : Setting) (out : List Corner) (t : State) : Type 0 where
  fuel : ℕ
  enough : total t ≤ fuel
  agrees : out ++ corners σ fuel t ≡ quarter σ

abbrev at : State → Corner
at t = record { x = t.x; y = t.y }

module _ (σ : Setting) where
  -- one round of `corners`
  pub corners_over : (f : ℕ) (t : State) → t.after ≡ [] → corners σ f t ≡ []
  unfolding corners
  corners_over zero t e = refl
  corners_over (suc f) t e = rw e

  corners_put : (f : ℕ) (t r : State) → step σ t ≡ put r → corners σ (suc f) t ≡ at t ∷ corners σ f r
  unfolding corners
  corners_put f t r e = ap (corners_by_step σ f t) e

  corners_on : (f : ℕ) (t r : State) → step σ t ≡ on r → corners σ (suc f) t ≡ corners σ f r
  unfolding corners
  corners_on f t r e = ap (corners_by_step σ f t) e

  -- a round that puts out a corner, and one that cuts
  counted_put : (out : List Corner) (t r : State) → step σ t ≡ put r → total r < total t → Counted σ out t → Counted σ (out ++ at t ∷ []) r
  counted_put out t r e h c = go c.fuel c.enough c.agrees
    where
      go : (f : ℕ) → total t ≤ f → out ++ corners σ f t ≡ quarter σ → Counted σ (out ++ at t ∷ []) r
      go zero n q = absurd (omega arith)
      go (suc f) n q = record { fuel = f; enough = omega arith; agrees = append_snoc out (at t) (corners σ f r) ∙ ap (λ (l : List Corner). out ++ l) (sym (corners_put f t r e)) ∙ q }

  counted_on : (out : List Corner) (t r : State) → step σ t ≡ on r → total r < total t → Counted σ out t → Counted σ out r
  counted_on out t r e h c = go c.fuel c.enough c.agrees
    where
      go : (f : ℕ) → total t ≤ f → out ++ corners σ f t ≡ quarter σ → Counted σ out r
      go zero n q = absurd (omega arith)
      go (suc f) n q = record { fuel = f; enough = omega arith; agrees = ap (λ (l : List Corner). out ++ l) (sym (corners_on f t r e)) ∙ q }

-- ---- the corners that are out
-- On the way the corner that was put out last is a to the right, so there are at most a + 1; while the bottom edge's middle is still on the edge
-- before, none.
pub data Stage (σ : Setting) (out : List Corner) (t : State) : Type 0 where
  way : {k pu pv a b : ℕ} → Going (Dx σ) k pu pv a b t → b ≤ 32 → length out + min k 1 ≤ suc a → Stage σ out t
  over : t.after ≡ [] → length out ≤ suc (Dx σ) → Stage σ out t

-- each corner that is out is further left than the next
pub out_few : {D k pu pv a b : ℕ} {t : State} (out : List Corner) → Going D k pu pv a b t → length out + min k 1 ≤ suc a → length out ≤ t.x
out_few {t = t} out g h =
    let u = times_one t.before.u t.before.l2 g.behind.right in
    omega (arith, g.behind.across, g.behind.long, g.kept, mul_comm t.before.u t.before.l2)

-- where no corner is left no round follows
no_step : (σ : Setting) (t : State) (s : Step) → t.after ≡ [] → step σ t ≡ s → s ≡ ended
no_step σ t s e f = sym f ∙ ap (λ (es : List Edge). step_at es σ t.x t.y t.before) e

pub record Progress (σ : Setting) (out : List Corner) (t : State) : Type 0 where
  pub stage : Stage σ out t
  counted : Counted σ out t

module _ (σ : Setting) (τ : Taken σ) where
  put_stage : {out : List Corner} {t r : State} → step σ t ≡ put r → Stage σ out t → (total r < total t) × Stage σ (out ++ at t ∷ []) r
  put_stage {out} {t} {r} e (way g hb few) =
      let p = (round σ t g).putting r e in
      let n = length-append out (at t ∷ []) in
      let m = out_few out g few in (
        p.less,
        elim p.next [
          | inl h ↦ over h.0 (omega arith)
          | inr h ↦ way h (omega (arith, g.behind.down)) (omega arith)
        ],
      )
  put_stage {out} {t} {r} e (over h few) = let z : ◌≡◌ {A = ℕ} 0 1 = cc (no_step σ t (put r) h e) in absurd (omega arith)

  on_stage : {out : List Corner} {t r : State} → step σ t ≡ on r → Stage σ out t → (total r < total t) × Stage σ out r
  on_stage {out} {t} {r} e (way g hb few) = let c = (round σ t g).cutting r e in (c.less, way c.going hb few)
  on_stage {out} {t} {r} e (over h few) = let z : ◌≡◌ {A = ℕ} 0 1 = cc (no_step σ t (on r) h e) in absurd (omega arith)

  pub progress : {out : List Corner} {t : State} → Moment σ out t → Progress σ out t
  unfolding quarter
  progress start = record {
    stage = way (first_going σ τ) (box_high τ).1 (omega (arith, (box_wide τ).0));
    counted = record { fuel = 2 * Dx σ + 2 * Dy σ; enough = first_total σ; agrees = refl };
  }
  progress (puts {out = out} {t = t} {r = r} m e) =
      let p = progress m in
      let s = put_stage e p.stage in
      record { stage = s.1; counted = counted_put σ out t r e s.0 p.counted }
  progress (cuts {out = out} {t = t} {r = r} m e) =
      let p = progress m in
      let s = on_stage e p.stage in
      record { stage = s.1; counted = counted_on σ out t r e s.0 p.counted }

  pub falls_put : {out : List Corner} {t r : State} → Moment σ out t → step σ t ≡ put r → total r < total t
  falls_put m e = (put_stage e (progress m).stage).0

  pub falls_on : {out : List Corner} {t r : State} → Moment σ out t → step σ t ≡ on r → total r < total t
  falls_on m e = (on_stage e (progress m).stage).0

  pub ends_with : {out : List Corner} {t : State} → Moment σ out t → t.after ≡ [] → out ≡ quarter σ
  ends_with {out} {t} m e =
      let c = (progress m).counted in
      sym (append-nil out) ∙ ap (λ (l : List Corner). out ++ l) (sym (corners_over σ c.fuel t e)) ∙ c.agrees
