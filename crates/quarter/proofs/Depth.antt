-- The edges after the corner are at most 8: each goes further to the right than the next, and together they go no further than the box, of at most 32.
use Prim.Native.Nat.{ℕ, zero, suc, ◌+◌, ◌≤◌, ◌<◌}
use mathlib.Core.Path.{◌≡◌, refl, subst, sym}
use mathlib.Core.Bool.{Bool, true, false}
use mathlib.Core.List.{List, [], ◌∷◌}
use lib.ListN.{length}
use lib.Dec.{eqb}
use native.Mathlib.Nat.{lt_of_lt_of_le}
use native.Mathlib.Omega.{arith}
use Rattle.setting.specs.declared.Setting.{Setting}
use Rattle.setting.specs.Setting.{Taken}
use Rattle.setting.proofs.Limits.{box_wide}
use Rattle.quarter.specs.declared.Edge.{Edge}
use Rattle.quarter.specs.Cutting.{Corner, State, Step, ended, put, on, size, amount, short_r, cut_edge, cut_by, cut, act, step_at, step}
use Rattle.quarter.specs.Moment.{Moment, start, puts, cuts}
use Rattle.quarter.proofs.Invariant.{After, upright, inner}
use Rattle.quarter.proofs.Progress.{Stage, way, over, progress}
use Rattle.quarter.proofs.Slope.{times_one}

-- ---- each goes further to the right than the next
data Falling : List Edge → Type 0 where
  none : Falling []
  last : {e : Edge} → Falling (e ∷ [])
  more : {e f : Edge} {es : List Edge} → f.u < e.u → Falling (f ∷ es) → Falling (e ∷ f ∷ es)

rest_falls : {e : Edge} {es : List Edge} → Falling (e ∷ es) → Falling es
rest_falls last = none
rest_falls (more h f) = f

-- another first edge, which goes no less far
further : {e : Edge} (g : Edge) {es : List Edge} → e.u ≤ g.u → Falling (e ∷ es) → Falling (g ∷ es)
further g h last = last
further g h (more k f) = more (lt_of_lt_of_le k h) f

-- ---- a round keeps that
abbrev left_after : Step → List Edge
left_after ended = []
left_after (put r) = r.after
left_after (on r) = r.after

module _ (σ : Setting) (x y : ℕ) (L : Edge) where
  cut_falls : (s : ℕ) (R : Edge) (rest : List Edge) → 1 ≤ L.u → Falling (R ∷ rest) → Falling (cut σ x y s L R rest).after
  cut_falls s R rest h f = go (eqb s (size L)) (eqb s (size R))
    where
      go : (a b : Bool) → Falling (cut_by a b σ x y s L R rest).after
      go true true = rest_falls f
      go true false = further (short_r R s) (omega arith) f
      go false true = further (cut_edge L R s R.l1 R.l2) (omega arith) f
      go false false = let far : R.u < L.u + R.u = omega (arith, h) in more far (further (short_r R s) (omega arith) f)

  step_falls : (es : List Edge) → 1 ≤ L.u → Falling es → Falling (left_after (step_at es σ x y L))
  step_falls [] h f = none
  step_falls (R ∷ rest) h f = go (amount σ L R)
    where
      go : (n : ℕ) → Falling (left_after (act n σ x y L R rest))
      go zero = rest_falls f
      go (suc s) = cut_falls (suc s) R rest h f

-- ---- so many edges go at least so far
abbrev along : ℕ → ℕ
along zero = 0
along (suc m) = suc m + along m

few_along : (m : ℕ) → along m ≤ 32 → m ≤ 7
few_along zero h = omega arith
few_along (suc zero) h = omega arith
few_along (suc (suc zero)) h = omega arith
few_along (suc (suc (suc zero))) h = omega arith
few_along (suc (suc (suc (suc zero)))) h = omega arith
few_along (suc (suc (suc (suc (suc zero))))) h = omega arith
few_along (suc (suc (suc (suc (suc (suc zero)))))) h = omega arith
few_along (suc (suc (suc (suc (suc (suc (suc zero))))))) h = omega arith
few_along (suc (suc (suc (suc (suc (suc (suc (suc m)))))))) h = absurd (omega (arith, h))

abbrev first_across : List Edge → ℕ
first_across [] = 0
first_across (e ∷ es) = e.u

first_falls : {e : Edge} {es : List Edge} → Falling (e ∷ es) → 1 ≤ length es → first_across es < e.u
first_falls last h = absurd (omega (arith, h))
first_falls (more k f) h = k

record Deep (D x : ℕ) (es : List Edge) : Type 0 where
  before_last : ℕ
  long : length es ≡ suc before_last
  room : x + along before_last ≤ D
  high : before_last ≤ first_across es

deep : {D pu pv x y : ℕ} {es : List Edge} → After D pu pv x y es → Falling es → Deep D x es
deep (upright r) f = record { before_last = 0; long = refl; room = omega (arith, r.place); high = omega arith }
deep {x = x} (inner y' {e = e} r k) f =
    let d = deep k (rest_falls f) in
    let h = first_falls f (omega (arith, d.long)) in
    record {
      before_last = suc d.before_last;
      long = omega (arith, d.long);
      room = omega (arith, d.room, d.high, h, times_one (size e) e.u r.long);
      high = omega (arith, d.high, h);
    }

-- ---- at every moment
module _ (σ : Setting) (τ : Taken σ) where
  next : {out : List Corner} {t : State} → Moment σ out t → Falling t.after → Falling (left_after (step σ t))
  next {out} {t} m f = go (progress σ τ m).stage
    where
      go : Stage σ out t → Falling (left_after (step σ t))
      go (way g hb few) = step_falls σ t.x t.y t.before t.after g.behind.right f
      go (over e few) = subst (λ (es : List Edge). Falling (left_after (step_at es σ t.x t.y t.before))) (sym e) none

  falling : {out : List Corner} {t : State} → Moment σ out t → Falling t.after
  falling start = last
  falling (puts m e) = subst (λ (s : Step). Falling (left_after s)) e (next m (falling m))
  falling (cuts m e) = subst (λ (s : Step). Falling (left_after s)) e (next m (falling m))

  pub at_most_8 : {out : List Corner} {t : State} → Moment σ out t → length t.after ≤ 8
  at_most_8 {out} {t} m = go (progress σ τ m).stage
    where
      go : Stage σ out t → length t.after ≤ 8
      go (way g hb few) = let d = deep g.ahead (falling m) in omega (arith, d.long, few_along d.before_last (omega (arith, d.room, (box_wide τ).1)))
      go (over e few) = rw e (omega arith)
