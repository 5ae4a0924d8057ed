-- A try leaves at most half the interval, whatever it finds, and at a corner of a pen the interval is at most 64 long: so seven tries are enough.
use Prim.Native.Nat.{ℕ, zero, suc, ◌+◌, ◌*◌, ◌-◌, ◌^◌, ◌≤◌, ◌<◌}
use mathlib.Core.Path.{◌≡◌, refl, sym, ◌∙◌}
use mathlib.Core.List.{List, [], ◌∷◌}
use native.Mathlib.Omega.{arith}
use native.Mathlib.Decide.{dec_lt}
use lib.ListN.{length}
use Rattle.setting.specs.declared.Setting.{Setting}
use Rattle.setting.specs.Setting.{Taken}
use Rattle.quarter.specs.declared.Edge.{Edge}
use Rattle.quarter.specs.declared.Interval.{Interval}
use Rattle.quarter.specs.NearRoot.{norm, lower, near_root}
use Rattle.quarter.specs.Cutting.{Corner, State, amount}
use Rattle.quarter.specs.Moment.{Moment, Summed}
use Rattle.quarter.specs.Tries.{middle, halved, Search, one, more, sought, SearchAt}
use Rattle.quarter.proofs.Halving.{brought, halved_shrinks, one_fewer, halved_keeps, reduced}
use Rattle.quarter.proofs.Most.{summed}
use Rattle.quarter.proofs.Sizes.{moment_ready}

-- ---- the search for any f
-- an interval shorter than 2 ^ b takes at most b tries
few : {f : ℕ → ℕ} {t : ℕ} {i : Interval} {tried : List ℕ} {found : ℕ} (b : ℕ) → i.high - i.low < 2 ^ b → Search f t i tried found → length tried ≤ b
few b h (one e) = omega arith
few {f} {t} {i} b h (more l s) =
    let k = halved_shrinks f t i {r = halved f t i} l refl in
    let n = one_fewer b _ _ (omega arith) k.half h in
    let m = few (b - 1) n.1 s in
    omega (arith, n.0)

-- n tries are enough for an interval that is n long: each leaves less
ends : (f : ℕ → ℕ) (t n : ℕ) (i : Interval) → i.low ≤ i.high → i.high - i.low ≤ n → (tried : List ℕ) × (found : ℕ) × Search f t i tried found
ends f t zero i o h = ([], i.low, one {i = i} (omega arith))
ends f t (suc n) i o h = elim (dec_lt i.low i.high) [
  | yes l ↦
      let k = halved_shrinks f t i {r = halved f t i} l refl in
      let r = ends f t n (halved f t i) k.ordered (omega (arith, k.half)) in
      (middle i ∷ r.0, r.1, more l r.2)
  | no l ↦ ([], i.low, one {i = i} (omega arith))
]

-- ---- the search at a corner
module _ (σ : Setting) (τ : Taken σ) (u v : ℕ) (s : Summed u v) where
  -- what the search finds is the near root, brought into the interval
  finds : {i : Interval} {tried : List ℕ} {found : ℕ} → Search (lower σ) (σ.w * σ.w * norm σ u v) i tried found → found ≡ brought i.low i.high (near_root σ u v)
  finds (one e) = omega arith
  finds {i = i} (more l r) = finds r ∙ halved_keeps σ τ u v s i {r = halved (lower σ) (σ.w * σ.w * norm σ u v) i} l refl

-- what is sought between two edges is no longer than their offsets
pub ends_between : (σ : Setting) (L R : Edge) → (tried : List ℕ) × (found : ℕ) × SearchAt σ L R tried found
ends_between σ L R = ends _ _ (L.c + R.c) (sought L R) (omega arith) (omega arith)

-- L.l2 is at most 64 there, which is less than 2 ^ 7
pub at_most_sixteen : {σ : Setting} → Taken σ → {out : List Corner} {t : State} → Moment σ out t → {R : Edge} {rest : List Edge} → t.after ≡ R ∷ rest →
    {tried : List ℕ} {found : ℕ} → SearchAt σ t.before R tried found → length tried ≤ 16
at_most_sixteen {σ} τ m e s =
    let r = moment_ready σ τ m e in
    let k = few 7 (omega (arith, r.before.l2_small)) s in
    omega arith

-- what is found gives the amount by which the definition cuts the corner, as what the code finds does
pub cut_by_found : {σ : Setting} → Taken σ → {out : List Corner} {t : State} → Moment σ out t → {R : Edge} {rest : List Edge} → t.after ≡ R ∷ rest →
    t.before.u * R.v ≤ 1 + t.before.v * R.u → {tried : List ℕ} {found : ℕ} → SearchAt σ t.before R tried found → amount σ t.before R ≡ t.before.c + R.c - found
cut_by_found {σ} τ {t = t} m {R} e n s =
    let r = moment_ready σ τ m e in
    let L = t.before in
    sym (reduced σ L R n refl refl (finds σ τ (L.u + R.u) (L.v + R.v) (summed r.before r.after) s))
