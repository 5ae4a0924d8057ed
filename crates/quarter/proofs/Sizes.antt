-- All numbers of a state on the way are small, since directions, lengths and coordinates lie in the box; and no difference in a round falls below 0.
use Prim.Native.Nat.{ℕ, zero, suc, ◌+◌, ◌*◌, ◌≤◌}
use mathlib.Core.Path.{◌≡◌, subst}
use mathlib.Core.List.{List, ◌∷◌}
use native.Mathlib.Nat.{mul-le-mul, mul_comm}
use native.Mathlib.Omega.{arith}
use Rattle.limits.specs.Sizes.{quarter_max}
use Rattle.setting.specs.declared.Setting.{Setting}
use Rattle.quarter.specs.declared.Edge.{Edge}
use Rattle.setting.specs.Setting.{Taken, Dx}
use Rattle.quarter.specs.Cutting.{Corner, State, size, amount}
use Rattle.quarter.specs.Moment.{Moment, cuts, corners_at, Small, Ready}
use Rattle.setting.proofs.Limits.{box_wide}
use Rattle.quarter.proofs.Chain.{Link}
use Rattle.quarter.proofs.Invariant.{After, upright, inner, Going, after_reach, after_few, after_room, before_span}
use Rattle.quarter.proofs.Rounds.{amount_bounded}
use Rattle.quarter.proofs.Progress.{Stage, way, over, progress, out_few}
use Rattle.quarter.proofs.Slope.{times_one}

offset_small : (u v c x y : ℕ) → u ≤ 32 → v ≤ 32 → x ≤ 32 → y ≤ 32 → c ≡ v * x + u * y → c ≤ 4096
offset_small u v c x y hu hv hx hy e =
    let a : v * x ≤ 32 * 32 = mul-le-mul hv hx in
    let b : u * y ≤ 32 * 32 = mul-le-mul hu hy in
    omega arith

-- l directions that go to the right are at least l long
spread : (l u n : ℕ) → 1 ≤ u → l * u ≤ n → l ≤ n
spread l u n h k = omega (arith, times_one u l h, mul_comm u l)

-- an edge that has its middle on it is the bottom edge, and any other is in the box
direction_small : (k : ℕ) {pu pv a b l u v x y : ℕ} → Link k pu pv a b l u v x y → (1 ≤ k → u ≡ 1) → x ≤ 32 → b ≤ 32 → (u ≤ 32) × (v ≤ 32)
direction_small zero {l = l} {u} {v} r _ hx hb =
    let h : 1 ≤ l = omega (arith, r.long) in
    let ru = times_one l u h in
    let rv = times_one l v h in
    (omega (arith, r.across), omega (arith, r.down))
direction_small (suc k) {u = u} {v = v} r h hx hb =
    let e : u ≡ 1 = h (omega arith) in
    let rv : v ≤ suc k * v = times_one (suc k) v (omega arith) in
    (omega arith, omega (arith, r.level))

module _ {D k pu pv a b : ℕ} {t : State} (hd : D ≤ 32) (hb : b ≤ 32) (g : Going D k pu pv a b t) where
  x_small : t.x ≤ 32
  x_small = omega (arith, after_reach g.ahead)

  pub y_small : t.y ≤ 32
  y_small = omega (arith, g.behind.down)

  pub before_small : Small t.before
  before_small =
      let L = t.before in
      let hx = x_small in
      let d = direction_small L.l1 g.behind (λ h. g.bottom (omega (arith, g.kept))) hx hb in
      let l = spread L.l2 L.u t.x g.behind.right (omega (arith, g.behind.across)) in
      record {
        u_small = d.0;
        v_small = d.1;
        c_small = offset_small L.u L.v L.c t.x t.y d.0 d.1 hx y_small g.lies;
        l1_small = omega (arith, g.kept, g.base);
        l2_small = omega arith;
      }

pub after_small : {D pu pv x y : ℕ} {R : Edge} {rest : List Edge} → D ≤ 32 → y ≤ 32 → After D pu pv x y (R ∷ rest) → Small R
after_small hd hy (upright r) = record {
  u_small = omega (arith, r.level);
  v_small = omega (arith, r.up);
  c_small = omega (arith, r.line, r.place);
  l1_small = omega (arith, r.start);
  l2_small = omega (arith, r.tall);
}
after_small {x = x} {y} hd hy (inner y' {e = R} r k) =
    let reach = after_reach k in
    let hu : R.u ≤ 32 = omega (arith, times_one (size R) R.u r.long) in
    let hv : R.v ≤ 32 = omega (arith, times_one (size R) R.v r.long, r.down) in
    let l : size R ≤ 32 = spread (size R) R.u 32 r.right (omega arith) in
    record {
      u_small = hu;
      v_small = hv;
      c_small = offset_small R.u R.v R.c x y hu hv (omega arith) hy r.line;
      l1_small = omega arith;
      l2_small = omega arith;
    }

module _ (σ : Setting) (τ : Taken σ) where
  pub corners_at_most : {out : List Corner} {t : State} → Moment σ out t → corners_at out t ≤ quarter_max
  corners_at_most {out} {t} m = go (progress σ τ m).stage
    where
      go : Stage σ out t → corners_at out t ≤ quarter_max
      go (way g hb few) = omega (arith, out_few out g few, after_few g.ahead, (box_wide τ).1)
      go (over e few) = rw e (omega (arith, (box_wide τ).1))

  ready-way :
      {k pu pv a b : ℕ} {out : List Corner} {t : State} {R : Edge} {rest : List Edge} → Moment σ out t → Going (Dx σ) k pu pv a b t → b ≤ 32 →
      After (Dx σ) t.before.u t.before.v t.x t.y (R ∷ rest) → Ready σ t R
  ready-way {out = out} {t} {R} {rest} m g hb q =
      let L = t.before in
      let s = amount_bounded σ L R in
      let hd = (box_wide τ).1 in
      record {
        x_small = x_small hd hb g;
        y_small = y_small hd hb g;
        before = before_small hd hb g;
        after = after_small hd (y_small hd hb g) q;
        rightward = g.behind.right;
        cuttable = record {
          left = s.left;
          right = s.right;
          across = before_span L (amount σ L R) s.left g.behind;
          down = after_room (amount σ L R) s.right q;
          offset = s.offset;
        };
        room = λ r e. omega (arith, corners_at_most (cuts m e));
      }

  pub moment_ready : {out : List Corner} {t : State} {R : Edge} {rest : List Edge} → Moment σ out t → t.after ≡ R ∷ rest → Ready σ t R
  moment_ready {out} {t} {R} {rest} m e = go (progress σ τ m).stage
    where
      go : Stage σ out t → Ready σ t R
      go (way g hb few) = ready-way m g hb (subst (After (Dx σ) t.before.u t.before.v t.x t.y) e g.ahead)
      go (over f few) = let z : ◌≡◌ {A = ℕ} 0 1 = cc in absurd (omega arith)
