-- What holds at every corner that is not yet put out: the edge before it and the edges after it turn upwards one after the other, and lead to the box's
-- right side; and what follows of the first edge after the corner.
use Prim.Native.Nat.{ℕ, suc, ◌+◌, ◌*◌, ◌≤◌, ◌<◌}
use mathlib.Core.Path.{◌≡◌}
use mathlib.Core.List.{List, [], ◌∷◌}
use lib.ListN.{length}
use native.Mathlib.Nat.{mul-le-mul_right, mul-one, mul-zero, zero-mul}
use native.Mathlib.Omega.{arith}
use Rattle.quarter.specs.declared.Edge.{Edge}
use Rattle.quarter.specs.Cutting.{State, size}
use Rattle.quarter.proofs.Chain.{Link}
use Rattle.quarter.proofs.Slope.{slope_trans, times_one}

-- the edge e, after an edge with direction (pu, pv), leads from (x, y) to the height y'
pub record Inner (pu pv x y y' : ℕ) (e : Edge) : Type 0 where
  pub right : 1 ≤ e.u
  pub up : 1 ≤ e.v
  pub long : 1 ≤ size e
  pub turn : pv * e.u < pu * e.v
  pub down : y ≡ y' + size e * e.v
  pub line : e.c ≡ e.v * x + e.u * y

-- the right hand edge, upright, its middle still on it
pub record Upright (D x y : ℕ) (e : Edge) : Type 0 where
  pub level : e.u ≡ 0
  pub up : e.v ≡ 1
  pub start : e.l1 ≡ y
  pub half : 1 ≤ e.l2
  pub tall : e.l2 ≤ 32
  pub place : x ≡ D
  pub line : e.c ≡ x

-- the edges after the corner (x, y), to which an edge with direction (pu, pv) leads
pub data After (D : ℕ) : ℕ → ℕ → ℕ → ℕ → List Edge → Type 0 where
  upright : {pu pv x y : ℕ} {e : Edge} → Upright D x y e → After D pu pv x y (e ∷ [])
  inner :
      {pu pv x y : ℕ} (y' : ℕ) {e : Edge} {es : List Edge} → Inner pu pv x y y' e → After D e.u e.v (x + size e * e.u) y' es →
      After D pu pv x y (e ∷ es)

-- the edge before the corner
abbrev pub Before : ℕ → ℕ → ℕ → ℕ → ℕ → ℕ → Edge → Type 0
Before pu pv a b x y L = Link L.l1 pu pv a b L.l2 L.u L.v x y

-- a state on the way: (a, b) is the corner put out last, or the middle of the bottom edge, of which k directions lie before that middle
pub record Going (D k pu pv a b : ℕ) (t : State) : Type 0 where
  pub kept : t.before.l1 ≡ k
  pub base : k ≤ D
  pub bottom : 1 ≤ k → t.before.u ≡ 1
  pub turning : 1 ≤ pu
  pub behind : Before pu pv a b t.x t.y t.before
  pub lies : t.before.c ≡ t.before.v * t.x + t.before.u * t.y
  pub ahead : After D t.before.u t.before.v t.x t.y t.after

-- a flatter edge may stand before
pub after_flatter : {D pu pv x y : ℕ} {es : List Edge} (qu qv : ℕ) → 1 ≤ qu → qv * pu ≤ qu * pv → After D pu pv x y es → After D qu qv x y es
after_flatter qu qv h k (upright r) = upright r
after_flatter {pu = pu} {pv = pv} qu qv h k (inner y' {e = e} r s) = inner y' (record {
  right = r.right;
  up = r.up;
  long = r.long;
  down = r.down;
  line = r.line;
  turn = slope_trans qu qv pu pv e.u e.v h k r.turn;
}) s

-- ---- of the edge before the corner
-- from its retained point on it stays in the box
pub before_span : {pu pv a b x y : ℕ} (L : Edge) (s : ℕ) → s ≤ L.l2 → Before pu pv a b x y L → s * L.u ≤ x
before_span L s h r = omega (arith, mul-le-mul_right L.u h, r.across)

-- ---- of the first edge after the corner
pub after_turns : {D pu pv x y : ℕ} {R : Edge} {rest : List Edge} → 1 ≤ pu → After D pu pv x y (R ∷ rest) → pv * R.u < pu * R.v
after_turns {pu = pu} {pv = pv} h (upright r) = rw (r.level, r.up) (omega (arith, mul-zero pv, mul-one pu))
after_turns h (inner y' r s) = r.turn

pub after_rises : {D pu pv x y : ℕ} {R : Edge} {rest : List Edge} → After D pu pv x y (R ∷ rest) → 1 ≤ R.v
after_rises (upright r) = omega (arith, r.up)
after_rises (inner y' r s) = r.up

pub after_line : {D pu pv x y : ℕ} {R : Edge} {rest : List Edge} → After D pu pv x y (R ∷ rest) → R.c ≡ R.v * x + R.u * y
after_line {x = x} {y = y} (upright {e = R} r) = rw (r.level, r.up) (omega (arith, r.line, zero-mul y))
after_line (inner y' r s) = r.line

-- up to its retained point it stays in the box
pub after_room : {D pu pv x y : ℕ} {R : Edge} {rest : List Edge} (s : ℕ) → s ≤ R.l1 → After D pu pv x y (R ∷ rest) → s * R.v ≤ y
after_room s h (upright r) = rw (r.up, mul-one s) (omega (arith, r.start))
after_room s h (inner y' {e = R} r t) =
    let m : s * R.v ≤ size R * R.v = mul-le-mul_right R.v (omega arith) in
    omega (arith, r.down)

-- ---- of all edges after the corner
pub after_reach : {D pu pv x y : ℕ} {es : List Edge} → After D pu pv x y es → x ≤ D
after_reach (upright r) = omega (arith, r.place)
after_reach (inner y' r k) = omega (arith, after_reach k)

-- each but the last goes at least one to the right
pub after_few : {D pu pv x y : ℕ} {es : List Edge} → After D pu pv x y es → x + length es ≤ suc D
after_few (upright r) = omega (arith, r.place)
after_few (inner y' {e = e} r k) = omega (arith, after_few k, times_one (size e) e.u r.long, r.right)
