-- The edges at a cut by s: what is left of the edge L before the corner and of the edge R after it, and the new edge between them, each as the invariant
-- wants it. The new edge's offset L.c + R.c - s is that of its start and of its end since at a cut the determinant of L and R is 1.
use Prim.Native.Nat.{ℕ, suc, ◌+◌, ◌*◌, ◌-◌, ◌≤◌, ◌<◌}
use mathlib.Core.Path.{◌≡◌, ap, ◌∙◌, subst}
use mathlib.Core.List.{List, ◌∷◌}
use native.Mathlib.Nat.{mul-add, add-mul, mul_comm, mul-one, mul-zero, zero-mul}
use native.Mathlib.Omega.{arith}
use Rattle.quarter.specs.declared.Edge.{Edge}
use Rattle.quarter.specs.Cutting.{size, cut_edge, short_l, short_r}
use Rattle.quarter.proofs.Invariant.{Inner, After, upright, inner, Before}
use Rattle.quarter.proofs.Slope.{slope_trans, slide_on, slide_back, cross_on, cross_back}

-- a length in two parts
split : (l s m n : ℕ) → l ≡ s + m → l * n ≡ s * n + m * n
split l s m n e = ap (λ (k : ℕ). k * n) e ∙ add-mul s m n

-- s of R's directions are cut off its start
pub right_shortened : {D pu pv x y : ℕ} {R : Edge} {rest : List Edge} (s qu qv : ℕ) → s ≤ R.l1 → (s ≡ size R → ⊥) →
    qv * R.u < qu * R.v → After D pu pv x y (R ∷ rest) → After D qu qv (x + s * R.u) (y - s * R.v) (short_r R s ∷ rest)
right_shortened {x = x} {y = y} {R = R} s qu qv h n t (upright r) = upright {x = x + s * R.u} {y = y - s * R.v} {e = short_r R s} (record {
  level = r.level;
  up = r.up;
  half = r.half;
  tall = r.tall;
  start = rw (r.up, mul-one s) (omega (arith, r.start));
  place = rw (r.level, mul-zero s) (omega (arith, r.place));
  line = rw (r.level, mul-zero s) (omega (arith, r.line));
})
right_shortened {D} {x = x} {y = y} {R = R} {rest = rest} s qu qv h n t (inner y' r k) =
    let m : ℕ = size (short_r R s) in
    let e : size R ≡ s + m = omega arith in
    let ev : size R * R.v ≡ s * R.v + m * R.v = split (size R) s m R.v e in
    let eu : size R * R.u ≡ s * R.u + m * R.u = split (size R) s m R.u e in
    let i : Inner qu qv (x + s * R.u) (y - s * R.v) y' (short_r R s) = record {
      right = r.right;
      up = r.up;
      turn = t;
      long = omega (arith, n);
      down = omega (arith, r.down);
      line = slide_on R.u R.v s x y R.c (omega (arith, r.down)) r.line;
    } in
    inner y' i (subst (λ (z : ℕ). After D R.u R.v z y' rest) (omega arith) k)

-- the edge L with s directions off its end
pub left_shortened : {pu pv a b x y : ℕ} (L : Edge) (s : ℕ) → s ≤ L.l2 → (s ≡ size L → ⊥) → Before pu pv a b x y L →
    Before pu pv a b (x - s * L.u) (y + s * L.v) (short_l L s)
left_shortened L s h n r =
    let m : ℕ = L.l2 - s in
    let e : L.l2 ≡ s + m = omega arith in
    let eu : L.l2 * L.u ≡ s * L.u + m * L.u = split L.l2 s m L.u e in
    let ev : L.l2 * L.v ≡ s * L.v + m * L.v = split L.l2 s m L.v e in
    record {
      right = r.right;
      up = r.up;
      turn = r.turn;
      level = r.level;
      long = omega (arith, n);
      across = omega (arith, r.across);
      down = omega (arith, r.down);
    }

-- the new edge in L's place
pub left_replaced : {pu pv a b x y : ℕ} (L R : Edge) (s : ℕ) → 1 ≤ pu → s ≤ L.l2 → s ≡ size L → s * R.v ≤ y → 1 ≤ R.v →
    L.v * R.u < L.u * R.v → Before pu pv a b x y L → Before pu pv a b (x + s * R.u) (y - s * R.v) (cut_edge L R s L.l1 L.l2)
left_replaced {pu} {pv} L R s p h e q up t r =
    let e2 : s ≡ L.l2 = omega arith in
    let e1 : L.l1 ≡ 0 = omega arith in
    let t1 : pv * L.u ≤ pu * L.v = omega (arith, r.turn) in
    let t2 : pv * R.u < pu * R.v = slope_trans pu pv L.u L.v R.u R.v p t1 t in
    let eu : s * R.u ≡ L.l2 * R.u = ap (λ (k : ℕ). k * R.u) e2 in
    let ev : s * R.v ≡ L.l2 * R.v = ap (λ (k : ℕ). k * R.v) e2 in
    record {
      right = omega (arith, r.right);
      up = omega arith;
      level = rw e1 (zero-mul (L.v + R.v));
      long = r.long;
      turn = omega (arith, mul-add pv L.u R.u, mul-add pu L.v R.v);
      across = omega (arith, r.across, mul-add L.l2 L.u R.u);
      down = omega (arith, r.down, mul-add L.l2 L.v R.v);
    }

-- s is all of R, so R is no upright edge, and what follows it starts where the cut ends
pub right_gone : {D pu pv x y : ℕ} {R : Edge} {rest : List Edge} (s : ℕ) → s ≤ R.l1 → s ≡ size R → After D pu pv x y (R ∷ rest) →
    (1 ≤ R.u) × (After D R.u R.v (x + s * R.u) (y - s * R.v) rest)
right_gone s h e (upright {e = R} r) = absurd (omega (arith, r.half))
right_gone {D} {x = x} {y = y} {R = R} {rest = rest} s h e (inner y' r k) =
    let eu : s * R.u ≡ size R * R.u = ap (λ (n : ℕ). n * R.u) e in
    let ev : s * R.v ≡ size R * R.v = ap (λ (n : ℕ). n * R.v) e in
    let ey : y' ≡ y - s * R.v = omega (arith, r.down) in
    let ex : x + size R * R.u ≡ x + s * R.u = omega arith in
    (r.right, subst (λ (z : ℕ). After D R.u R.v z (y - s * R.v) rest) ex (subst (λ (z : ℕ). After D R.u R.v (x + size R * R.u) z rest) ey k))

-- the offset of the new edge, at its start and at its end
cut_back : (Lu Lv Ru Rv s x y cl cr : ℕ) → Lu * Rv ≡ suc (Lv * Ru) → s * Lu ≤ x → cl ≡ Lv * x + Lu * y → cr ≡ Rv * x + Ru * y →
    cl + cr - s ≡ (Lv + Rv) * (x - s * Lu) + (Lu + Ru) * (y + s * Lv)
cut_back Lu Lv Ru Rv s x y cl cr d h e f =
    omega (
      arith,
      slide_back Lu Lv s x y cl h e,
      cross_back Lu Lv Ru Rv s x y cr d h f,
      add-mul Lv Rv (x - s * Lu),
      add-mul Lu Ru (y + s * Lv),
    )

pub new_on_line : (Lu Lv Ru Rv s x y cl cr : ℕ) → Lu * Rv ≡ suc (Lv * Ru) → s * Rv ≤ y → cl ≡ Lv * x + Lu * y → cr ≡ Rv * x + Ru * y →
    cl + cr - s ≡ (Lv + Rv) * (x + s * Ru) + (Lu + Ru) * (y - s * Rv)
new_on_line Lu Lv Ru Rv s x y cl cr d h e f =
    omega (
      arith,
      slide_on Ru Rv s x y cr h f,
      cross_on Lu Lv Ru Rv s x y cl d h e,
      add-mul Lv Rv (x + s * Ru),
      add-mul Lu Ru (y - s * Rv),
    )

-- the new edge N = cut_edge L R s l1 l2 between what is left of L and what follows at its end
pub new_between : {D x y : ℕ} (L R : Edge) {rest : List Edge} (s l1 l2 : ℕ) → L.c ≡ L.v * x + L.u * y → R.c ≡ R.v * x + R.u * y →
    L.u * R.v ≡ suc (L.v * R.u) → l1 + l2 ≡ s → 1 ≤ s → s * L.u ≤ x → s * R.v ≤ y → 1 ≤ L.u → 1 ≤ R.v →
    L.v * R.u < L.u * R.v →
    After D (L.u + R.u) (L.v + R.v) (x + s * R.u) (y - s * R.v) rest →
    After D L.u L.v (x - s * L.u) (y + s * L.v) (cut_edge L R s l1 l2 ∷ rest)
new_between {D} {x} {y} L R {rest} s l1 l2 cl cr one e h fx fy hu hv t k =
    let m : ℕ = l1 + l2 in
    let eu : m * (L.u + R.u) ≡ s * L.u + s * R.u = ap (λ (n : ℕ). n * (L.u + R.u)) e ∙ mul-add s L.u R.u in
    let ev : m * (L.v + R.v) ≡ s * L.v + s * R.v = ap (λ (n : ℕ). n * (L.v + R.v)) e ∙ mul-add s L.v R.v in
    let ex : x + s * R.u ≡ x - s * L.u + m * (L.u + R.u) = omega arith in
    let c : L.v * L.u ≡ L.u * L.v = mul_comm L.v L.u in
    let i : Inner L.u L.v (x - s * L.u) (y + s * L.v) (y - s * R.v) (cut_edge L R s l1 l2) = record {
      right = omega arith;
      up = omega arith;
      long = omega arith;
      turn = omega (arith, mul-add L.v L.u R.u, mul-add L.u L.v R.v);
      down = omega arith;
      line = cut_back L.u L.v R.u R.v s x y L.c R.c one fx cl cr;
    } in
    inner (y - s * R.v) i (subst (λ (z : ℕ). After D (L.u + R.u) (L.v + R.v) z (y - s * R.v) rest) ex k)

-- the new edge is flatter than R
pub new_flatter : (L R : Edge) → L.v * R.u < L.u * R.v → (L.v + R.v) * R.u < (L.u + R.u) * R.v
new_flatter L R t =
    let c : R.v * R.u ≡ R.u * R.v = mul_comm R.v R.u in
    omega (arith, add-mul L.v R.v R.u, add-mul L.u R.u R.v)
