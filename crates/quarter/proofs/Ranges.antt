-- Where the corners of a chain lie, and how many they are: each is further right and higher than the one before; and the quarter, which is a chain, in
-- its box.
use Prim.Native.Nat.{ℕ, suc, ◌+◌, ◌*◌, ◌≤◌, ◌<◌}
use mathlib.Core.Path.{◌≡◌, refl, ap, ◌∙◌, subst}
use mathlib.Core.List.Memᴰ
use mathlib.Core.List.{List, ◌∷◌}
use lib.ListN.{length}
use native.Mathlib.Nat.{mul-zero, one-le-mul}
use native.Mathlib.Omega.{arith}
use Rattle.integers.specs.Count.{◌∈◌}
use Rattle.limits.specs.Sizes.{quarter_max}
use Rattle.setting.specs.declared.Setting.{Setting}
use Rattle.setting.specs.Setting.{Taken, Dx, Dy}
use Rattle.quarter.specs.Cutting.{Corner, quarter}
use Rattle.setting.proofs.Limits.{box_wide, box_high}
use Rattle.quarter.proofs.Chain.{Link, Chain, stop, link}
use Rattle.quarter.proofs.Quarters.{quarter_chain}
use Rattle.quarter.proofs.Slope.{times_one}

reaches : {D k pu pv a b : ℕ} {cs : List Corner} → Chain D k pu pv a b cs → a ≤ D
reaches (stop e) = omega arith
reaches (link l u v r k) = omega (arith, r.across, reaches k)

pub x_range : {D k pu pv a b : ℕ} {cs : List Corner} → Chain D k pu pv a b cs → (C : Corner) → C ∈ cs → (a ≤ C.x) × (C.x ≤ D)
x_range {D = D} (stop {pu = pu} {pv = pv} {a = a} {b = b} _) C m = elim m [ ]
x_range (link l u v {c = c} r k) C (Memᴰ.head e) =
    let ex : C.x ≡ c.x = ap (λ (P : Corner). P.x) e in
    (omega (arith, r.across), omega (arith, reaches k))
x_range (link l u v r k) C (Memᴰ.tail m) =
    let i = x_range k C m in
    (omega (arith, r.across, i.0), i.1)

pub y_range : {D k pu pv a b : ℕ} {cs : List Corner} → Chain D k pu pv a b cs → (C : Corner) → C ∈ cs → C.y ≤ b
y_range {D = D} (stop {pu = pu} {pv = pv} {a = a} {b = b} _) C m = elim m [ ]
y_range (link l u v {c = c} r k) C (Memᴰ.head e) =
    let ey : C.y ≡ c.y = ap (λ (P : Corner). P.y) e in
    omega (arith, r.down)
y_range (link l u v r k) C (Memᴰ.tail m) = omega (arith, r.down, y_range k C m)

-- a link with no part before its start is at least one to the right and one up
pub link_onward : {pu pv a b l u v x y : ℕ} → Link 0 pu pv a b l u v x y → (a < x) × (y < b)
link_onward {l = l} {u} {v} r =
    let h : 1 ≤ l * u = one-le-mul {a = l} {b = u} (omega (arith, r.long)) r.right in
    let i : 1 ≤ l * v = one-le-mul {a = l} {b = v} (omega (arith, r.long)) (omega (arith, r.up)) in
    (omega (arith, r.across), omega (arith, r.down))

-- each corner is at least one further right, but for the first, which may stand at the bottom edge's middle
count : {D pu pv a b : ℕ} {cs : List Corner} → Chain D 0 pu pv a b cs → a + length cs ≤ D
count (stop e) = omega arith
count (link l u v r k) = omega (arith, (link_onward r).0, count k)

count_first : {D k pu pv a b : ℕ} {cs : List Corner} → Chain D k pu pv a b cs → a + length cs ≤ suc D
count_first (stop e) = omega arith
count_first (link l u v r k) = omega (arith, r.across, count k)

-- ---- the first corner is as low as the bottom edge
lowest_of : {D k pu pv a b : ℕ} {P : Corner} {ds : List Corner} → 1 ≤ k → Chain D k pu pv a b (P ∷ ds) → P.y ≡ b
lowest_of {k = k} {b = b} {P = P} h (link l u v r s) =
    let z : v ≤ k * v = times_one k v h in
    let e : l * v ≡ 0 = ap (λ (z : ℕ). l * z) (omega (arith, r.level)) ∙ mul-zero l in
    omega (arith, r.down)

-- a list of corners is one and the rest
pub record Cons (cs : List Corner) : Type 0 where
  pub first : Corner
  pub others : List Corner
  pub cons : cs ≡ first ∷ others

some_of : {D k pu pv a b : ℕ} {cs : List Corner} → 1 ≤ k → Chain D k pu pv a b cs → Cons cs
some_of h (stop e) = absurd (omega arith)
some_of h (link l u v {c = c} {cs = cs} r s) = record { first = c; others = cs; cons = refl }

-- ---- the quarter
module _ (σ : Setting) (τ : Taken σ) where
  pub quarter_few_corners : length (quarter σ) ≤ quarter_max
  quarter_few_corners = omega (arith, count_first (quarter_chain σ τ), (box_wide τ).1)

  pub quarter_in_box : (C : Corner) → C ∈ quarter σ → (C.x ≤ 32) × (C.y ≤ 32)
  quarter_in_box C m = (omega (arith, (x_range (quarter_chain σ τ) C m).1, (box_wide τ).1), omega (arith, y_range (quarter_chain σ τ) C m, (box_high τ).1))

  pub quarter_cons : Cons (quarter σ)
  quarter_cons = some_of (box_wide τ).0 (quarter_chain σ τ)

  pub quarter_split : Chain (Dx σ) (Dx σ) 1 0 0 (Dy σ) (quarter_cons.first ∷ quarter_cons.others)
  quarter_split = subst (Chain (Dx σ) (Dx σ) 1 0 0 (Dy σ)) quarter_cons.cons (quarter_chain σ τ)

  pub quarter_lowest : quarter_cons.first.y ≡ Dy σ
  quarter_lowest = lowest_of (box_wide τ).0 quarter_split
