-- A chain is convex: every corner is on the inner side of the edge between any two neighbours.
use Prim.Native.Nat.{ℕ, ◌+◌, ◌*◌, ◌-◌, ◌≤◌, ◌<◌}
use mathlib.Core.Path.{◌≡◌, ap, ◌∙◌}
use mathlib.Core.List.Memᴰ
use mathlib.Core.List.{List, ◌∷◌}
use native.Mathlib.Nat.{mul-add, mul_comm, mul_assoc, mul_left_comm, mul-le-mul_left, le_of_lt, one-le-mul}
use native.Mathlib.Omega.{arith}
use Rattle.integers.specs.Count.{◌∈◌}
use Rattle.quarter.specs.Cutting.{Corner}
use Rattle.quarter.proofs.Chain.{Link, Chain, stop, link}
use Rattle.quarter.proofs.Ranges.{link_onward}
use Rattle.quarter.proofs.Slope.{slope_trans, slope_trans_le}

-- P and Q stand one after the other
pub data Adjacent (P Q : Corner) : List Corner → Type 0 where
  here : {cs : List Corner} → Adjacent P Q (P ∷ Q ∷ cs)
  there : {c : Corner} {cs : List Corner} → Adjacent P Q cs → Adjacent P Q (c ∷ cs)

-- C is on the inner side of the edge from P to Q
abbrev pub Inside : Corner → Corner → Corner → Type 0
Inside P Q C = (P.y - Q.y) * C.x + (Q.x - P.x) * C.y ≤ (P.y - Q.y) * P.x + (Q.x - P.x) * P.y

-- (X, Y) is inside every line through (a, b) that is no flatter than (pu, pv)
abbrev Under : ℕ → ℕ → ℕ → ℕ → ℕ → ℕ → Type 0
Under pu pv a b X Y = (u v : ℕ) → pv * u ≤ pu * v → v * X + u * Y ≤ v * a + u * b

-- l directions (u₁, v₁) go no further up than right, measured by a direction (u, v) that is no flatter
on_step : (u v l u₁ v₁ : ℕ) → v₁ * u ≤ u₁ * v → u * (l * v₁) ≤ v * (l * u₁)
on_step u v l u₁ v₁ h =
    let e1 : u * (l * v₁) ≡ l * (v₁ * u) = simp (mul_comm, mul_left_comm) in
    let e2 : v * (l * u₁) ≡ l * (u₁ * v) = simp (mul_comm, mul_left_comm) in
    omega (arith, mul-le-mul_left l h)

-- what is inside at the start of a link is so at its end
under_step : {pu pv a b l u v x y : ℕ} (X Y : ℕ) → Link 0 pu pv a b l u v x y → Under pu pv a b X Y → Under u v x y X Y
under_step {pu} {pv} {a} {b} {l} {u = u₁} {v = v₁} {x} {y} X Y r h u v k =
    let t : pv * u ≤ pu * v = slope_trans_le pu pv u₁ v₁ u v r.right (omega (arith, r.turn)) k in
    let i : v * X + u * Y ≤ v * a + u * b = h u v t in
    let j : u * (l * v₁) ≤ v * (l * u₁) = on_step u v l u₁ v₁ k in
    let ex : v * x ≡ v * a + v * (l * u₁) = ap (λ (z : ℕ). v * z) r.across ∙ mul-add v a (l * u₁) in
    let ey : u * b ≡ u * y + u * (l * v₁) = ap (λ (z : ℕ). u * z) r.down ∙ mul-add u y (l * v₁) in
    omega arith

under_self : (pu pv a b : ℕ) → Under pu pv a b a b
under_self pu pv a b u v h = omega arith

-- the end of an edge that is no flatter than (pu, pv), and so steeper than a flatter (u, v), is inside the line of (u, v)
further : {pu pv a b l u₁ v₁ x y : ℕ} (u v : ℕ) → 1 ≤ u → v * pu ≤ u * pv → Link 0 pu pv a b l u₁ v₁ x y → (v * u₁ < u * v₁) × (v * x + u * y ≤ v * a + u * b)
further {pu} {pv} {a} {b} {l} {u₁} {v₁} {x} {y} u v h k r =
    let t : v * u₁ < u * v₁ = slope_trans u v pu pv u₁ v₁ h k (omega (arith, r.turn)) in
    let j : v * (l * u₁) ≤ u * (l * v₁) = on_step v u l v₁ u₁ (omega (arith, mul_comm u₁ v, mul_comm v₁ u)) in
    let ex : v * x ≡ v * a + v * (l * u₁) = ap (λ (z : ℕ). v * z) r.across ∙ mul-add v a (l * u₁) in
    let ey : u * b ≡ u * y + u * (l * v₁) = ap (λ (z : ℕ). u * z) r.down ∙ mul-add u y (l * v₁) in
    (t, omega arith)

-- the corners further on are inside an edge that is flatter
ahead : {D pu pv a b : ℕ} {cs : List Corner} (u v : ℕ) → 1 ≤ u → v * pu ≤ u * pv → Chain D 0 pu pv a b cs → (C : Corner) → C ∈ cs →
    v * C.x + u * C.y ≤ v * a + u * b
ahead {D = D} u v h k (stop {pu = pu} {pv = pv} {a = a} {b = b} _) C m = elim m [ ]
ahead u v h k (link l u₁ v₁ r s) C (Memᴰ.head e) = rw e (further u v h k r).1
ahead u v h k (link l u₁ v₁ r s) C (Memᴰ.tail m) = let f = further u v h k r in omega (arith, ahead u v h (le_of_lt f.0) s C m, f.1)

-- the vector of a link, from (a, b) to (x, y)
vector : {pu pv a b l u v x y : ℕ} → Link 0 pu pv a b l u v x y → (x - a ≡ l * u) × (b - y ≡ l * v)
vector r = (omega (arith, r.across), omega (arith, r.down))

-- an earlier corner is inside the edge to Q
edge_behind : {D pu pv a b : ℕ} {Q : Corner} {cs : List Corner} (X Y : ℕ) → Under pu pv a b X Y → Chain D 0 pu pv a b (Q ∷ cs) →
    (b - Q.y) * X + (Q.x - a) * Y ≤ (b - Q.y) * a + (Q.x - a) * b
edge_behind {pu = pu} {pv} {a} {b} X Y h (link l u v r s) =
    rw ((vector r).0, (vector r).1)
    (h (l * u) (l * v) (on_step pv pu l v u (omega (arith, r.turn, mul_comm u pv, mul_comm v pu))))

-- both ends of a link are on its line
on_line : {pu pv a b l u v x y : ℕ} → Link 0 pu pv a b l u v x y → l * v * x + l * u * y ≡ l * v * a + l * u * b
on_line {a = a} {b} {l} {u} {v} {x} {y} r =
    let ex : l * v * x ≡ l * v * a + l * v * (l * u) = ap (λ (z : ℕ). l * v * z) r.across ∙ mul-add (l * v) a (l * u) in
    let ey : l * u * b ≡ l * u * y + l * u * (l * v) = ap (λ (z : ℕ). l * u * z) r.down ∙ mul-add (l * u) y (l * v) in
    omega (arith, mul_comm (l * v) (l * u))

-- Q and the later corners are inside the edge to Q
edge_ahead : {D pu pv a b : ℕ} {Q : Corner} {cs : List Corner} → Chain D 0 pu pv a b (Q ∷ cs) → (C : Corner) → C ∈ Q ∷ cs →
    (b - Q.y) * C.x + (Q.x - a) * C.y ≤ (b - Q.y) * a + (Q.x - a) * b
edge_ahead (link l u v r s) C (Memᴰ.head e) = rw ((vector r).0, (vector r).1, e) (omega (arith, on_line r))
edge_ahead (link l u v r s) C (Memᴰ.tail m) =
    let e1 : l * v * u ≡ l * u * v = simp (mul_assoc, mul_comm) in
    let i = ahead (l * u) (l * v) (one-le-mul {a = l} {b = u} (omega (arith, r.long)) r.right) (omega arith) s C m in
    rw ((vector r).0, (vector r).1) (omega (arith, on_line r))

-- an earlier corner is inside every later edge
inside_behind : {D pu pv a b : ℕ} {P Q : Corner} {cs : List Corner} (X Y : ℕ) → Under pu pv a b X Y → Chain D 0 pu pv a b cs → Adjacent P Q cs →
    (P.y - Q.y) * X + (Q.x - P.x) * Y ≤ (P.y - Q.y) * P.x + (Q.x - P.x) * P.y
inside_behind {D = D} {P = P} {Q = Q} X Y h (stop {pu = pu} {pv = pv} {a = a} {b = b} _) n = elim n [ ]
inside_behind X Y h (link l u v r s) here = edge_behind X Y (under_step X Y r h) s
inside_behind X Y h (link l u v r s) (there n) = inside_behind X Y (under_step X Y r h) s n

-- every corner is inside every edge
pub inside_all : {D k pu pv a b : ℕ} {P Q : Corner} {cs : List Corner} → Chain D k pu pv a b cs → Adjacent P Q cs → (C : Corner) → C ∈ cs → Inside P Q C
inside_all {D = D} {P = P} {Q = Q} (stop {pu = pu} {pv = pv} {a = a} {b = b} _) n C _ = elim n [ ]
inside_all (link l u v r s) here C (Memᴰ.head e) = rw e (omega arith)
inside_all (link l u v r s) here C (Memᴰ.tail m) = edge_ahead s C m
inside_all (link l u v {c = c} r s) (there n) C (Memᴰ.head e) = rw e (inside_behind c.x c.y (under_self u v c.x c.y) s n)
inside_all (link l u v r s) (there n) C (Memᴰ.tail m) = inside_all s n C m

-- the next corner is to the right and higher
pub adjacent_on : {D k pu pv a b : ℕ} {P Q : Corner} {cs : List Corner} → Chain D k pu pv a b cs → Adjacent P Q cs → (P.x < Q.x) × (Q.y < P.y)
adjacent_on {D = D} {P = P} {Q = Q} (stop {pu = pu} {pv = pv} {a = a} {b = b} _) n = elim n [ ]
adjacent_on (link l u v r (link l₁ u₁ v₁ r₁ s)) here = link_onward r₁
adjacent_on (link l u v r s) (there n) = adjacent_on s n
