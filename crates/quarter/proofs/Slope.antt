-- Arithmetic of directions and offsets: comparing slopes over two edges, and the offset v x + u y as a point moves along an edge or along its neighbour.
-- A direction (u, v) goes u to the right and v up; (a, b) is flatter than (c, d) where b * c < a * d.
use Prim.Native.Nat.{ℕ, suc, ◌+◌, ◌*◌, ◌-◌, ◌≤◌, ◌<◌}
use mathlib.Core.Path.{◌≡◌, ap, ◌∙◌}
use native.Mathlib.Nat.{mul-suc, mul-add, mul_comm, mul_assoc, mul_left_comm, mul-le-mul_left, mul-le-mul_right, mul-lt-mul_of_pos_left, lt_of_mul-lt-mul_left, le_of_mul-le-mul_left}
use native.Mathlib.Omega.{arith}

-- (a, b) is no steeper than (c, d), which is less steep than (e, f)
pub slope_trans : (a b c d e f : ℕ) → 1 ≤ a → b * c ≤ a * d → d * e < c * f → b * e < a * f
slope_trans a b c d e f pa h k =
    let h1 : b * c * e ≤ a * d * e = mul-le-mul_right e h in
    let h2 : a * (d * e) < a * (c * f) = mul-lt-mul_of_pos_left k pa in
    let e1 : c * (b * e) ≡ b * c * e = simp (mul_assoc, mul_left_comm) in
    let e2 : a * d * e ≡ a * (d * e) = mul_assoc a d e in
    let e3 : c * (a * f) ≡ a * (c * f) = mul_left_comm c a f in
    lt_of_mul-lt-mul_left c {m = b * e} {n = a * f} (omega arith)

pub slope_trans_le : (a b c d e f : ℕ) → 1 ≤ c → b * c ≤ a * d → d * e ≤ c * f → b * e ≤ a * f
slope_trans_le a b c d e f pc h k =
    let h1 : b * c * e ≤ a * d * e = mul-le-mul_right e h in
    let h2 : a * (d * e) ≤ a * (c * f) = mul-le-mul_left a k in
    let e1 : c * (b * e) ≡ b * c * e = simp (mul_assoc, mul_left_comm) in
    let e2 : a * d * e ≡ a * (d * e) = mul_assoc a d e in
    let e3 : c * (a * f) ≡ a * (c * f) = mul_left_comm c a f in
    le_of_mul-le-mul_left {m = b * e} {n = a * f} {k = c} (omega arith) pc

-- moving along an edge keeps the offset
pub slide_on : (u v s x y c : ℕ) → s * v ≤ y → c ≡ v * x + u * y → c ≡ v * (x + s * u) + u * (y - s * v)
slide_on u v s x y c h e =
    let e1 : u * y ≡ u * (y - s * v) + u * (s * v) = ap (λ (z : ℕ). u * z) (omega arith) ∙ mul-add u (y - s * v) (s * v) in
    let e2 : v * (s * u) ≡ u * (s * v) = simp (mul_comm, mul_left_comm) in
    omega (arith, mul-add v x (s * u))

pub slide_back : (u v s x y c : ℕ) → s * u ≤ x → c ≡ v * x + u * y → c ≡ v * (x - s * u) + u * (y + s * v)
slide_back u v s x y c h e = omega (arith, slide_on v u s y x c h (omega arith))

-- moving s directions along the neighbour (u, v) of (p, q), whose determinant with it is 1, takes s off the offset
pub cross_on : (p q u v s x y c : ℕ) → p * v ≡ suc (q * u) → s * v ≤ y → c ≡ q * x + p * y → c ≡ q * (x + s * u) + p * (y - s * v) + s
cross_on p q u v s x y c d h e =
    let e1 : p * y ≡ p * (y - s * v) + p * (s * v) = ap (λ (z : ℕ). p * z) (omega arith) ∙ mul-add p (y - s * v) (s * v) in
    let e2 : p * (s * v) ≡ s * (q * u) + s = mul_left_comm p s v ∙ ap (λ (z : ℕ). s * z) d ∙ mul-suc s (q * u) in
    let e3 : q * (s * u) ≡ s * (q * u) = mul_left_comm q s u in
    omega (arith, mul-add q x (s * u))

pub cross_back : (p q u v s x y c : ℕ) → p * v ≡ suc (q * u) → s * p ≤ x → c ≡ v * x + u * y → c ≡ v * (x - s * p) + u * (y + s * q) + s
cross_back p q u v s x y c d h e =
    omega (arith, cross_on v u q p s y x c (mul_comm v p ∙ d ∙ ap suc (mul_comm q u)) h (omega arith))

-- at least one of m
pub times_one : (n m : ℕ) → 1 ≤ n → m ≤ n * m
times_one n m h = omega (arith, mul-le-mul_right m h)
