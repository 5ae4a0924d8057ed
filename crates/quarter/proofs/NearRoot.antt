-- The search by halves finds the near root, for every direction that building a pen can ask for; and there is only one near root.
use Prim.Native.Nat.{ℕ, zero, suc, ◌+◌, ◌*◌, ◌-◌, ◌^◌, ◌≤◌, ◌<◌}
use mathlib.Core.Path.{◌≡◌, subst}
use mathlib.Core.Bool.{Bool, true, false, not}
use native.Mathlib.Nat.{mul-add, mul_assoc, mul_left_comm, mul-le-mul, mul-le-mul_left, one-le-mul, pow-succ', le_antisymm}
use native.Mathlib.Numerals.{add-one}
use native.Mathlib.Omega.{arith}
use lib.Dec.{T, leb, leb→le, nleb→lt}
use Rattle.setting.specs.declared.Setting.{Setting}
use Rattle.setting.specs.Setting.{Taken}
use Rattle.quarter.specs.NearRoot.{NearRoot, norm, lower, tried, bisect, near_root}

-- ---- the search by halves, for any f
-- m is where f passes g
record Found (f : ℕ → ℕ) (g m : ℕ) : Type 0 where
  low : f m ≤ g
  high : g < f (suc m)

-- what is sought lies from m to m + 2^k
bisect_ok : (f : ℕ → ℕ) (g k m : ℕ) → f m ≤ g → g < f (m + 2 ^ k) → Found f g (bisect f g k m)
unfolding bisect tried
bisect_ok f g zero m h i = record { low = h; high = rw add-one at i }
bisect_ok f g (suc k) m h i =
    go (leb (f (m + 2 ^ k)) g) (leb→le (f (m + 2 ^ k)) g) (nleb→lt (f (m + 2 ^ k)) g)
    (λ y. bisect_ok f g k (m + 2 ^ k) y (subst (λ (z : ℕ). g < f z) (omega (arith, pow-succ' 2 k)) i)) (bisect_ok f g k m h)
  where
    go : (b : Bool) → (T b → f (m + 2 ^ k) ≤ g) → (T (not b) → g < f (m + 2 ^ k)) →
        (f (m + 2 ^ k) ≤ g → Found f g (bisect f g k (m + 2 ^ k))) → (g < f (m + 2 ^ k) → Found f g (bisect f g k m)) →
        Found f g (bisect f g k (elim b as (λ _. ℕ) [ true ↦ m + 2 ^ k | false ↦ m ]))
    go true y n a b = a (y tt)
    go false y n a b = b (n tt)

square : (a b : ℕ) → a ≤ b → a * a ≤ b * b
square a b h = mul-le-mul h h

module _ (σ : Setting) (t : Taken σ) (u v : ℕ) where
  -- w² (p²v² + q²u²) ≤ 512² q² (v² + u²)
  scaled_high : u ≤ 64 → v ≤ 64 → σ.w * σ.w * norm σ u v < lower σ 4096
  unfolding norm lower
  scaled_high hu hv =
      let q2 : ℕ = σ.q * σ.q in
      let h1 : (σ.w * σ.p) * (σ.w * σ.p) ≤ (512 * σ.q) * (512 * σ.q) = square (σ.w * σ.p) (512 * σ.q) t.high in
      let h2 : σ.w * σ.w ≤ 512 * 512 = square σ.w 512 t.w_high in
      let hu2 : u * u ≤ 64 * 64 = square u 64 hu in
      let hv2 : v * v ≤ 64 * 64 = square v 64 hv in
      let e1 : (512 * σ.q) * (512 * σ.q) ≡ 262144 * q2 = simp (mul_assoc, mul_left_comm) (omega arith) in
      let e2 : σ.w * σ.w * (σ.p * σ.p * (v * v)) ≡ (σ.w * σ.p) * (σ.w * σ.p) * (v * v) = simp (mul_assoc, mul_left_comm) in
      let h3 : (σ.w * σ.p) * (σ.w * σ.p) * (v * v) ≤ (262144 * q2) * 4096 = mul-le-mul (omega arith) hv2 in
      let h4 : q2 * (u * u) ≤ q2 * 4096 = mul-le-mul_left q2 hu2 in
      let h5 : σ.w * σ.w * (q2 * (u * u)) ≤ 262144 * (q2 * 4096) = mul-le-mul h2 h4 in
      omega (arith, mul-add (σ.w * σ.w) (σ.p * σ.p * (v * v)) (q2 * (u * u)), one-le-mul t.q_low t.q_low)

  -- 16² q² ≤ w² q² u²
  scaled_low : 1 ≤ u → lower σ 1 ≤ σ.w * σ.w * norm σ u v
  unfolding norm lower
  scaled_low hu =
      let q2 : ℕ = σ.q * σ.q in
      let h1 : q2 * 1 ≤ q2 * (u * u) = mul-le-mul_left q2 (one-le-mul hu hu) in
      let h2 : 256 * (q2 * 1) ≤ σ.w * σ.w * (q2 * (u * u)) = mul-le-mul (square 16 σ.w t.w_low) h1 in
      omega (arith, mul-add (σ.w * σ.w) (σ.p * σ.p * (v * v)) (q2 * (u * u)))

  lower_zero : (g : ℕ) → lower σ 0 ≤ g
  unfolding lower
  lower_zero g = omega arith

  -- it is where the bound passes the square
  pub near_root_found : u ≤ 64 → v ≤ 64 → (lower σ (near_root σ u v) ≤ σ.w * σ.w * norm σ u v) × (σ.w * σ.w * norm σ u v < lower σ (suc (near_root σ u v)))
  unfolding near_root
  near_root_found hu hv = let f = bisect_ok (lower σ) (σ.w * σ.w * norm σ u v) 12 0 (lower_zero _) (scaled_high hu hv) in (f.low, f.high)

  -- the near root is at least 1
  positive_of : (m g : ℕ) → lower σ 1 ≤ g → g < lower σ (suc m) → 1 ≤ m
  positive_of zero g a b = omega arith
  positive_of (suc m) g a b = omega arith

  -- the search finds the near root, for every direction that the loop can ask for
  pub near_root_ok : 1 ≤ u → u ≤ 64 → v ≤ 64 → NearRoot σ u v (near_root σ u v)
  unfolding near_root lower norm
  near_root_ok h hu hv =
      let f = bisect_ok (lower σ) (σ.w * σ.w * norm σ u v) 12 0 (lower_zero _) (scaled_high hu hv) in
      let m : ℕ = bisect (lower σ) (σ.w * σ.w * norm σ u v) 12 0 in
      let e : 2 * suc m - 1 ≡ 2 * m + 1 = omega arith in
      record {
        positive = positive_of m (σ.w * σ.w * norm σ u v) (scaled_low h) f.high;
        least = f.low;
        most = rw e at f.high;
      }

  -- there is only one: for n < m the range of n ends where that of m has not begun
  near_root_le : (m n : ℕ) → NearRoot σ u v m → NearRoot σ u v n → m ≤ n
  near_root_le m n a b = go (leb m n) (leb→le m n) (nleb→lt m n)
    where
      go : (c : Bool) → (T c → m ≤ n) → (T (not c) → n < m) → m ≤ n
      go true y k = y tt
      go false y k =
          let h : n < m = k tt in
          let s : (2 * n + 1) * (2 * n + 1) ≤ (2 * m - 1) * (2 * m - 1) = square (2 * n + 1) (2 * m - 1) (omega arith) in
          absurd (omega (arith, mul-le-mul_left (64 * (σ.q * σ.q)) s, a.least, b.most))

  pub near_root_one : (m n : ℕ) → NearRoot σ u v m → NearRoot σ u v n → m ≡ n
  near_root_one m n a b = le_antisymm (near_root_le m n a b) (near_root_le n m b a)
