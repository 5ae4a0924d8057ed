-- Bounds of unsigned machine numbers: a number is at most a numeral, so it fits. With numerals the last argument of `fit` is `tt`:
--   fit (mul-le-mul t.p_high h) tt : Fits w64 (σ.p * v), where t.p_high : σ.p ≤ 16 and h : v ≤ 64
use Prim.Native.Nat.{ℕ, ◌+◌, ◌*◌, ◌^◌, ◌≤◌}
use native.Mathlib.Nat.{lt_of_le_of_lt, add-le-add, mul-le-mul, one-le-mul}
use native.Mathlib.Omega.{arith}
use lib.Dec.{T, ltb, ltb→lt}
use mir.Syntax.{w64}
use mir.Val.{Fits}
use Rattle.setting.specs.declared.Setting.{Setting}
use Rattle.setting.specs.Setting.{Taken}
use Rattle.quarter.specs.declared.Edge.{Edge}
use Rattle.quarter.specs.NearRoot.{norm}
use Rattle.quarter.specs.Moment.{Small, Summed}

pub fit : {n b : ℕ} → n ≤ b → T (ltb b (2 ^ 64)) → Fits w64 n
fit {n} {b} h t = record { fits = lt_of_le_of_lt h (ltb→lt b (2 ^ 64) t) }

-- the summed direction of two small edges
pub summed : {L R : Edge} → Small L → Small R → Summed (L.u + R.u) (L.v + R.v)
summed l r = record { u_small = add-le-add l.u_small r.u_small; v_small = add-le-add l.v_small r.v_small }

-- the two terms of p²v² + q²u², and their sum
pub square_p : {σ : Setting} → Taken σ → {v : ℕ} → v ≤ 64 → σ.p * σ.p * (v * v) ≤ 1048576
square_p t h = mul-le-mul (mul-le-mul t.p_high t.p_high) (mul-le-mul h h)

pub square_q : {σ : Setting} → Taken σ → {u : ℕ} → u ≤ 64 → σ.q * σ.q * (u * u) ≤ 1048576
square_q t h = mul-le-mul (mul-le-mul t.q_high t.q_high) (mul-le-mul h h)

pub norm_most : {σ : Setting} → Taken σ → {u v : ℕ} → u ≤ 64 → v ≤ 64 → norm σ u v ≤ 2097152
unfolding norm
norm_most t h k = add-le-add (square_p t k) (square_q t h)

-- it is not 0, so that one may divide by it
pub norm_least : {σ : Setting} → Taken σ → {u : ℕ} (v : ℕ) → 1 ≤ u → 1 ≤ norm σ u v
unfolding norm
norm_least t v h = omega (arith, one-le-mul (one-le-mul t.q_low t.q_low) (one-le-mul h h))
