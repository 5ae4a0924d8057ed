-- Signs: of a number and of its opposite; and a positive factor on both sides of an order, which leaves a sign.
use mathlib.Core.Path.{◌≡◌, subst}
use mathlib.Core.Logic.{◌↔◌}
use native.Mathlib.Omega.{arith}
use lib.IntN.{ℤ, pos, neg_ℤ, ◌*ℤ◌}
use Rattle.integers.specs.Orders.{◌≼◌, ◌≺◌}
use Rattle.integers.proofs.Ring.{ring, reify}
use Rattle.integers.proofs.Order.{mul_mono, mul_mono_lt, mul_cancel, mul_cancel_lt, lt_le}

pub not_zero : (x : ℤ) → x ≺ pos 0 → ¬ (x ≡ pos 0)
not_zero = ring 1 _ (λ ρ. simp (reify, ρ) (omega arith))

pub neg_neg : (x : ℤ) → x ≡ neg_ℤ (neg_ℤ x)
neg_neg = ring 1 _ (simp reify (omega arith))

pub neg_below : (x : ℤ) → pos 0 ≺ x → neg_ℤ x ≺ pos 0
neg_below = ring 1 _ (λ ρ. simp (reify, ρ) (omega arith))

pub neg_above : (x : ℤ) → x ≺ pos 0 → pos 0 ≺ neg_ℤ x
neg_above = ring 1 _ (λ ρ. simp (reify, ρ) (omega arith))

pub times_le : (t x y : ℤ) → pos 0 ≺ t → (t *ℤ x ≼ t *ℤ y) ↔ (x ≼ y)
times_le t x y h = (mul_cancel t x y h, mul_mono t x y (lt_le (pos 0) t h))

pub times_lt : (t x y : ℤ) → pos 0 ≺ t → (t *ℤ x ≺ t *ℤ y) ↔ (x ≺ y)
times_lt t x y h = (mul_cancel_lt t x y (lt_le (pos 0) t h), mul_mono_lt t x y h)

pub times_zero : (t : ℤ) → t *ℤ pos 0 ≡ pos 0
times_zero = ring 1 _ (λ ρ. simp (reify, ρ) (omega arith))

-- so such a factor leaves the sign
pub times_above : (t x : ℤ) → pos 0 ≺ t → (pos 0 ≺ t *ℤ x) ↔ (pos 0 ≺ x)
times_above t x h = subst (λ (z : ℤ). (z ≺ t *ℤ x) ↔ (pos 0 ≺ x)) (times_zero t) (times_lt t (pos 0) x h)

pub times_below : (t x : ℤ) → pos 0 ≺ t → (t *ℤ x ≺ pos 0) ↔ (x ≺ pos 0)
times_below t x h = subst (λ (z : ℤ). (t *ℤ x ≺ z) ↔ (x ≺ pos 0)) (times_zero t) (times_lt t x (pos 0) h)

pub square_pos : (x : ℤ) → pos 0 ≺ x → pos 0 ≺ x *ℤ x
square_pos x h = (times_above x x h).1 h
