-- What follows from the laws of the rule: a normal with a leftward part is dropped; and of the flat sides those that point up are all kept or all dropped, and those that
-- point down the other way.
use mathlib.Core.Path.{◌≡◌, refl, sym, ap₂, ◌∙◌, subst}
use mathlib.Core.Bool.{Bool, true, false, not}
use native.Mathlib.Omega.{arith}
use lib.IntN.{ℤ, pos, neg_ℤ, ◌*ℤ◌}
use lib.Signed.{lt_z_yes, clash_ℤ}
use Rattle.integers.specs.Orders.{◌≺◌}
use Rattle.integers.proofs.Ring.{ring, reify}
use Rattle.integers.proofs.Order.{le_refl}
use Rattle.integers.proofs.Signs.{not_zero, neg_above, times_zero}
use Rattle.ties.specs.Kept.{kept}
use Rattle.ties.proofs.Kept.{kept_laws}

-- a side is dropped where the opposite one is kept
dropped : (t : Bool) → not t ≡ true → t ≡ false
dropped true e = sym e
dropped false e = refl

pub dropped_leftward : (a b : ℤ) → a ≺ pos 0 → kept a b ≡ false
dropped_leftward a b h = dropped (kept a b) (sym (kept_laws.one a b (λ z. not_zero a h z.0)) ∙ kept_laws.rightward (neg_ℤ a) (neg_ℤ b) (neg_above a h))

-- the normal (0, b) is b times the one straight up, of length 1, or -b times the opposite of that
times_up : (b : ℤ) → b ≡ b *ℤ pos 1
times_up = ring 1 _ (λ ρ. simp (reify, ρ) (omega arith))

times_down : (b : ℤ) → b ≡ neg_ℤ b *ℤ neg_ℤ (pos 1)
times_down = ring 1 _ (λ ρ. simp (reify, ρ) (omega arith))

pub flat_up : (b : ℤ) → pos 0 ≺ b → kept (pos 0) b ≡ kept (pos 0) (pos 1)
flat_up b h = ap₂ kept (sym (times_zero b)) (times_up b) ∙ kept_laws.times b (pos 0) (pos 1) h

pub flat_down : (b : ℤ) → b ≺ pos 0 → kept (pos 0) b ≡ not (kept (pos 0) (pos 1))
flat_down b h =
    ap₂ kept (sym (times_zero (neg_ℤ b))) (times_down b) ∙ kept_laws.times (neg_ℤ b) (neg_ℤ (pos 0)) (neg_ℤ (pos 1)) (neg_above b h)
    ∙ kept_laws.one (pos 0) (pos 1) (λ z. one_is_not z.1)
  where
    one_is_not : ¬ (pos 1 ≡ pos 0)
    one_is_not e = clash_ℤ (subst (λ (z : ℤ). pos 0 ≺ z) e (lt_z_yes tt)) (le_refl (pos 0))
