-- Where an edge from P up to Q meets a height, in plain numbers: at numerator / (Q.y - P.y). What holds of P and Q, that they are within a side or on it, holds there.
use mathlib.Core.Path.{◌≡◌, ◌∙◌}
use native.Mathlib.Omega.{arith}
use lib.IntN.{ℤ, pos, neg_ℤ, ◌+ℤ◌, ◌-ℤ◌, ◌*ℤ◌}
use Rattle.integers.specs.Orders.{◌≼◌, ◌≺◌}
use Rattle.integers.proofs.Ring.{ring, reify, ◌⊢◌}
use Rattle.integers.proofs.Order.{mul_nn, sub_nn, sub_pos, mul_cancel, mul_cancel_lt, lt_le, le_from, add_nn}
use Rattle.integers.proofs.Signs.{neg_above}
use Rattle.edge.specs.Edge.{numerator}

-- how far inside the side (a, b, c) that point lies, from how far P and Q do
between_eq : (px py qx qy h a b c : ℤ) →
    (c -ℤ b *ℤ h) *ℤ (qy -ℤ py) -ℤ a *ℤ numerator px py qx qy h ≡
    (qy -ℤ h) *ℤ (c -ℤ (a *ℤ px +ℤ b *ℤ py)) +ℤ (h -ℤ py) *ℤ (c -ℤ (a *ℤ qx +ℤ b *ℤ qy))
between_eq = ring 8 _ (simp reify (omega arith))

pub between : (px py qx qy h a b c : ℤ) → py ≼ h → h ≼ qy → a *ℤ px +ℤ b *ℤ py ≼ c → a *ℤ qx +ℤ b *ℤ qy ≼ c →
    a *ℤ numerator px py qx qy h ≼ (c -ℤ b *ℤ h) *ℤ (qy -ℤ py)
between px py qx qy h a b c lo hi p q = le_from (add_nn (mul_nn (sub_nn hi) (sub_nn p)) (mul_nn (sub_nn lo) (sub_nn q))) (between_eq px py qx qy h a b c)

pub on_line : (px py qx qy h a b c : ℤ) → a *ℤ px +ℤ b *ℤ py ≡ c → a *ℤ qx +ℤ b *ℤ qy ≡ c → (c -ℤ b *ℤ h) *ℤ (qy -ℤ py) ≡ a *ℤ numerator px py qx qy h
on_line px py qx qy h a b c p q = equal _ _ (between_eq px py qx qy h a b c ∙ zero (qy -ℤ h) (h -ℤ py) (a *ℤ px +ℤ b *ℤ py) (a *ℤ qx +ℤ b *ℤ qy) c p q)
  where
    equal : (x y : ℤ) → x -ℤ y ≡ pos 0 → x ≡ y
    equal = ring 2 _ (λ ρ. simp (reify, ρ) (omega arith))

    zero : (s t k l c : ℤ) → k ≡ c → l ≡ c → s *ℤ (c -ℤ k) +ℤ t *ℤ (c -ℤ l) ≡ pos 0
    zero = ring 5 _ (λ ρ p q. rw (p, q) (simp (reify, ρ) (omega arith)))

-- ---- the edge meets the height at n / d. A side that lies there or further out allows what lies up to the edge, or past it on the left
pub allow_right : (a b c n d h x : ℤ) → pos 0 ≺ a → pos 0 ≺ d → x *ℤ d ≼ n → a *ℤ n ≼ (c -ℤ b *ℤ h) *ℤ d → a *ℤ x +ℤ b *ℤ h ≼ c
allow_right a b c n d h x ha hd hx k = mul_cancel d (a *ℤ x +ℤ b *ℤ h) c hd (go a b c n d h x ha hx k)
  where
    go : (a b c n d h x : ℤ) → pos 0 ≺ a → x *ℤ d ≼ n → a *ℤ n ≼ (c -ℤ b *ℤ h) *ℤ d → d *ℤ (a *ℤ x +ℤ b *ℤ h) ≼ d *ℤ c
    go = ring 7 _ (λ ρ ha hx k. mul_nn (sub_pos ha) (sub_nn hx) ⊢ hx ⊢ k ⊢ simp (reify, ρ) (omega arith))

pub allow_left : (a b c n d h x : ℤ) → a ≺ pos 0 → pos 0 ≺ d → n ≺ x *ℤ d → a *ℤ n ≼ (c -ℤ b *ℤ h) *ℤ d → a *ℤ x +ℤ b *ℤ h ≺ c
allow_left a b c n d h x ha hd hx k = mul_cancel_lt d (a *ℤ x +ℤ b *ℤ h) c (lt_le (pos 0) d hd) (go a b c n d h x ha hx k)
  where
    go : (a b c n d h x : ℤ) → a ≺ pos 0 → n ≺ x *ℤ d → a *ℤ n ≼ (c -ℤ b *ℤ h) *ℤ d → d *ℤ (a *ℤ x +ℤ b *ℤ h) ≺ d *ℤ c
    go = ring 7 _ (λ ρ ha hx k. mul_nn (sub_pos ha) (sub_pos hx) ⊢ ha ⊢ hx ⊢ k ⊢ simp (reify, ρ) (omega arith))

-- and the side that lies there allows nothing else
pub meet_right : (a b c n d h x : ℤ) → pos 0 ≺ a → pos 0 ≺ d → (c -ℤ b *ℤ h) *ℤ d ≡ a *ℤ n → a *ℤ x +ℤ b *ℤ h ≼ c → x *ℤ d ≼ n
meet_right a b c n d h x ha hd e k = mul_cancel a (x *ℤ d) n ha (go a b c n d h x hd e k)
  where
    go : (a b c n d h x : ℤ) → pos 0 ≺ d → (c -ℤ b *ℤ h) *ℤ d ≡ a *ℤ n → a *ℤ x +ℤ b *ℤ h ≼ c → a *ℤ (x *ℤ d) ≼ a *ℤ n
    go = ring 7 _ (λ ρ hd e k. mul_nn (sub_pos hd) (sub_nn k) ⊢ e ⊢ k ⊢ simp (reify, ρ) (omega arith))

pub meet_left : (a b c n d h x : ℤ) → a ≺ pos 0 → pos 0 ≺ d → (c -ℤ b *ℤ h) *ℤ d ≡ a *ℤ n → a *ℤ x +ℤ b *ℤ h ≺ c → n ≺ x *ℤ d
meet_left a b c n d h x ha hd e k = mul_cancel_lt (neg_ℤ a) n (x *ℤ d) (lt_le (pos 0) (neg_ℤ a) (neg_above a ha)) (go a b c n d h x hd e k)
  where
    go : (a b c n d h x : ℤ) → pos 0 ≺ d → (c -ℤ b *ℤ h) *ℤ d ≡ a *ℤ n → a *ℤ x +ℤ b *ℤ h ≺ c → neg_ℤ a *ℤ n ≺ neg_ℤ a *ℤ (x *ℤ d)
    go = ring 7 _ (λ ρ hd e k. mul_nn (sub_pos hd) (sub_pos k) ⊢ hd ⊢ e ⊢ k ⊢ simp (reify, ρ) (omega arith))
