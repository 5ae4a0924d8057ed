-- Fractions of a row, compared by products: of the last columns up to two fractions the lesser is that of the lesser fraction.
use mathlib.Core.Path.{◌≡◌, sym, ap}
use mathlib.Core.Logic.{inl, inr}
use mathlib.Core.Bool.{false}
use Rattle.std.specs.Prelude.{Some}
use native.Mathlib.Omega.{arith}
use lib.IntN.{ℤ, pos, ◌+ℤ◌, ◌*ℤ◌}
use lib.Signed.{lt_z, clash_ℤ}
use Rattle.integers.specs.Orders.{◌≼◌, ◌≺◌}
use Rattle.integers.proofs.Ring.{ring, reify, ◌⊢◌}
use Rattle.integers.proofs.Order.{lt_le, mul_cancel, mul_nn, sub_nn, sub_pos}
use Rattle.integers.proofs.Tests.{lt_iff, ltz, max_first, max_second, min_first, min_second}
use Rattle.integers.proofs.Floor.{floor_div_lo, le_floor_div}
use Rattle.extent.specs.declared.limit.Fraction.{Fraction}
use Rattle.stroke.specs.Extent.{Limit, free, at, upper, lower}
use Rattle.extent.specs.Held.{last_to, at_most, at_least}
use Rattle.stroke.proofs.Limits.{sixteen_pos}

-- ---- the greater fraction has the greater last column
scaled : (r a s b q : ℤ) → pos 0 ≺ b → (pos 16 *ℤ a) *ℤ q ≼ r → r *ℤ b ≼ s *ℤ a → a *ℤ (q *ℤ (pos 16 *ℤ b)) ≼ a *ℤ s
scaled = ring 5 _ (λ ρ hb h k. mul_nn (sub_pos hb) (sub_nn h) ⊢ h ⊢ k ⊢ simp (reify, ρ) (omega arith))

ordered : (r a s b : ℤ) → pos 0 ≺ a → pos 0 ≺ b → r *ℤ b ≼ s *ℤ a → last_to r a ≼ last_to s b
ordered r a s b ha hb h =
    let q = last_to r a in
    (le_floor_div s (pos 16 *ℤ b) q (sixteen_pos b hb)).1 (mul_cancel a (q *ℤ (pos 16 *ℤ b)) s ha (scaled r a s b q hb (floor_div_lo r (pos 16 *ℤ a) (sixteen_pos a ha)) h))

one_more : (a b : ℤ) → a ≼ b → a +ℤ pos 1 ≼ b +ℤ pos 1
one_more = ring 2 _ (λ ρ. simp (reify, ρ) (omega arith))

pub not_lt : (a b : ℤ) → b ≼ a → lt_z a b ≡ false
not_lt a b h = elim (ltz a b) [ inl k ↦ clash_ℤ k.1 h | inr k ↦ k.0 ]

-- ---- f and the fraction n / d, both with positive divisors
module _ (f : Fraction) (n d : ℤ) (h : pos 0 ≺ f.by) (hd : pos 0 ≺ d) where
  -- the lesser one
  pub lesser_new : n *ℤ f.by ≼ f.num *ℤ d → at (last_to n d) ≡ upper (at_most (Some f)) (last_to n d)
  lesser_new k = ap at (sym (min_second (last_to f.num f.by) (last_to n d) (ordered n d f.num f.by hd h k)))

  pub lesser_old : f.num *ℤ d ≼ n *ℤ f.by → at_most (Some f) ≡ upper (at_most (Some f)) (last_to n d)
  lesser_old k = ap at (sym (min_first (last_to f.num f.by) (last_to n d) (ordered f.num f.by n d h hd k)))

  -- the greater one
  pub greater_new : f.num *ℤ d ≼ n *ℤ f.by → at (last_to n d +ℤ pos 1) ≡ lower (at_least (Some f)) (last_to n d +ℤ pos 1)
  greater_new k =
      let q = last_to f.num f.by in
      ap at (sym (max_second (q +ℤ pos 1) (last_to n d +ℤ pos 1) (one_more q (last_to n d) (ordered f.num f.by n d h hd k))))

  pub greater_old : n *ℤ f.by ≼ f.num *ℤ d → at_least (Some f) ≡ lower (at_least (Some f)) (last_to n d +ℤ pos 1)
  greater_old k =
      let q = last_to f.num f.by in
      ap at (sym (max_first (q +ℤ pos 1) (last_to n d +ℤ pos 1) (one_more (last_to n d) q (ordered n d f.num f.by hd h k))))
