-- An edge that is carried from row to row stands on its line in each row: by column + rest is the line's numerator there, with 0 ≤ rest < by, so that the column is the
-- quotient rounded down. A row up adds 16 (Q.x - P.x) = by step + more to the numerator; where the sum of the rests reaches by, one column is carried.
use mathlib.Core.Path.{◌≡◌, refl, sym, ap, ◌∙◌, subst}
use mathlib.Core.Bool.{true}
use mathlib.Core.Logic.{inl, inr}
use Prim.Native.Nat.{◌^◌}
use native.Mathlib.Omega.{arith}
use lib.Dec.{leb→le}
use lib.IntN.{ℤ, pos, ◌+ℤ◌, ◌-ℤ◌, ◌*ℤ◌}
use Rattle.integers.specs.Orders.{◌≼◌, ◌≺◌}
use Rattle.integers.specs.Bound.{Abs}
use Rattle.integers.specs.Floor.{floor_div}
use Rattle.integers.proofs.Ring.{ring, reify, ◌⊢◌}
use Rattle.integers.proofs.Order.{lt_le}
use Rattle.integers.proofs.Tests.{ltz}
use Rattle.integers.proofs.Floor.{floor_div_lo, floor_div_hi, floor_div_unique}
use Rattle.integers.proofs.Bound.{abs_le, abs_pos, abs_add, abs_sub, abs_mul, abs_floor}
use Rattle.edge.specs.declared.Edge.{Edge}
use Rattle.edge.specs.Edge.{fair, numerator, placed, raised}
use Rattle.edge.proofs.Bounds.{Small, small_fair, test_bound, between_bound}
use Rattle.edge.proofs.PerRow.{slope, slope_rest}
use Rattle.edge.proofs.Cases.{kept, over, raised_kept, raised_over, numbers, placed_near}
pub use Rattle.edge.proofs.Cases.{Near}

-- e stands on the line from P to Q at the height h, and each row up adds 16 (Q.x - P.x)
pub record Carries (px py qx qy h : ℤ) (e : Edge) : Type 0 where
  pub by_is : e.by ≡ pos 16 *ℤ (qy -ℤ py)
  pub at : e.by *ℤ e.column +ℤ e.rest ≡ numerator px py qx qy h
  pub rest_low : pos 0 ≼ e.rest
  pub rest_high : e.rest ≺ e.by
  pub up : e.by *ℤ e.step +ℤ e.more ≡ pos 16 *ℤ (qx -ℤ px)
  pub more_low : pos 0 ≼ e.more
  pub more_high : e.more ≺ e.by

-- ---- an edge that rises has a divisor above 0
rises : (py qy : ℤ) → py ≺ qy → pos 0 ≺ qy -ℤ py
rises = ring 2 _ (λ ρ. simp (reify, ρ) (omega arith))

sixteen : (d : ℤ) → pos 0 ≺ d → pos 0 ≺ pos 16 *ℤ d
sixteen = ring 1 _ (λ ρ. simp (reify, ρ) (omega arith))

by_above : (px py qx qy h : ℤ) {e : Edge} → py ≺ qy → Carries px py qx qy h e → pos 0 ≺ e.by
by_above px py qx qy h l c = subst (λ (z : ℤ). pos 0 ≺ z) (sym c.by_is) (sixteen (qy -ℤ py) (rises py qy l))

-- ---- a quotient and its remainder: the quotient is the floor
low : (by q r n : ℤ) → by *ℤ q +ℤ r ≡ n → pos 0 ≼ r → by *ℤ q ≼ n
low = ring 4 _ (λ ρ e h. rw (← e) (h ⊢ simp (reify, ρ) (omega arith)))

high : (by q r n : ℤ) → by *ℤ q +ℤ r ≡ n → r ≺ by → n ≺ by *ℤ q +ℤ by
high = ring 4 _ (λ ρ e h. rw (← e) (h ⊢ simp reify (omega arith)))

quotient : (by q r n : ℤ) → pos 0 ≺ by → by *ℤ q +ℤ r ≡ n → pos 0 ≼ r → r ≺ by → q ≡ floor_div n by
quotient by q r n p e l h = floor_div_unique n by q p (low by q r n e l) (high by q r n e h)

pub column_is : (px py qx qy h : ℤ) {e : Edge} → py ≺ qy → Carries px py qx qy h e → e.column ≡ floor_div (numerator px py qx qy h) (pos 16 *ℤ (qy -ℤ py))
column_is px py qx qy h {e} l c =
    quotient e.by e.column e.rest (numerator px py qx qy h) (by_above px py qx qy h l c) c.at c.rest_low c.rest_high ∙ ap (floor_div (numerator px py qx qy h)) c.by_is

-- ---- an edge between corners within reach, in a row within reach, has small numbers
module _ (px py qx qy h : ℤ) (n : Near px py qx qy h) where
  dx_bound : Abs (qx -ℤ px) 526336
  dx_bound = abs_sub (test_bound 263168 qx n.qx_near) (test_bound 263168 px n.px_near)

  dy_bound : Abs (qy -ℤ py) 526336
  dy_bound = abs_sub (test_bound 263168 qy n.qy_near) (test_bound 263168 py n.py_near)

  up_bound : Abs (h -ℤ py) 526336
  up_bound = abs_sub (test_bound 263168 h n.h_near) (test_bound 263168 py n.py_near)

  numerator_bound : Abs (numerator px py qx qy h) (2 ^ 40)
  numerator_bound = abs_le (leb→le _ (2 ^ 40) tt) (abs_add (abs_mul (test_bound 263168 px n.px_near) dy_bound) (abs_mul up_bound dx_bound))

  sixteen_bound : (d : ℤ) → Abs d 526336 → Abs (pos 16 *ℤ d) (2 ^ 40)
  sixteen_bound d k = abs_le (leb→le _ (2 ^ 40) tt) (abs_mul (abs_pos 16 {a = 16} (leb→le 16 16 tt)) k)

  module _ {e : Edge} (l : py ≺ qy) (c : Carries px py qx qy h e) where
    by_bound : Abs e.by (2 ^ 40)
    by_bound = subst (λ (z : ℤ). Abs z (2 ^ 40)) (sym c.by_is) (sixteen_bound (qy -ℤ py) dy_bound)

    -- a quotient is no further from 0 than what is divided
    quotient_bound : (q r m : ℤ) → Abs m (2 ^ 40) → e.by *ℤ q +ℤ r ≡ m → pos 0 ≼ r → r ≺ e.by → Abs q (2 ^ 40)
    quotient_bound q r m k at r-low r-high =
        subst (λ (z : ℤ). Abs z (2 ^ 40)) (sym (quotient e.by q r m (by_above px py qx qy h l c) at r-low r-high)) (abs_floor k e.by)

    -- and a remainder lies between 0 and the divisor
    remainder_bound : (r : ℤ) → pos 0 ≼ r → r ≺ e.by → Abs r (2 ^ 40)
    remainder_bound r r-low r-high = between_bound (2 ^ 40) (pos 0) r e.by (abs_pos 0 (leb→le 0 (2 ^ 40) tt)) r-low (lt_le r e.by r-high) by_bound

    small_carried : Small e
    small_carried = record {
      column_small = quotient_bound e.column e.rest (numerator px py qx qy h) numerator_bound c.at c.rest_low c.rest_high;
      rest_small = remainder_bound e.rest c.rest_low c.rest_high;
      step_small = quotient_bound e.step e.more (pos 16 *ℤ (qx -ℤ px)) (sixteen_bound (qx -ℤ px) dx_bound) c.up c.more_low c.more_high;
      more_small = remainder_bound e.more c.more_low c.more_high;
      by_small = by_bound;
    }

-- ---- one row up, with a column carried or not
-- the numerator grows by as much as the edge's numbers do
numerator_up : (px py qx qy h : ℤ) → numerator px py qx qy (h +ℤ pos 16) ≡ numerator px py qx qy h +ℤ pos 16 *ℤ (qx -ℤ px)
numerator_up = ring 5 _ (λ ρ. simp (reify, ρ) (omega arith))

at_kept : (by q r s m n i : ℤ) → by *ℤ q +ℤ r ≡ n → by *ℤ s +ℤ m ≡ i → by *ℤ (q +ℤ s) +ℤ (r +ℤ m) ≡ n +ℤ i
at_kept = ring 7 _ (λ ρ e f. rw (← e, ← f) (simp reify (omega arith)))

at_over : (by q r s m n i : ℤ) → by *ℤ q +ℤ r ≡ n → by *ℤ s +ℤ m ≡ i → by *ℤ (q +ℤ s +ℤ pos 1) +ℤ (r +ℤ m -ℤ by) ≡ n +ℤ i
at_over = ring 7 _ (λ ρ e f. rw (← e, ← f) (simp (reify, ρ) (omega arith)))

sum_low : (r m : ℤ) → pos 0 ≼ r → pos 0 ≼ m → pos 0 ≼ r +ℤ m
sum_low = ring 2 _ (λ ρ. simp (reify, ρ) (omega arith))

over_low : (r m by : ℤ) → by ≼ r +ℤ m → pos 0 ≼ r +ℤ m -ℤ by
over_low = ring 3 _ (λ ρ. simp (reify, ρ) (omega arith))

over_high : (r m by : ℤ) → r ≺ by → m ≺ by → r +ℤ m -ℤ by ≺ by
over_high = ring 3 _ (simp reify (omega arith))

module _ (px py qx qy h : ℤ) {e : Edge} (c : Carries px py qx qy h e) where
  kept_carries : e.rest +ℤ e.more ≺ e.by → Carries px py qx qy (h +ℤ pos 16) (kept e)
  kept_carries t = record {
    by_is = c.by_is;
    at = at_kept e.by e.column e.rest e.step e.more (numerator px py qx qy h) (pos 16 *ℤ (qx -ℤ px)) c.at c.up ∙ sym (numerator_up px py qx qy h);
    rest_low = sum_low e.rest e.more c.rest_low c.more_low;
    rest_high = t;
    up = c.up;
    more_low = c.more_low;
    more_high = c.more_high;
  }

  over_carries : e.by ≼ e.rest +ℤ e.more → Carries px py qx qy (h +ℤ pos 16) (over e)
  over_carries t = record {
    by_is = c.by_is;
    at = at_over e.by e.column e.rest e.step e.more (numerator px py qx qy h) (pos 16 *ℤ (qx -ℤ px)) c.at c.up ∙ sym (numerator_up px py qx qy h);
    rest_low = over_low e.rest e.more e.by t;
    rest_high = over_high e.rest e.more e.by c.rest_high c.more_high;
    up = c.up;
    more_low = c.more_low;
    more_high = c.more_high;
  }

pub raised_carries : (px py qx qy h : ℤ) {e : Edge} → Near px py qx qy h → py ≺ qy → Carries px py qx qy h e → Carries px py qx qy (h +ℤ pos 16) (raised e)
raised_carries px py qx qy h {e} n l c =
    let f : fair e ≡ true = small_fair e (small_carried px py qx qy h n l c) in
    elim (ltz (e.rest +ℤ e.more) e.by) [
      | inl t ↦ subst (Carries px py qx qy (h +ℤ pos 16)) (sym (raised_kept e f t.0)) (kept_carries px py qx qy h c t.1)
      | inr t ↦ subst (Carries px py qx qy (h +ℤ pos 16)) (sym (raised_over e f t.0)) (over_carries px py qx qy h c t.1)
    ]

-- ---- in the row where it is placed
whole : (by q n : ℤ) → by *ℤ q +ℤ (n -ℤ by *ℤ q) ≡ n
whole = ring 3 _ (simp reify (omega arith))

left_low : (p n : ℤ) → p ≼ n → pos 0 ≼ n -ℤ p
left_low = ring 2 _ (λ ρ. simp (reify, ρ) (omega arith))

left_high : (p n by : ℤ) → n ≺ p +ℤ by → n -ℤ p ≺ by
left_high = ring 3 _ (simp reify (omega arith))

numbers_carry : (px py qx qy h : ℤ) → py ≺ qy → Carries px py qx qy h (numbers px py qx qy h)
numbers_carry px py qx qy h l =
    let dx = qx -ℤ px in
    let dy = qy -ℤ py in
    let by = pos 16 *ℤ dy in
    let n = numerator px py qx qy h in
    let q = floor_div n by in
    let s = floor_div dx dy in
    let p = rises py qy l in
    record {
      by_is = refl;
      at = whole by q n;
      rest_low = left_low (by *ℤ q) n (floor_div_lo n by (sixteen dy p));
      rest_high = left_high (by *ℤ q) n by (floor_div_hi n by (sixteen dy p));
      up = slope dx dy s;
      more_low = (slope_rest dx dy s (floor_div_lo dx dy p) (floor_div_hi dx dy p)).0;
      more_high = (slope_rest dx dy s (floor_div_lo dx dy p) (floor_div_hi dx dy p)).1;
    }

pub placed_carries : (px py qx qy h : ℤ) → Near px py qx qy h → py ≺ qy → Carries px py qx qy h (placed px py qx qy h)
placed_carries px py qx qy h n l = subst (Carries px py qx qy h) (sym (placed_near px py qx qy h n)) (numbers_carry px py qx qy h l)
