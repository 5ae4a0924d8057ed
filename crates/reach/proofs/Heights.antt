-- No y of a path is less than the least, and none greater than the greatest; of a path in range both are in range.
use Prim.Native.Nat.{ℕ, ◌+◌, ◌*◌, ◌<◌}
use native.Mathlib.Omega.{arith}
use mathlib.Core.Path.{◌≡◌, sym, subst}
use mathlib.Core.Logic.{inl, inr}
use mathlib.Core.Bool.{true}
use mathlib.Core.List.{List}
use lib.ListN.{length, get_or}
use lib.IntN.{ℤ, pos, neg_ℤ}
use Rattle.integers.specs.Orders.{◌≼◌}
use Rattle.integers.specs.Compare.{min_z, max_z}
use Rattle.integers.specs.Bound.{Abs}
use Rattle.integers.proofs.Order.{le_refl, le_trans, le_antisymm}
use Rattle.integers.proofs.Tests.{le_true, and_both, min_case, min_l, min_r, le_min, min_first, max_case, max_l, max_r, max_le, max_first}
use Rattle.integers.proofs.Bound.{abs_iff}
use Rattle.limits.specs.Sizes.{coordinate_max, in_range}
use Rattle.reach.specs.Reach.{least_y, greatest_y, InRange, NoneUnder, NoneOver}
use Rattle.reach.proofs.Pass.{beyond_each, of_each, Together}

-- ---- the lesser and the greater of two, in any order
pub least_together : Together min_z (pos coordinate_max)
least_together = record {
  assoc = λ a b c.
      let l = min_z (min_z a b) c in
      let r = min_z a (min_z b c) in
      let la = le_trans l (min_z a b) a (min_l (min_z a b) c) (min_l a b) in
      let lb = le_trans l (min_z a b) b (min_l (min_z a b) c) (min_r a b) in
      let rb = le_trans r (min_z b c) b (min_r a (min_z b c)) (min_l b c) in
      let rc = le_trans r (min_z b c) c (min_r a (min_z b c)) (min_r b c) in
      le_antisymm l r (le_min a (min_z b c) l la (le_min b c l lb (min_r (min_z a b) c))) (le_min (min_z a b) c r (le_min a b r (min_l a (min_z b c)) rb) rc);
  comm = λ a b. le_antisymm (min_z a b) (min_z b a) (le_min b a (min_z a b) (min_r a b) (min_l a b)) (le_min a b (min_z b a) (min_r b a) (min_l b a));
  twice = min_first (pos coordinate_max) (pos coordinate_max) (le_refl (pos coordinate_max));
}

pub greatest_together : Together max_z (neg_ℤ (pos coordinate_max))
greatest_together = record {
  assoc = λ a b c.
      let l = max_z (max_z a b) c in
      let r = max_z a (max_z b c) in
      let la = le_trans a (max_z a b) l (max_l a b) (max_l (max_z a b) c) in
      let lb = le_trans b (max_z a b) l (max_r a b) (max_l (max_z a b) c) in
      let rb = le_trans b (max_z b c) r (max_l b c) (max_r a (max_z b c)) in
      let rc = le_trans c (max_z b c) r (max_r b c) (max_r a (max_z b c)) in
      le_antisymm l r (max_le (max_z a b) c r (max_le a b r (max_l a (max_z b c)) rb) rc) (max_le a (max_z b c) l la (max_le b c l lb (max_r (max_z a b) c)));
  comm = λ a b. le_antisymm (max_z a b) (max_z b a) (max_le a b (max_z b a) (max_r b a) (max_l b a)) (max_le b a (max_z a b) (max_r a b) (max_l a b));
  twice = max_first (neg_ℤ (pos coordinate_max)) (neg_ℤ (pos coordinate_max)) (le_refl (neg_ℤ (pos coordinate_max)));
}

-- ---- they bound the y's
pub none_under : (path : List ℤ) → NoneUnder path (least_y path)
none_under path = beyond_each min_z (pos coordinate_max) ◌≼◌ le_trans min_l min_r path

pub none_over : (path : List ℤ) → NoneOver path (greatest_y path)
none_over path = beyond_each max_z (neg_ℤ (pos coordinate_max)) (λ x y. y ≼ x) (λ x y z p q. le_trans z y x q p) max_l max_r path

-- ---- and are small where the coordinates are in range
range_abs : (z : ℤ) → in_range z ≡ true → Abs z 262144
unfolding in_range
range_abs z r = let p = and_both _ _ r in (abs_iff z 262144).1 (le_true p.0, le_true p.1)

min_small : (x y : ℤ) → Abs x 262144 → Abs y 262144 → Abs (min_z x y) 262144
min_small x y p q = elim (min_case x y) [ inl h ↦ subst (λ (z : ℤ). Abs z 262144) (sym h.0) p | inr h ↦ subst (λ (z : ℤ). Abs z 262144) (sym h.0) q ]

max_small : (x y : ℤ) → Abs x 262144 → Abs y 262144 → Abs (max_z x y) 262144
max_small x y p q = elim (max_case x y) [ inl h ↦ subst (λ (z : ℤ). Abs z 262144) (sym h.0) q | inr h ↦ subst (λ (z : ℤ). Abs z 262144) (sym h.0) p ]

module _ (path : List ℤ) (r : InRange path) where
  each_small : (k : ℕ) → 2 * k + 1 < length path → Abs (get_or path (2 * k + 1) (pos 0)) 262144
  each_small k h = range_abs (get_or path (2 * k + 1) (pos 0)) (r (2 * k + 1) h)

  pub least_small : Abs (least_y path) 262144
  least_small = of_each min_z (pos coordinate_max) (λ z. Abs z 262144) (record { abs = omega arith }) min_small path each_small

  pub greatest_small : Abs (greatest_y path) 262144
  greatest_small = of_each max_z (neg_ℤ (pos coordinate_max)) (λ z. Abs z 262144) (record { abs = omega arith }) max_small path each_small
