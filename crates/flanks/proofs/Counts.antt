-- How many of the raster's columns lie up to a column: none, all up to it, or all that there are.
use Prim.Native.Nat.{ℕ, ◌≤◌, ◌<◌}
use native.Mathlib.Omega.{arith}
use mathlib.Core.Path.{◌≡◌, refl, ap, ◌∙◌}
use mathlib.Core.Logic.Iff
use mathlib.Core.Logic.{◌↔◌, inl, inr}
use mathlib.Core.List.{[]}
use lib.Dec.{leb→le, ltb→lt}
use lib.IntN.{ℤ, pos, negsuc, nat_abs, ◌+ℤ◌}
use lib.Signed.{clash_ℤ}
use Rattle.integers.specs.Orders.{◌≼◌, ◌≺◌}
use Rattle.integers.specs.Compare.{min_z, max_z}
use Rattle.integers.proofs.Ring.{ring, reify, here, ◌⊢◌}
use Rattle.integers.proofs.Order.{le_trans, le_or_lt}
use Rattle.integers.proofs.Tests.{max_first, max_second, min_first, min_second, min_l}
use Rattle.flanks.specs.Flanks.{count_to}

-- ---- plain numbers
step_down : (z m : ℤ) → z ≺ m → z +ℤ pos 1 ≼ m
step_down = ring 2 _ (λ ρ. simp (reify, ρ) (omega arith))

step_up : (m z : ℤ) → m ≼ z → m ≼ z +ℤ pos 1
step_up = ring 2 _ (λ ρ. simp (reify, ρ) (omega arith))

next_iff : (x z : ℤ) → (x ≺ z +ℤ pos 1) ↔ (x ≼ z)
next_iff = ring 2 _ (λ ρ. simp (reify, ρ) (omega arith))

below : (a b z : ℤ) → a ≺ b → b ≼ z → a ≼ z
below = ring 3 _ (simp reify (omega arith))

natural : (n : ℕ) → pos 0 ≼ pos n
natural n = here [] λ ρ. simp (reify, ρ) (omega arith)

pos_lt : (a b : ℕ) → (a < b) ↔ (pos a ≺ pos b)
pos_lt a b = ((λ l. l ⊢ here [] (λ ρ. simp (reify, ρ) (omega arith))), λ h. ltb→lt a b h.lt)

whole : (m : ℤ) → pos 0 ≼ m → pos (nat_abs m) ≡ m
whole (pos a) h = refl
whole (negsuc a) h = absurd h.le

-- ---- the three cases
pub count_none : (columns : ℕ) (z : ℤ) → z ≺ pos 0 → count_to columns z ≡ 0
count_none columns z h =
    let w = min_z (z +ℤ pos 1) (pos columns) in
    ap nat_abs (max_first (pos 0) w (le_trans w (z +ℤ pos 1) (pos 0) (min_l (z +ℤ pos 1) (pos columns)) (step_down z (pos 0) h)))

pub count_some : (columns : ℕ) (z : ℤ) → pos 0 ≼ z → z ≺ pos columns → count_to columns z ≡ nat_abs (z +ℤ pos 1)
count_some columns z l h = ap nat_abs (ap (max_z (pos 0)) (min_first (z +ℤ pos 1) (pos columns) (step_down z (pos columns) h)) ∙ max_second (pos 0) (z +ℤ pos 1) (step_up (pos 0) z l))

pub count_all : (columns : ℕ) (z : ℤ) → pos columns ≼ z → count_to columns z ≡ columns
count_all columns z h = ap nat_abs (ap (max_z (pos 0)) (min_second (z +ℤ pos 1) (pos columns) (step_up (pos columns) z h)) ∙ max_second (pos 0) (pos columns) (natural columns))

-- ---- what they say
-- a column of the raster is among them exactly when it lies up to z
pub count_iff : (columns x : ℕ) (z : ℤ) → x < columns → (x < count_to columns z) ↔ (pos x ≼ z)
count_iff columns x z l = elim (le_or_lt (pos columns) z) [
  | inl h ↦ rw (count_all columns z h) ((λ _. below (pos x) (pos columns) z ((pos_lt x columns).0 l) h), λ _. l)
  | inr h ↦ elim (le_or_lt (pos 0) z) [
    | inl k ↦ rw (count_some columns z k h) (Iff.trans (pos_lt x (nat_abs (z +ℤ pos 1))) (rw (whole (z +ℤ pos 1) (step_up (pos 0) z k)) (next_iff (pos x) z)))
    | inr k ↦ rw (count_none columns z k) ((λ m. absurd (omega (arith, m))), λ m. clash_ℤ k (le_trans (pos 0) (pos x) z (natural x) m))
  ]
]

-- and there are no more of them than the raster has
pub count_most : (columns : ℕ) (z : ℤ) → count_to columns z ≤ columns
count_most columns z = elim (le_or_lt (pos columns) z) [
  | inl h ↦ rw (count_all columns z h) (omega arith)
  | inr h ↦ elim (le_or_lt (pos 0) z) [
    | inl k ↦ rw (count_some columns z k h) (few (nat_abs (z +ℤ pos 1)) (whole (z +ℤ pos 1) (step_up (pos 0) z k)) (step_down z (pos columns) h))
    | inr k ↦ rw (count_none columns z k) (omega arith)
  ]
]
  where
    few : (n : ℕ) → pos n ≡ z +ℤ pos 1 → z +ℤ pos 1 ≼ pos columns → n ≤ columns
    few n e h = let k : pos n ≼ pos columns = rw e h in leb→le n columns k.le
