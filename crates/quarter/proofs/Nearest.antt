-- Step 4's retained point as the rules of specs/Steps have it, over whole numbers: the natural quotient that `retained` computes, cut off at s, is the nearest whole number (half goes up), also
-- where the numerator is below 0.
use Prim.Native.Nat.{ℕ, ◌+◌, ◌*◌, ◌-◌, ◌/◌, ◌≤◌, ◌<◌, min}
use mathlib.Core.Path.{◌≡◌, sym, ap, ◌∙◌}
use mathlib.Core.Logic.{◌⊎◌, inl, inr}
use native.Mathlib.Nat.{div-eq_of_lt, one-le-mul}
use native.Mathlib.Omega.{arith}
use lib.IntN.{ℤ, pos, ◌+ℤ◌, ◌-ℤ◌, ◌*ℤ◌}
use lib.Dec.{leb→le, ltb→lt}
use Rattle.integers.specs.Orders.{◌≼◌, ◌≺◌}
use Rattle.integers.specs.Compare.{min_z, max_z}
use Rattle.integers.proofs.Ring.{ring, reify, ◌⊢◌}
use Rattle.integers.proofs.Order.{mul_nn, sub_pos, le_or_lt, le_refl, le_trans, le_antisymm}
use Rattle.integers.proofs.Tests.{max_l, max_r, max_le, min_r}
use Rattle.integers.proofs.Floor.{fdiv, fdiv_lo, fdiv_hi}
use Rattle.setting.specs.declared.Setting.{Setting}
use Rattle.setting.specs.Setting.{Taken}
use Rattle.quarter.proofs.Most.{norm_least}
use Rattle.quarter.specs.NearRoot.{norm}
use Rattle.quarter.specs.Cutting.{retained}
use Rattle.quarter.specs.Steps.{Retained}
use Rattle.quarter.proofs.Cuts.{retained_le}
use Rattle.quarter.proofs.Naturals.{le_pos, lt_pos, diff_pos, min_pos}

-- k, the floor of (2n + m) / 2m, is the whole number nearest to n / m
nearest_low : (n m k : ℤ) → pos 2 *ℤ m *ℤ k ≼ pos 2 *ℤ n +ℤ m → (pos 2 *ℤ k -ℤ pos 1) *ℤ m ≼ pos 2 *ℤ n
nearest_low = ring 3 _ (λ ρ. simp (reify, ρ) (omega arith))

nearest_high : (n m k : ℤ) → pos 2 *ℤ n +ℤ m ≺ pos 2 *ℤ m *ℤ k +ℤ pos 2 *ℤ m → pos 2 *ℤ n ≺ (pos 2 *ℤ k +ℤ pos 1) *ℤ m
nearest_high = ring 3 _ (λ ρ. simp (reify, ρ) (omega arith))

-- where n is negative it is at most 0
below : (n m k : ℤ) → pos 0 ≺ m → n ≺ pos 0 → pos 2 *ℤ m *ℤ k ≼ pos 2 *ℤ n +ℤ m → k ≼ pos 0
below n m k hm hn h = elim (le_or_lt k (pos 0)) [ inl e ↦ e | inr e ↦ absurd (no n m k hm hn h e) ]
  where
    no : (n m k : ℤ) → pos 0 ≺ m → n ≺ pos 0 → pos 2 *ℤ m *ℤ k ≼ pos 2 *ℤ n +ℤ m → pos 0 ≺ k → ⊥
    no = ring 3 _ (λ ρ hm hn h e. mul_nn (sub_pos hm) (sub_pos e) ⊢ hm ⊢ hn ⊢ h ⊢ e ⊢ simp (reify, ρ) (omega arith))

negative : (x y : ℤ) → x ≺ y → x -ℤ y ≺ pos 0
negative = ring 2 _ (λ ρ. simp (reify, ρ) (omega arith))

-- a = p²vc and d = x n, the two parts of the numerator, and m the denominator
module _ (a d m s : ℕ) (h : 1 ≤ m) where
  abbrev k : ℤ
  k = fdiv (pos 2 *ℤ (pos a -ℤ pos d) +ℤ pos m) (2 * m)

  low : pos 2 *ℤ pos m *ℤ k ≼ pos 2 *ℤ (pos a -ℤ pos d) +ℤ pos m
  low = fdiv_lo (pos 2 *ℤ (pos a -ℤ pos d) +ℤ pos m) (2 * m) (omega arith)

  high : pos 2 *ℤ (pos a -ℤ pos d) +ℤ pos m ≺ pos 2 *ℤ pos m *ℤ k +ℤ pos 2 *ℤ pos m
  high = fdiv_hi (pos 2 *ℤ (pos a -ℤ pos d) +ℤ pos m) (2 * m) (omega arith)

  max_zero : (z : ℤ) → z ≼ pos 0 → pos 0 ≡ max_z (pos 0) z
  max_zero z e = le_antisymm (pos 0) (max_z (pos 0) z) (max_l (pos 0) z) (max_le (pos 0) z (pos 0) (le_refl (pos 0)) e)

  max_pos : (n : ℕ) → pos n ≡ max_z (pos 0) (pos n)
  max_pos n = le_antisymm (pos n) (max_z (pos 0) (pos n)) (max_r (pos 0) (pos n)) (max_le (pos 0) (pos n) (pos n) (le_pos (omega arith)) (le_refl (pos n)))

  brought : pos (min s ((2 * (a - d) + m) / (2 * m))) ≡ max_z (pos 0) (min_z (pos s) k)
  brought = go (le_or_lt (pos d) (pos a))
    where
      go : (pos d ≼ pos a) ⊎ (pos a ≺ pos d) → pos (min s ((2 * (a - d) + m) / (2 * m))) ≡ max_z (pos 0) (min_z (pos s) k)
      go (inl e) =
          let j : ℕ = (2 * (a - d) + m) / (2 * m) in
          let ek : k ≡ pos j = ap (λ (z : ℤ). fdiv (pos 2 *ℤ z +ℤ pos m) (2 * m)) (sym (diff_pos a d (leb→le d a e.le))) in
          max_pos (min s j) ∙ ap (λ (z : ℤ). max_z (pos 0) z) (sym (min_pos s j)) ∙ ap (λ (z : ℤ). max_z (pos 0) (min_z (pos s) z)) (sym ek)
      go (inr e) =
          let l : a < d = ltb→lt a d e.lt in
          let ej : (2 * (a - d) + m) / (2 * m) ≡ 0 = div-eq_of_lt {n = 2 * (a - d) + m} {m = 2 * m} (omega arith) in
          let small = below (pos a -ℤ pos d) (pos m) k (lt_pos h) (negative (pos a) (pos d) e) low in
          ap (λ (n : ℕ). pos n) (omega arith) ∙ max_zero (min_z (pos s) k) (le_trans (min_z (pos s) k) k (pos 0) (min_r (pos s) k) small)

pub retained-ok :
    (σ : Setting) → Taken σ → (u v c x s : ℕ) → 1 ≤ u →
    Retained σ (pos x) (pos s) (record { u = pos u; v = pos v; c = pos c; l1 = pos (retained σ u v c x s); l2 = pos (s - retained σ u v c x s) })
unfolding retained norm
retained-ok σ τ u v c x s h =
    let a : ℕ = σ.p * σ.p * v * c in
    let d : ℕ = x * norm σ u v in
    let m : ℕ = u * norm σ u v in
    let hm : 1 ≤ m = one-le-mul h (norm_least τ v h) in
    record {
      k = k a d m s hm;
      nearest = record {
        low = nearest_low (pos a -ℤ pos d) (pos m) (k a d m s hm) (low a d m s hm);
        high = nearest_high (pos a -ℤ pos d) (pos m) (k a d m s hm) (high a d m s hm);
      };
      l1 = brought a d m s hm;
      l2 = diff_pos s (retained σ u v c x s) (retained_le σ u v c x s);
    }
