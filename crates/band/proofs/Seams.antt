-- A band that is cut after whole rows is two bands: the bits before the cut belong to the upper rows, those after it to the lower ones, and each row keeps its number.
use Prim.Native.Nat.{ℕ, ◌+◌, ◌-◌, ◌*◌, ◌/◌, ◌%◌, ◌≤◌, ◌<◌}
use native.Mathlib.Nat.{mul_left_comm, div-lt_iff_lt-mul, mul-add-div_right, mul-add-mod_self_right}
use native.Mathlib.Omega.{arith}
use mathlib.Core.Path.{◌≡◌, sym, ap, ap₂, subst, ◌∙◌}
use mathlib.Core.Bool.{Bool, ◌&&◌}
use mathlib.Core.List.{List, ◌++◌}
use borrow.Author.Tests.{ltb-true, lt-ltb}
use lib.Dec.{ltb}
use lib.ListN.{take, drop, length-take}
use Rattle.integers.proofs.Tests.{and_same, same_test}
use Rattle.bits.specs.Bits.{blackened}
use Rattle.bits.proofs.Blackened.{blackened_ext}
use Rattle.band.specs.Band.{band_black}
use Rattle.band.proofs.Parts.{blackened_cut}

module _ (black : ℕ → ℕ → Bool) (columns first k m stride : ℕ) (h : 1 ≤ stride) where
  some : 0 < 8 * stride
  some = omega arith

  -- the bits of m rows
  rows_bits : 8 * (m * stride) ≡ m * (8 * stride)
  rows_bits = mul_left_comm 8 m stride

  -- before the cut
  upper : (z : ℕ) → z < 8 * (m * stride) → band_black black columns first (k + m) stride z ≡ band_black black columns (first + k) m stride z
  upper z l =
      let i = z / (8 * stride) in
      let x = z % (8 * stride) in
      let here : z / (8 * stride) < m = (div-lt_iff_lt-mul {k = 8 * stride} {x = z} {y = m} some).1 (subst (λ (n : ℕ). z < n) rows_bits l) in
      let row : first + (k + m - 1) - i ≡ first + k + (m - 1) - i = omega (arith, here) in
      ap₂ (λ (t : Bool) (j : ℕ). t && (ltb x columns && black j x)) (lt-ltb i (k + m) (omega (arith, here)) ∙ sym (lt-ltb i m here)) row

  -- after it
  lower : (z : ℕ) → band_black black columns first (k + m) stride (8 * (m * stride) + z) ≡ band_black black columns first k stride z
  lower z =
      let i = z / (8 * stride) in
      let x = z % (8 * stride) in
      let at : 8 * (m * stride) + z ≡ m * (8 * stride) + z = ap (λ (n : ℕ). n + z) rows_bits in
      ap₂ (λ (i x : ℕ). ltb i (k + m) && (ltb x columns && black (first + (k + m - 1) - i) x))
      (ap (λ (n : ℕ). n / (8 * stride)) at ∙ mul-add-div_right {m = 8 * stride} some m z) (ap (λ (n : ℕ). n % (8 * stride)) at ∙ mul-add-mod_self_right m (8 * stride) z)
      ∙ ap (λ (t : Bool). t && (ltb x columns && black (first + (k + m - 1) - (m + i)) x))
      (same_test (ltb (m + i) (k + m)) (ltb i k) (λ t. lt-ltb i k (omega (arith, ltb-true (m + i) (k + m) t))) (λ t. lt-ltb (m + i) (k + m) (omega (arith, ltb-true i k t))))
      ∙ and_same (ltb i k) (λ t. let row : first + (k + m - 1) - (m + i) ≡ first + (k - 1) - i = omega (arith, ltb-true i k t) in ap (λ (j : ℕ). ltb x columns && black j x) row)

  pub bands_cut : (b : List ℕ) →
      blackened (band_black black columns first (k + m) stride) b
      ≡ blackened (band_black black columns (first + k) m stride) (take (m * stride) b) ++ blackened (band_black black columns first k stride) (drop (m * stride) b)
  bands_cut b =
      let whole = band_black black columns first (k + m) stride in
      blackened_cut whole (m * stride) b
      ∙ ap₂ ◌++◌ (blackened_ext whole _ (take (m * stride) b) (λ x l. upper x (omega (arith, l, length-take (m * stride) b)))) (blackened_ext _ _ (drop (m * stride) b) (λ x l. lower x))
