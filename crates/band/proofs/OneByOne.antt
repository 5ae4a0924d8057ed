-- A band by its rows: its top row is the band of one row, which is that row packed and laid over, and the others are the band below it.
use Prim.Native.Nat.{ℕ, zero, suc, ◌+◌, ◌-◌, ◌*◌, ◌/◌, ◌≤◌, ◌<◌}
use native.Mathlib.Nat.{one-mul, div-eq_of_lt, mod-eq_of_lt}
use native.Mathlib.Numerals.{add-one}
use native.Mathlib.Omega.{arith}
use mathlib.Core.Path.{◌≡◌, sym, ap, ap₂, ◌∙◌}
use mathlib.Core.Bool.{Bool, ◌&&◌}
use mathlib.Core.List.{List, ◌++◌}
use borrow.Author.Tests.{lt-ltb, le-ltb}
use lib.Dec.{ltb}
use lib.ListN.{length, take, drop, length-take}
use Rattle.integers.proofs.Tests.{true_and, false_and}
use Rattle.bits.specs.Bits.{packed, laid_over, blackened}
use Rattle.bits.proofs.Bytes.{packed_ext}
use Rattle.bits.proofs.Blackened.{blackened_ext, blackened_none, blackened_packed}
use Rattle.band.specs.Band.{band_black}
use Rattle.band.specs.Theorems.{rows_over}
use Rattle.band.proofs.Seams.{bands_cut}

module _ (black : ℕ → ℕ → Bool) (columns stride : ℕ) where
  -- one row alone, of which there are no more bytes than a row has
  one_bits : (j x : ℕ) → x < 8 * stride → band_black black columns j 1 stride x ≡ (ltb x columns && black j x)
  one_bits j x l =
      let row : j + (1 - 1) - 0 ≡ j = omega arith in
      ap₂ (λ (i x : ℕ). ltb i 1 && (ltb x columns && black (j + (1 - 1) - i) x)) (div-eq_of_lt l) (mod-eq_of_lt l) ∙ ap (λ (j : ℕ). ltb x columns && black j x) row

  in_raster : (f : ℕ → Bool) → packed (λ x. ltb x columns && f x) columns ≡ packed f columns
  in_raster f = packed_ext (λ x h. sym (true_and (ltb x columns) (f x) (lt-ltb x columns h)))

  one_row : (j : ℕ) (c : List ℕ) → length c ≤ stride → blackened (band_black black columns j 1 stride) c ≡ laid_over c (packed (black j) columns)
  one_row j c h =
      blackened_ext _ (λ x. ltb x columns && black j x) c (λ x l. one_bits j x (omega arith))
      ∙ sym (blackened_packed (λ x. ltb x columns && black j x) columns c (λ x l. sym (false_and (ltb x columns) (black j x) (le-ltb x columns l))))
      ∙ ap (laid_over c) (in_raster (black j))

  no_row : (first : ℕ) (b : List ℕ) → b ≡ blackened (band_black black columns first 0 stride) b
  no_row first b = blackened_none _ b (λ x l. sym (false_and (ltb (x / (8 * stride)) 0) _ (le-ltb (x / (8 * stride)) 0 (omega arith))))

  pub rows_laid : (first n : ℕ) (b : List ℕ) → 1 ≤ stride → blackened (band_black black columns first n stride) b ≡ rows_over (λ k. packed (black (first + k)) columns) stride n b
  unfolding rows_over
  rows_laid first zero b h = sym (no_row first b)
  rows_laid first (suc n) b h =
      ap (λ (m : ℕ). blackened (band_black black columns first m stride) b) (sym (add-one n))
      ∙ bands_cut black columns first n 1 stride h b
      ∙ ap₂ ◌++◌
      (ap (λ (s : ℕ). blackened (band_black black columns (first + n) 1 stride) (take s b)) (one-mul stride) ∙ one_row (first + n) (take stride b) (omega (arith, length-take stride b)))
      (ap (λ (s : ℕ). blackened (band_black black columns first n stride) (drop s b)) (one-mul stride) ∙ rows_laid first n (drop stride b) h)
