-- "and that is the count of ones in the two rows' difference without spare bits": of the two rows as whole numbers, to which each byte more adds its eight
-- columns, and the last byte those that are left when the spare bits are taken off.
use Prim.Native.Nat.{ℕ, zero, suc, ◌+◌, ◌-◌, ◌*◌, ◌/◌, ◌%◌, ◌^◌, ◌<◌}
use native.Mathlib.Nat.{add-mul-div_right, add_comm, mul_assoc, div-one}
use native.Mathlib.Omega.{arith}
use mathlib.Core.Path.{◌≡◌, refl, sym, ap, ap₂, ◌∙◌, subst}
use mathlib.Core.List.{List}
use lib.Bits.{bit_xor, xor_block}
use lib.Count.{ones, ones_cat}
use lib.ListN.{get_or}
use lib.Pow.{pow_pos, pow-add, shr_lt}
use Rattle.bits.specs.Bits.{packed_length}
use Rattle.difference.specs.Apart.{apart, differing}
use Rattle.difference.specs.RowOnes.{number_of_row, spare_bits, row_ones}
use Rattle.difference.specs.Code.{differing_from}
use Rattle.difference.proofs.Counting.{count_none}
use Rattle.difference.proofs.OneByte.{Small, byte_small, leftmost_columns, byte_columns}
use Rattle.difference.proofs.Rows.{byte_more, rest_more}

-- the s lowest bits taken off a number that has t + s bits after p
taken_off : (p q t s : ℕ) → (p * 2 ^ (t + s) + q) / 2 ^ s ≡ p * 2 ^ t + q / 2 ^ s
taken_off p q t s =
    let e : p * 2 ^ (t + s) ≡ p * 2 ^ t * 2 ^ s = ap (λ (x : ℕ). p * x) (pow-add 2 t s) ∙ sym (mul_assoc p (2 ^ t) (2 ^ s)) in
    ap (λ (x : ℕ). x / 2 ^ s) (ap (λ (x : ℕ). x + q) e ∙ add_comm (p * 2 ^ t * 2 ^ s) q)
    ∙ add-mul-div_right q (p * 2 ^ t) (pow_pos s) ∙ add_comm (q / 2 ^ s) (p * 2 ^ t)

module _ (a b : List ℕ) (ha : Small a) (hb : Small b) where
  -- the difference of the first n bytes, and of byte n
  abbrev front : ℕ → ℕ
  front n = bit_xor (number_of_row a n) (number_of_row b n)

  abbrev byte : ℕ → ℕ
  byte n = bit_xor (get_or a n 0) (get_or b n 0)

  byte_last : (n : ℕ) → front (suc n) ≡ front n * 2 ^ 8 + byte n
  unfolding number_of_row
  byte_last n = xor_block 8 (number_of_row a n) (number_of_row b n) (get_or a n 0) (get_or b n 0) (ha n) (hb n)

  -- of whole bytes every bit is a column
  front_columns : (n : ℕ) → ones (front n) ≡ differing a b (8 * n)
  unfolding number_of_row ones
  front_columns zero = sym (count_none (apart a b))
  front_columns (suc n) =
      let next : 8 * (n + 1) ≡ 8 * suc n = omega arith in
      ap ones (byte_last n) ∙ ones_cat 8 (front n) (byte n) (byte_small a b n (ha n) (hb n))
      ∙ ap₂ ◌+◌ (front_columns n) (byte_columns a b n (ha n) (hb n)) ∙ byte_more a b n ∙ ap (differing a b) next

  -- of a last byte the t leftmost, where s are spare
  last_columns : (n t s : ℕ) → t + s ≡ 8 → ones (front (suc n) / 2 ^ s) ≡ differing a b (8 * n) + differing_from a b (8 * n) t
  last_columns n t s e =
      ap (λ (x : ℕ). ones (x / 2 ^ s)) (byte_last n ∙ ap (λ (k : ℕ). front n * 2 ^ k + byte n) (sym e))
      ∙ ap ones (taken_off (front n) (byte n) t s)
      ∙ ones_cat t (front n) (byte n / 2 ^ s) (shr_lt t s (subst (λ (k : ℕ). byte n < 2 ^ k) (sym e) (byte_small a b n (ha n) (hb n))))
      ∙ ap₂ ◌+◌ (front_columns n) (leftmost_columns a b n (ha n) (hb n) t s e)

  pub row_ones_lem : (columns : ℕ) → row_ones a b columns ≡ differing a b columns
  row_ones_lem columns = go (columns % 8) refl
    where
      -- with the bytes and the spare bits told
      told : (n s : ℕ) → packed_length columns ≡ n → spare_bits columns ≡ s → row_ones a b columns ≡ ones (front n / 2 ^ s)
      told n s e f = ap₂ (λ (m k : ℕ). ones (front m / 2 ^ k)) e f

      go : (t : ℕ) → columns % 8 ≡ t → row_ones a b columns ≡ differing a b columns
      go zero h =
          let all : 8 * (columns / 8) ≡ columns = omega arith in
          told (columns / 8) 0 (omega arith) (omega arith) ∙ ap ones (div-one (front (columns / 8))) ∙ front_columns (columns / 8) ∙ ap (differing a b) all
      go (suc t) h =
          told (suc (columns / 8)) (8 - suc t) (omega arith) (omega arith) ∙ last_columns (columns / 8) (suc t) (8 - suc t) (omega arith)
          ∙ ap (λ (k : ℕ). differing a b (8 * (columns / 8)) + differing_from a b (8 * (columns / 8)) k) (sym h) ∙ rest_more a b columns
