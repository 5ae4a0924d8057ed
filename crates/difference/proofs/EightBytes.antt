-- The columns of a word that are apart. A word is put together from bytes, the first lowest, so its ones are theirs together.
use Prim.Native.Nat.{ℕ, ◌+◌, ◌*◌, ◌^◌, ◌<◌}
use native.Mathlib.Nat.{add_comm, mul_comm}
use native.Mathlib.Omega.{arith}
use mathlib.Core.Path.{◌≡◌, sym, ap, ap₂, ◌∙◌}
use mathlib.Core.List.{List}
use lib.Bits.{bit_xor, xor_block, xor_lt}
use lib.Count.{ones, ones_cat}
use lib.ListN.{get_or}
use Rattle.wire.specs.Read.{four_at, number_at}
use Rattle.difference.specs.Apart.{apart}
use Rattle.difference.specs.Code.{differing_from}
use Rattle.difference.proofs.Counting.{count_ext, count_add}
use Rattle.difference.proofs.OneByte.{Small, byte_columns}

-- four bytes make a number below 2 ^ 32
pub four_small : (s : List ℕ) → Small s → (at : ℕ) → four_at s at < 2 ^ 32
four_small s h at = omega (arith, h at, h (at + 1), h (at + 2), h (at + 3))

-- ---- the ones of a number that is put together from two: w lowest bits, and the rest
lowest_last : (w p P : ℕ) → p + 2 ^ w * P ≡ P * 2 ^ w + p
lowest_last w p P = add_comm p (2 ^ w * P) ∙ ap (λ (v : ℕ). v + p) (mul_comm (2 ^ w) P)

joined : (w p q P Q : ℕ) → p < 2 ^ w → q < 2 ^ w → ones (bit_xor (p + 2 ^ w * P) (q + 2 ^ w * Q)) ≡ ones (bit_xor p q) + ones (bit_xor P Q)
joined w p q P Q hp hq =
    ap₂ (λ (x y : ℕ). ones (bit_xor x y)) (lowest_last w p P) (lowest_last w q Q)
    ∙ ap ones (xor_block w P Q p q hp hq)
    ∙ ones_cat w (bit_xor P Q) (bit_xor p q) (xor_lt w p q hp hq)
    ∙ add_comm (ones (bit_xor P Q)) (ones (bit_xor p q))

module _ (a b : List ℕ) where
  -- columns after columns
  pub columns_after : (first next m n : ℕ) → first + m ≡ next → differing_from a b first m + differing_from a b next n ≡ differing_from a b first (m + n)
  columns_after first next m n e =
      ap (λ (v : ℕ). differing_from a b first m + v) (count_ext _ _ n (λ j _. ap (apart a b) (place j)))
      ∙ sym (count_add (λ j. apart a b (first + j)) m n)
    where
      place : (j : ℕ) → next + j ≡ first + (m + j)
      place j = omega arith

  -- two numbers that count columns, put together
  both_columns : (w first next n p q P Q : ℕ) → p < 2 ^ w → q < 2 ^ w → first + w ≡ next → ones (bit_xor p q) ≡ differing_from a b first w →
      ones (bit_xor P Q) ≡ differing_from a b next n → ones (bit_xor (p + 2 ^ w * P) (q + 2 ^ w * Q)) ≡ differing_from a b first (w + n)
  both_columns w first next n p q P Q hp hq e low high = joined w p q P Q hp hq ∙ ap₂ ◌+◌ low high ∙ columns_after first next w n e

  module _ (ha : Small a) (hb : Small b) where
    -- a byte before a number whose columns come after it
    byte_first : (k n P Q : ℕ) → ones (bit_xor P Q) ≡ differing_from a b (8 * (k + 1)) n →
        ones (bit_xor (get_or a k 0 + 256 * P) (get_or b k 0 + 256 * Q)) ≡ differing_from a b (8 * k) (8 + n)
    byte_first k n P Q h =
        both_columns 8 (8 * k) (8 * (k + 1)) n (get_or a k 0) (get_or b k 0) P Q (ha k) (hb k) (omega arith) (byte_columns a b k (ha k) (hb k)) h

    -- two bytes, four and eight
    two_columns : (k m : ℕ) → m ≡ k + 1 → ones (bit_xor (get_or a k 0 + 256 * get_or a m 0) (get_or b k 0 + 256 * get_or b m 0)) ≡ differing_from a b (8 * k) 16
    two_columns k m e =
        byte_first k 8 (get_or a m 0) (get_or b m 0) (byte_columns a b m (ha m) (hb m) ∙ ap (λ (i : ℕ). differing_from a b (8 * i) 8) e)

    four_columns : (at : ℕ) → ones (bit_xor (four_at a at) (four_at b at)) ≡ differing_from a b (8 * at) 32
    four_columns at =
        byte_first at 24 _ _
        (byte_first (at + 1) 16 _ _ (two_columns (at + 2) (at + 3) (omega arith) ∙ ap (λ (i : ℕ). differing_from a b (8 * i) 16) next))
      where
        next : at + 2 ≡ at + 1 + 1
        next = omega arith

    pub word_columns : (at : ℕ) → ones (bit_xor (number_at a at) (number_at b at)) ≡ differing_from a b (8 * at) 64
    word_columns at =
        both_columns 32 (8 * at) (8 * (at + 4)) 32 (four_at a at) (four_at b at) (four_at a (at + 4)) (four_at b (at + 4)) (four_small a ha at) (four_small b hb at) (omega arith)
        (four_columns at) (four_columns (at + 4))
