-- The columns of one byte that are apart: the ones of the exclusive or of the two rows' bytes, the leftmost column the highest bit.
use Prim.Native.Nat.{ℕ, zero, suc, ◌+◌, ◌-◌, ◌*◌, ◌/◌, ◌%◌, ◌^◌, ◌<◌}
use native.Mathlib.Nat.{div-one}
use native.Mathlib.Omega.{arith}
use native.Mathlib.Decide.{dec_lt}
use mathlib.Core.Path.{◌≡◌, refl, sym, ap, ◌∙◌}
use mathlib.Core.Logic.{◌↔◌, ◌⊎◌, inl, inr}
use mathlib.Core.Bool.{Bool, true, false, cond, xor}
use mathlib.Core.List.{List}
use lib.Arith.{digits_mod}
use lib.Bits.{bit_xor, differ, xor_lt, xor_shr, xor_step}
use lib.Count.{ones, ones_step, ones-le}
use lib.Dec.{eqb}
use lib.ListN.{length, get_or, get_or-eq_default}
use lib.Pow.{shr-shr, shr_lt}
use Rattle.integers.proofs.Tests.{clash}
use Rattle.wire.specs.Theorems.{AreBytes}
use Rattle.bits.specs.Bits.{bit_at}
use Rattle.difference.specs.Apart.{apart}
use Rattle.difference.specs.Code.{differing_from}
use Rattle.difference.proofs.Counting.{count_none, count_more}

-- ---- a row of bytes
-- every element is a byte, and so is the 0 past the end: what a call is told of a slice of bytes
abbrev pub Small : List ℕ → Type 0
Small s = (k : ℕ) → get_or s k 0 < 256

pub all_small : (s : List ℕ) → AreBytes s → Small s
all_small s h k = elim (dec_lt k (length s)) [ yes l ↦ h k l | no l ↦ omega (arith, get_or-eq_default s 0 {n = k} (omega arith)) ]

-- ---- one bit
differ_small : (p q : ℕ) → p < 2 → q < 2 → differ p q < 2
differ_small zero q h k = k
differ_small (suc p) zero h k = h
differ_small (suc p) (suc q) h k = differ_small p q (omega arith) (omega arith)

-- a bit of the exclusive or is that of the two bits
xor_bit : (x y m : ℕ) → bit_xor x y / 2 ^ m % 2 ≡ differ (x / 2 ^ m % 2) (y / 2 ^ m % 2)
xor_bit x y m =
    let p : ℕ = x / 2 ^ m in
    let q : ℕ = y / 2 ^ m in
    ap (λ (v : ℕ). v % 2) (xor_shr x y m ∙ xor_step p q) ∙ digits_mod (bit_xor (p / 2) (q / 2)) (differ_small (p % 2) (q % 2) (omega arith) (omega arith))

-- it is 1 where one of the two is black and the other not
bits_apart : (p q : ℕ) → p < 2 → q < 2 → cond (xor (eqb p 1) (eqb q 1)) 1 0 ≡ differ p q
unfolding xor
bits_apart zero zero h k = refl
bits_apart zero (suc zero) h k = refl
bits_apart zero (suc (suc q)) h k = absurd (omega arith)
bits_apart (suc zero) zero h k = refl
bits_apart (suc zero) (suc zero) h k = refl
bits_apart (suc zero) (suc (suc q)) h k = absurd (omega arith)
bits_apart (suc (suc p)) q h k = absurd (omega arith)

-- what two tests are that differ
pub xor_one : (t u : Bool) → (xor t u ≡ true) ↔ (((t ≡ true) × (u ≡ false)) ⊎ ((t ≡ false) × (u ≡ true)))
unfolding xor
xor_one true true = ((λ e. absurd (clash e refl)), λ h. elim h [ inl k ↦ absurd (clash refl k.1) | inr k ↦ absurd (clash refl k.0) ])
xor_one true false = ((λ _. inl (refl, refl)), λ _. refl)
xor_one false true = ((λ _. inr (refl, refl)), λ _. refl)
xor_one false false = ((λ e. absurd (clash e refl)), λ h. elim h [ inl k ↦ absurd (clash k.0 refl) | inr k ↦ absurd (clash k.1 refl) ])

-- a row is not apart from itself
pub xor_same : (t : Bool) → xor t t ≡ false
unfolding xor
xor_same true = refl
xor_same false = refl

-- ---- a byte's columns
module _ (a b : List ℕ) (k : ℕ) where
  abbrev byte_xor : ℕ
  byte_xor = bit_xor (get_or a k 0) (get_or b k 0)

  -- column 8 k + j, which has s columns of its byte after it
  at_column : (j s : ℕ) → j + s ≡ 7 → cond (apart a b (8 * k + j)) 1 0 ≡ byte_xor / 2 ^ s % 2
  at_column j s e =
      let q : (8 * k + j) / 8 ≡ k = omega arith in
      let r : 7 - (8 * k + j) % 8 ≡ s = omega arith in
      rw (q, r) (bits_apart (get_or a k 0 / 2 ^ s % 2) (get_or b k 0 / 2 ^ s % 2) (omega arith) (omega arith) ∙ sym (xor_bit (get_or a k 0) (get_or b k 0) s))

  module _ (ha : get_or a k 0 < 256) (hb : get_or b k 0 < 256) where
    pub byte_small : byte_xor < 2 ^ 8
    byte_small = xor_lt 8 (get_or a k 0) (get_or b k 0) ha hb

    -- the n leftmost, where the s lowest bits are left out: each column more is a bit less left out
    pub leftmost_columns : (n s : ℕ) → n + s ≡ 8 → ones (byte_xor / 2 ^ s) ≡ differing_from a b (8 * k) n
    leftmost_columns zero s e =
        let none : ones (byte_xor / 2 ^ 8) ≡ 0 = omega (arith, ones-le 0 (byte_xor / 2 ^ 8) (shr_lt 0 8 byte_small)) in
        let all : s ≡ 8 = omega arith in
        ap (λ (m : ℕ). ones (byte_xor / 2 ^ m)) all ∙ none ∙ sym (count_none (λ j. apart a b (8 * k + j)))
    leftmost_columns (suc n) s e =
        omega (
          arith,
          ones_step (byte_xor / 2 ^ s),
          ap ones (shr-shr byte_xor s 1),
          leftmost_columns n (s + 1) (omega arith),
          at_column n s (omega arith),
          count_more (λ j. apart a b (8 * k + j)) n,
        )

    -- all eight
    pub byte_columns : ones byte_xor ≡ differing_from a b (8 * k) 8
    byte_columns = ap ones (sym (div-one byte_xor)) ∙ leftmost_columns 8 0 (omega arith)

-- no column of a byte that both rows have is apart
pub same_byte : (a b : List ℕ) (k x : ℕ) → get_or a k 0 ≡ get_or b k 0 → x / 8 ≡ k → apart a b x ≡ false
same_byte a b k x e q =
    let same : get_or a (x / 8) 0 ≡ get_or b (x / 8) 0 = ap (λ (i : ℕ). get_or a i 0) q ∙ e ∙ sym (ap (λ (i : ℕ). get_or b i 0) q) in
    ap (λ (v : ℕ). xor (eqb (v / 2 ^ (7 - x % 8) % 2) 1) (bit_at b x)) same ∙ xor_same (bit_at b x)
