-- The claims of specs/Theorems.antt, each under its name there in small letters.
use Prim.Native.Nat.{ℕ, zero, suc, ◌+◌, ◌*◌, ◌^◌, ◌≤◌, ◌<◌}
use mathlib.Core.Path.{◌≡◌, refl, sym, ap, ◌∙◌, subst}
use mathlib.Core.Bool.{Bool, true, false, cond}
use mathlib.Core.List.{List, [], ◌∷◌}
use native.Mathlib.Omega.{arith}
use borrow.Author.Tests.{ltb-true, ltb-false}
use lib.Dec.{ltb, le→leb, lt→ltb}
use lib.ListN.{length, get_or}
use lib.IntN.{ℤ, pos, neg_ℤ, ◌+ℤ◌, ◌-ℤ◌, ◌*ℤ◌}
use lib.Signed.{le_z_yes, lt_z_yes}
use Rattle.integers.specs.Orders.{◌≼◌, ◌≺◌}
use Rattle.integers.proofs.Ring.{ring, reify}
use Rattle.wire.specs.Read.{signed, entries_of, four_at}
use Rattle.wire.specs.Write.{word_bytes}
use Rattle.wire.specs.Theorems.{AreBytes, TwosComplement, four_count, EntriesAre, WordsAre}
use Rattle.wire.proofs.Entries.{entries_length, entry_at}
use Rattle.wire.proofs.Words.{words_length, word_low, word_high}

-- ---- two's complement
-- a number below 2^31 stands for itself
self : (n : ℕ) → n < 2 ^ 31 → TwosComplement n (pos n)
self n h = record {
  least = low (pos n) (le_z_yes (le→leb 0 n (omega arith)));
  most = lt_z_yes (lt→ltb n (2 ^ 31) h);
  turns = pos 0;
  same = none (pos n);
}
  where
    low : (x : ℤ) → pos 0 ≼ x → neg_ℤ (pos (2 ^ 31)) ≼ x
    low = ring 1 _ λ ρ. simp (reify, ρ) (omega arith)

    none : (x : ℤ) → x +ℤ pos 0 *ℤ pos (2 ^ 32) ≡ x
    none = ring 1 _ λ ρ. simp (reify, ρ) (omega arith)

-- a greater one stands for the number 2^32 below it
below : (n : ℕ) → 2 ^ 31 ≤ n → n < 2 ^ 32 → TwosComplement n (pos n -ℤ pos (2 ^ 32))
below n h k = record {
  least = low (pos n) (le_z_yes (le→leb (2 ^ 31) n h));
  most = high (pos n) (lt_z_yes (lt→ltb n (2 ^ 32) k));
  turns = pos 1;
  same = once (pos n);
}
  where
    low : (x : ℤ) → pos (2 ^ 31) ≼ x → neg_ℤ (pos (2 ^ 31)) ≼ x -ℤ pos (2 ^ 32)
    low = ring 1 _ λ ρ. simp (reify, ρ) (omega arith)

    high : (x : ℤ) → x ≺ pos (2 ^ 32) → x -ℤ pos (2 ^ 32) ≺ pos (2 ^ 31)
    high = ring 1 _ λ ρ. simp (reify, ρ) (omega arith)

    once : (x : ℤ) → x -ℤ pos (2 ^ 32) +ℤ pos 1 *ℤ pos (2 ^ 32) ≡ x
    once = ring 1 _ λ ρ. simp (reify, ρ) (omega arith)

signed_is : (n : ℕ) → n < 2 ^ 32 → TwosComplement n (signed n)
signed_is n h = go (ltb n (2 ^ 31)) refl
  where
    go : (t : Bool) → ltb n (2 ^ 31) ≡ t → TwosComplement n (cond t (pos n) (pos n -ℤ pos (2 ^ 32)))
    go true e = self n (ltb-true n (2 ^ 31) e)
    go false e = below n (ltb-false n (2 ^ 31) e) h

-- two numbers between -2^31 and 2^31 that differ by a multiple of 2^32 are one
one_number : {n : ℕ} {z w : ℤ} → TwosComplement n z → TwosComplement n w → z ≡ w
one_number {n} {z} {w} a b = step z w a.turns b.turns a.least a.most b.least b.most (a.same ∙ sym b.same)
  where
    step : (z w t u : ℤ) → neg_ℤ (pos (2 ^ 31)) ≼ z → z ≺ pos (2 ^ 31) → neg_ℤ (pos (2 ^ 31)) ≼ w → w ≺ pos (2 ^ 31) →
        z +ℤ t *ℤ pos (2 ^ 32) ≡ w +ℤ u *ℤ pos (2 ^ 32) → z ≡ w
    step = ring 4 _ λ ρ. simp (reify, ρ) (omega arith)

-- ---- the coordinates of a path
module _ (l : List ℕ) (n : ℕ) (small : AreBytes l) (long : length l ≡ 4 * n) (k : ℕ) (h : k < n) where
  count_small : four_count l k < 2 ^ 32
  count_small =
      let a = small (4 * k) (omega arith) in
      let b = small (4 * k + 1) (omega arith) in
      let c = small (4 * k + 2) (omega arith) in
      let d = small (4 * k + 3) (omega arith) in
      omega arith

  -- the definition multiplies by 256 three times over, the claim by the powers
  entry_count : get_or (entries_of l) k (pos 0) ≡ signed (four_count l k)
  entry_count =
      let powers : four_at l (4 * k) ≡ four_count l k = omega arith in
      entry_at l k (omega arith) ∙ ap (λ (m : ℕ). signed m) powers

  entry_value : TwosComplement (four_count l k) (get_or (entries_of l) k (pos 0))
  entry_value = subst (TwosComplement (four_count l k)) (sym entry_count) (signed_is (four_count l k) count_small)

pub entries_are : EntriesAre
entries_are l n small long = record {
  four_each = omega (arith, entries_length l);
  value = λ k h. entry_value l n small long k h;
  only = λ k h z t. one_number t (entry_value l n small long k h);
}

-- ---- numbers of two bytes
-- a number below 65,536 has two bytes, and both are below 256
words_small : (l : List ℕ) → ((k : ℕ) → k < length l → get_or l k 0 < 65536) → AreBytes (word_bytes l)
unfolding word_bytes
words_small [] small i h = absurd (omega arith)
words_small (x ∷ l) small zero h = omega (arith, small 0 (omega arith))
words_small (x ∷ l) small (suc zero) h = omega (arith, small 0 (omega arith))
words_small (x ∷ l) small (suc (suc i)) h = words_small l (λ k m. small (suc k) (omega arith)) i (omega arith)

pub words_are : WordsAre
words_are l small = record {
  two_each = words_length l;
  bytes_all = words_small l small;
  value = λ k h. omega (arith, word_low l k h, word_high l k h);
}
