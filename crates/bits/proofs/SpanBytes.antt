-- A span laid over bytes: the columns that its first byte has, those of whole bytes, and those that its last byte has, one after the other.
use Prim.Native.Nat.{ℕ, ◌+◌, ◌-◌, ◌*◌, ◌/◌, ◌%◌, ◌≤◌, ◌<◌, min}
use native.Mathlib.Omega.{arith}
use native.Mathlib.Decide.{dec_le, dec_lt}
use mathlib.Core.Path.{◌≡◌, refl, sym, ap, ap₂, ◌∙◌}
use mathlib.Core.Logic.{◌⊎◌, inl, inr}
use mathlib.Core.Bool.{Bool, true, false, ◌||◌}
use mathlib.Core.List.{List}
use borrow.Author.Tests.{eq-eqb}
use lib.Bits.{bit_or, or_add_and, or_zero_r}
use lib.Dec.{eqb}
use lib.ListN.{length, get_or, set, replicate}
use borrow.Rule.Slice.PartMut.{put_mid}
use borrow.Author.Rules.{rules}
use Rattle.std.proofs.lemmas.List.{places}
use Rattle.std.proofs.lemmas.Nat.{and_mask}
use Rattle.std.proofs.lemmas.Bool.{cases_lt}
use Rattle.integers.proofs.Tests.{clash, same_test}
use Rattle.bits.specs.Bits.{bits_from, span, blackened}
use Rattle.bits.proofs.Tests.{one_of, first_of, second_of, in_span, is_in_span}
use Rattle.bits.proofs.Bytes.{bits_ext, clear_bits}
use Rattle.bits.proofs.Blackened.{same_bytes, blackened_none, blackened_byte, blackened_twice}

-- a span without columns leaves the bytes
pub span_empty : (left end : ℕ) (b : List ℕ) → end ≤ left → b ≡ blackened (span left end) b
span_empty left end b h = blackened_none (span left end) b
    (λ x l. same_test (span left end x) false (λ q. absurd (omega (arith, in_span left end x q))) (λ q. absurd (clash q refl)))

-- ---- one byte
in_byte : (k b : ℕ) → b < 8 → eqb ((8 * k + b) / 8) k ≡ true
in_byte k b h = eq-eqb ((8 * k + b) / 8) k (omega arith)

-- some columns of byte k, which no other byte has
module _ (k l e : ℕ) (few : e ≤ 8) where
  abbrev part : ℕ → Bool
  part = span (8 * k + l) (8 * k + e)

  out_of_byte : (x : ℕ) → ¬ (x / 8 ≡ k) → part x ≡ false
  out_of_byte x h = same_test (part x) false (λ q. let s = in_span (8 * k + l) (8 * k + e) x q in absurd (h (omega (arith, s.0, s.1, few)))) (λ q. absurd (clash q refl))

  pub byte_laid : (b : List ℕ) {v : ℕ} → v ≡ bits_from part (8 * k) 8 0 → set b k (bit_or (get_or b k 0) v) ≡ blackened part b
  byte_laid b v = blackened_byte part b k out_of_byte v

  -- a byte that is not there
  pub byte_past : (b : List ℕ) → length b ≤ k → b ≡ blackened part b
  byte_past b h = blackened_none part b (λ x m. out_of_byte x (λ q. omega (arith, h, m, q)))

-- ---- whole bytes
-- a byte with all eight columns laid over it has them all
all_black : (x : ℕ) → x < 256 → bit_or x 255 ≡ 255
all_black x h = let s = or_add_and x 255 in let m = and_mask x 8 in omega arith

module _ (first last : ℕ) where
  abbrev middle_of : ℕ → Bool
  middle_of = span (8 * first) (8 * last)

  -- all columns of the bytes from `first` on and before `last`, and none of any other
  whole_byte : (k : ℕ) → first ≤ k → k < last → bits_from middle_of (8 * k) 8 0 ≡ 255
  unfolding bits_from
  whole_byte k h l = bits_ext middle_of (λ _. true) 8 (8 * k) 0 0 (λ b q. is_in_span (8 * first) (8 * last) (8 * k + b) (omega arith) (omega arith))

  no_byte : (k : ℕ) → (k < first) ⊎ (last ≤ k) → bits_from middle_of (8 * k) 8 0 ≡ 0
  no_byte k h = clear_bits middle_of (8 * k) 8 (λ b q. same_test (middle_of (8 * k + b)) false
      (λ t. let s = in_span (8 * first) (8 * last) (8 * k + b) t in absurd (elim h [ inl l ↦ omega arith | inr l ↦ omega arith ])) (λ t. absurd (clash t refl)))

  -- the bytes that there are of them are filled
  pub bytes_filled : (b : List ℕ) (n : ℕ) → ((k : ℕ) → k < length b → get_or b k 0 < 256) → n ≡ min last (length b) → first < n →
      put_mid first (n - first) b (replicate (n - first) 255) ≡ blackened (span (8 * first) (8 * last)) b
  bytes_filled b n small e h = same_bytes middle_of b (put_mid first (n - first) b (replicate (n - first) 255)) (search (rules, places)) at
    where
      at : (k : ℕ) → k < length b → get_or (put_mid first (n - first) b (replicate (n - first) 255)) k 0 ≡ bit_or (get_or b k 0) (bits_from middle_of (8 * k) 8 0)
      at k l = elim (cases_lt k first) [
        | inl p ↦ (let q : get_or (put_mid first (n - first) b (replicate (n - first) 255)) k 0 ≡ get_or b k 0 = search (rules, places) in
            q ∙ sym (ap (bit_or (get_or b k 0)) (no_byte k (inl p)) ∙ or_zero_r (get_or b k 0)))
        | inr p ↦ elim (cases_lt k n) [
          | inl r ↦ (let q : get_or (put_mid first (n - first) b (replicate (n - first) 255)) k 0 ≡ 255 = search (rules, places) in
              q ∙ sym (ap (bit_or (get_or b k 0)) (whole_byte k p (omega arith)) ∙ all_black (get_or b k 0) (small k l)))
          | inr r ↦ (let q : get_or (put_mid first (n - first) b (replicate (n - first) 255)) k 0 ≡ get_or b k 0 = search (rules, places) in
              q ∙ sym (ap (bit_or (get_or b k 0)) (no_byte k (inr (omega arith))) ∙ or_zero_r (get_or b k 0)))
        ]
      ]

  -- where there are none the bytes stay
  pub bytes_absent : (b : List ℕ) → min last (length b) ≤ first → b ≡ blackened (span (8 * first) (8 * last)) b
  bytes_absent b h = blackened_none middle_of b (λ x l. same_test (middle_of x) false
      (λ t. let s = in_span (8 * first) (8 * last) x t in absurd (omega arith)) (λ t. absurd (clash t refl)))

-- ---- the span by its bytes
module _ (left end : ℕ) (h : left < end) where
  abbrev first : ℕ
  first = left / 8

  abbrev last : ℕ
  last = (end - 1) / 8

  abbrev from_left : ℕ
  from_left = 8 * first + left % 8

  abbrev to_end : ℕ
  to_end = 8 * last + ((end - 1) % 8 + 1)

  -- as far as the first byte goes
  abbrev to_next : ℕ
  to_next = 8 * first + min (end - 8 * first) 8

  -- all in one byte
  pub span_one : (b : List ℕ) → last ≤ first → blackened (span from_left to_next) b ≡ blackened (span left end) b
  span_one b l = ap₂ (λ (i j : ℕ). blackened (span i j) b) (omega arith) (omega (arith, l, h))

  abbrev head : ℕ → Bool
  head x = span from_left to_next x

  abbrev middle : ℕ → Bool
  middle x = span (8 * (first + 1)) (8 * last) x

  abbrev tail : ℕ → Bool
  tail x = span (8 * last + 0) to_end x

  -- a first byte, whole bytes and a last byte
  by_bytes : (x : ℕ) → first < last → ((head x || middle x) || tail x) ≡ span left end x
  by_bytes x l = same_test _ _
      (λ q. elim (one_of (head x || middle x) (tail x) q) [
        | inl p ↦ elim (one_of (head x) (middle x) p) [
          | inl r ↦ (let s = in_span from_left to_next x r in is_in_span left end x (omega (arith, s.0)) (omega (arith, s.1, l)))
          | inr r ↦ (let s = in_span (8 * (first + 1)) (8 * last) x r in is_in_span left end x (omega (arith, s.0)) (omega (arith, s.1)))
        ]
        | inr p ↦ (let s = in_span (8 * last + 0) to_end x p in is_in_span left end x (omega (arith, s.0, l)) (omega (arith, s.1, h)))
      ])
      (λ q. let s = in_span left end x q in elim (dec_le (x / 8) first) [
        | yes a ↦ first_of (head x || middle x) (tail x) (first_of (head x) (middle x) (is_in_span from_left to_next x (omega (arith, s.0)) (omega (arith, a, l))))
        | no a ↦ elim (dec_lt (x / 8) last) [
          | yes c ↦ first_of (head x || middle x) (tail x) (second_of (head x) (middle x) (is_in_span (8 * (first + 1)) (8 * last) x (omega (arith, a)) (omega (arith, c))))
          | no c ↦ second_of (head x || middle x) (tail x) (is_in_span (8 * last + 0) to_end x (omega (arith, c)) (omega (arith, s.1, h)))
        ]
      ])

  pub span_several : (b : List ℕ) → first < last → blackened tail (blackened middle (blackened head b)) ≡ blackened (span left end) b
  span_several b l = ap (blackened tail) (blackened_twice head middle (λ x. head x || middle x) b (λ x. refl))
      ∙ blackened_twice (λ x. head x || middle x) tail (span left end) b (λ x. by_bytes x l)
