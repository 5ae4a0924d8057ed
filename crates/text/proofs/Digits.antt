-- What digits read as: one digit more at the end, and then all that `last_digits` gives.
use Prim.Native.Nat.{ℕ, zero, suc, ◌+◌, ◌-◌, ◌*◌, ◌/◌, ◌%◌, ◌^◌, ◌≤◌, ◌<◌}
use native.Mathlib.Nat.{div-lt_self, pow-suc}
use native.Mathlib.Numerals.{add-one}
use native.Mathlib.Omega.{arith}
use mathlib.Core.Path.{◌≡◌, refl, ap, ◌∙◌}
use mathlib.Core.Bool.{Bool, true, false}
use mathlib.Core.List.{List, [], ◌∷◌, ◌++◌}
use lib.Dec.{ltb}
use lib.ListN.{length, get_or, length-append, get_or-append}
use borrow.Author.Tests.{ltb-true, ltb-false}
use Rattle.text.specs.Decimal.{digit, last_digits}
use Rattle.text.specs.Theorems.{reads_as, Reads}
use Rattle.text.proofs.Decimal.{one_digit, digit_more}

-- ---- one digit more at the end: all before it count ten times as much
read_more : (l : List ℕ) (c : ℕ) → reads_as (l ++ (c ∷ [])) ≡ 10 * reads_as l + (c - 48)
read_more [] c = omega arith
read_more (x ∷ l) c =
    let n : length (l ++ (c ∷ [])) ≡ suc (length l) = length-append l (c ∷ []) ∙ add-one (length l) in
    ap (λ (p : ℕ). (x - 48) * p + reads_as (l ++ (c ∷ []))) (ap (λ (k : ℕ). 10 ^ k) n ∙ pow-suc 10 (length l))
    ∙ tenfold (x - 48) (10 ^ length l) (reads_as (l ++ (c ∷ []))) (reads_as l) (c - 48) (read_more l c)
  where
    tenfold : (a p r s q : ℕ) → r ≡ 10 * s + q → a * (p * 10) + r ≡ 10 * (a * p + s) + q
    tenfold a p r s q h = omega arith

-- a list of digits
abbrev AreDigits : List ℕ → Type 0
AreDigits l = (i : ℕ) → i < length l → (48 ≤ get_or l i 0) × (get_or l i 0 ≤ 57)

digits_more : (l : List ℕ) (d : ℕ) → d < 10 → AreDigits l → AreDigits (l ++ (digit d ∷ []))
digits_more [] d h a zero k = (omega arith, omega arith)
digits_more [] d h a (suc i) k = absurd (omega arith)
digits_more (x ∷ l) d h a zero k = a 0 (omega arith)
digits_more (x ∷ l) d h a (suc i) k = digits_more l d h (λ j m. a (suc j) (omega arith)) i (omega arith)

-- ---- all digits of a number; the first is 0 for the number 0 alone
record Digits (l : List ℕ) (n : ℕ) : Type 0 where
  some : 1 ≤ length l
  digits : AreDigits l
  value : reads_as l ≡ n
  zero_first : get_or l 0 0 ≡ 48 → n ≡ 0

one_read : (n : ℕ) → n < 10 → Digits (digit n ∷ []) n
one_read n h = record { some = omega arith; digits = digits_more [] n h (λ i k. absurd (omega arith)); value = omega arith; zero_first = λ e. omega arith }

more_read : (l : List ℕ) (n : ℕ) → 10 ≤ n → Digits l (n / 10) → Digits (l ++ (digit (n % 10) ∷ [])) n
more_read l n h d = record {
  some = omega (arith, length-append l (digit (n % 10) ∷ []));
  digits = digits_more l (n % 10) (omega arith) d.digits;
  value = read_more l (digit (n % 10)) ∙ omega (arith, d.value);
  zero_first = λ e. absurd (omega (arith, d.zero_first (first e)));
}
  where
    first : get_or (l ++ (digit (n % 10) ∷ [])) 0 0 ≡ 48 → get_or l 0 0 ≡ 48
    first e = rw (get_or-append l (digit (n % 10) ∷ []) 0 0 d.some) at e

all_read : (f n : ℕ) → n < f → Digits (last_digits f n) n
all_read zero n h = absurd (omega arith)
all_read (suc f) n h = go (ltb n 10) refl (all_read f (n / 10))
  where
    go : (t : Bool) → ltb n 10 ≡ t → (n / 10 < f → Digits (last_digits f (n / 10)) (n / 10)) → Digits (last_digits (suc f) n) n
    go true e r = let s = ltb-true n 10 e in rw (one_digit f n s) (one_read n s)
    go false e r =
        let s : 10 ≤ n = ltb-false n 10 e in
        let less : n / 10 < f = omega (arith, div-lt_self {n = n} {k = 10} (omega arith) (omega arith)) in
        rw (digit_more f n s) (more_read (last_digits f (n / 10)) n s (r less))

-- a first digit 0 is the number's only one
alone : (n : ℕ) → n ≡ 0 → length (last_digits (suc n) n) ≡ 1
alone n e = ap length (one_digit n n (omega arith))

pub digits_read : (n : ℕ) → Reads (last_digits (suc n) n) n
digits_read n =
    let d = all_read (suc n) n (omega arith) in
    record { some = d.some; digits = d.digits; value = d.value; no_leading_zero = λ e. alone n (d.zero_first e) }
