-- Reading a text from a place on: its digits, and whether it starts with certain bytes.
use Prim.Native.Nat.{ℕ, zero, suc, ◌+◌, ◌-◌, ◌*◌, ◌^◌, ◌≤◌, ◌<◌, min, max}
use native.Mathlib.Nat.{pow-suc, pow-le-pow_right}
use native.Mathlib.Omega.{arith}
use mathlib.Core.Path.{◌≡◌, refl, ap, ap₂, ◌∙◌}
use mathlib.Core.Bool.{Bool, true, false, ◌&&◌}
use mathlib.Core.List.{List, [], ◌∷◌, ◌++◌}
use lib.Dec.{leb, eqb}
use lib.ListN.{length, get_or, drop, drop_of_length-le}
use lib.Seq.{drop-cons}
use borrow.Author.Tests.{leb-true, leb-false, eq-eqb, eqb-true}
use Rattle.std.specs.List.{starts_with as std_starts_with}
use Rattle.integers.proofs.Tests.{and_both}
use Rattle.limits.proofs.Sizes.{within_iff}
use Rattle.text.specs.Theorems.{reads_as}
use Rattle.pbm.specs.declared.read.Number.{Number}
use Rattle.pbm.specs.Reading.{is_digit, leading, digits_at, size_at, starts_with}

-- ---- the digits at a place
none : (k : ℕ) {s : List ℕ} → s ≡ [] → leading k s ≡ []
unfolding leading
none zero e = refl
none (suc k) e = rw (e, leading)

no_more : (s : List ℕ) → leading 0 s ≡ []
unfolding leading
no_more s = refl

one_more : (k : ℕ) (s : List ℕ) (i : ℕ) → i < length s → is_digit (get_or s i 0) ≡ true → leading (suc k) (drop i s) ≡ get_or s i 0 ∷ leading k (drop (suc i) s)
unfolding leading
one_more k s i h e = rw (drop-cons s i 0 h, e, leading)

-- they stop at another character
pub digits_stop : (k : ℕ) (s : List ℕ) (i : ℕ) → i < length s → is_digit (get_or s i 0) ≡ false → leading k (drop i s) ≡ []
unfolding leading
digits_stop zero s i h e = refl
digits_stop (suc k) s i h e = rw (drop-cons s i 0 h, e, leading)

-- they end with the text, and after five
pub digits_end : (at i : ℕ) (s : List ℕ) → min (at + 5) (length s) ≤ i → leading (at + 5 - i) (drop i s) ≡ []
digits_end at i s h = go (leb (length s) i) refl
  where
    go : (b : Bool) → leb (length s) i ≡ b → leading (at + 5 - i) (drop i s) ≡ []
    go true e = none (at + 5 - i) (drop_of_length-le s (leb-true (length s) i e))
    go false e = let l = leb-false (length s) i e in let z : at + 5 - i ≡ 0 = omega arith in ap (λ (k : ℕ). leading k (drop i s)) z ∙ no_more (drop i s)

-- a digit, and those behind it
pub digits_more : (at i : ℕ) (s : List ℕ) → i < min (at + 5) (length s) → is_digit (get_or s i 0) ≡ true →
    leading (at + 5 - i) (drop i s) ≡ get_or s i 0 ∷ leading (at + 5 - suc i) (drop (suc i) s)
digits_more at i s h e =
    let k : at + 5 - i ≡ suc (at + 5 - suc i) = omega arith in
    ap (λ (n : ℕ). leading n (drop i s)) k ∙ one_more (at + 5 - suc i) s i (omega arith) e

-- they are as few as asked
pub digits_few : (k : ℕ) (s : List ℕ) → length (leading k s) ≤ k
unfolding leading
digits_few zero s = omega arith
digits_few (suc k) [] = omega arith
digits_few (suc k) (x ∷ s) = go (is_digit x) refl (digits_few k s)
  where
    go : (b : Bool) → is_digit x ≡ b → length (leading k s) ≤ k → length (leading (suc k) (x ∷ s)) ≤ suc k
    go true e h = rw (e, leading) (omega arith)
    go false e h = rw (e, leading) (omega arith)

-- ---- what is read at last, where `value` was read up to index i and the digits l follow
abbrev pub told : ℕ → ℕ → List ℕ → Number
told value i l = record { value = value * 10 ^ length l + reads_as l; end = i + length l }

numbers : {a a' b b' : ℕ} → a ≡ a' → b ≡ b' → ◌≡◌ {A = Number} (record { value = a; end = b }) (record { value = a'; end = b' })
numbers e f = ap₂ (λ (a b : ℕ). record { value = a; end = b }) e f

pub told_first : (at : ℕ) (s : List ℕ) → size_at at s ≡ told 0 at (digits_at at s)
told_first at s = numbers (omega arith) refl

pub told_last : (value i : ℕ) {l : List ℕ} → l ≡ [] → told value i l ≡ record { value = value; end = i }
told_last value i e = ap (told value i) e ∙ numbers (omega arith) (omega arith)

-- `value` has been read of the digits from `at` on, up to index i
pub record SoFar (text : List ℕ) (at value i : ℕ) : Type 0 where
  pub from : at ≤ i
  pub few : i ≤ max at (min (at + 5) (length text))
  pub small : value < 10 ^ (i - at)
  pub same : size_at at text ≡ told value i (leading (at + 5 - i) (drop i text))

-- a digit more counts all before it ten times
pub told_more : (value i x : ℕ) (l : List ℕ) → told value i (x ∷ l) ≡ told (10 * value + (x - 48)) (suc i) l
told_more value i x l =
    numbers
    (ap (λ (p : ℕ). value * p + ((x - 48) * 10 ^ length l + reads_as l)) (pow-suc 10 (length l)) ∙ tenfold value (x - 48) (10 ^ length l) (reads_as l))
    (omega arith)
  where
    tenfold : (v q p r : ℕ) → v * (p * 10) + (q * p + r) ≡ (10 * v + q) * p + r
    tenfold v q p r = omega arith

-- ---- how much digits count: k of them less than 10 to the power k
pub digit_low : (x : ℕ) → is_digit x ≡ true → 48 ≤ x
digit_low x e = ((within_iff x 48 57).0 e).0

pub digit_high : (x : ℕ) → is_digit x ≡ true → x ≤ 57
digit_high x e = ((within_iff x 48 57).0 e).1

pub few_so_far : (k v : ℕ) → k ≤ 4 → v < 10 ^ k → v < 100000
few_so_far k v h l = omega (arith, pow-le-pow_right {n = 10} (omega arith) h)

pub one_digit_more : (k v x : ℕ) → v < 10 ^ k → is_digit x ≡ true → 10 * v + (x - 48) < 10 ^ suc k
one_digit_more k v x l e = omega (arith, pow-suc 10 k, digit_high x e)

-- ---- the bytes at the start of a text
-- the library's test is this one
pub starts_is : (h s : List ℕ) → std_starts_with eqb s h ≡ starts_with h s
unfolding starts_with
starts_is [] s = refl
starts_is (x ∷ h) [] = refl
starts_is (x ∷ h) (y ∷ s) = ap₂ ◌&&◌ (grind arith) (starts_is h s)

-- a text starts with what stands before its rest, and only so
pub starts_here : (h r : List ℕ) → starts_with h (h ++ r) ≡ true
unfolding starts_with
starts_here [] r = refl
starts_here (x ∷ h) r = rw (eq-eqb x x refl, starts_with) (starts_here h r)

pub starts_rest : (h s : List ℕ) → starts_with h s ≡ true → s ≡ h ++ drop (length h) s
unfolding starts_with
starts_rest [] s e = refl
starts_rest (x ∷ h) [] e = absurd (let z : ◌≡◌ {A = ℕ} 0 1 = cc in omega arith)
starts_rest (x ∷ h) (y ∷ s) e =
    let b = and_both (eqb y x) (starts_with h s) e in
    ap₂ (λ (c : ℕ) (t : List ℕ). c ∷ t) (eqb-true y x b.0) (starts_rest h s b.1)
