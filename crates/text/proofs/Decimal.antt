-- What `io::decimal` writes, the fewest digits that hold a number, is its decimal form.
use Prim.Native.Nat.{ℕ, zero, suc, ◌-◌, ◌/◌, ◌%◌, ◌^◌, ◌≤◌, ◌<◌}
use native.Mathlib.Omega.{arith}
use native.Mathlib.Nat.{mod-eq_of_lt, mod-lt, div-lt_iff_lt-mul, le-div_iff_mul-le, div-lt_self, one-le-pow, pow-le-pow_right}
use mathlib.Core.Path.{◌≡◌, refl, ap, ◌∙◌}
use mathlib.Core.Bool.{Bool, true, false}
use mathlib.Core.List.{List, [], ◌∷◌, ◌++◌}
use lib.Dec.{ltb, leb}
use lib.ListN.{length, take, length-append}
use Rattle.io.specs.Counts.{IsPrefixLen}
use borrow.Author.Tests.{lt-ltb, le-ltb, ltb-true, ltb-false, leb-true, leb-false}
use Rattle.io.specs.Digits.{hex_digit_ascii, last_digits as digits, IsDigitCount}
use Rattle.limits.specs.Sizes.{is_size}
use Rattle.limits.proofs.Sizes.{size_iff}
use Rattle.text.specs.Decimal.{digit, last_digits, decimal}

glyph_digit : (d : ℕ) → d < 10 → hex_digit_ascii d ≡ digit d
glyph_digit d h = rw (lt-ltb d 10 h)

-- a number below 10 is one digit, and any other has one digit more than its tenth
pub one_digit : (f n : ℕ) → n < 10 → last_digits (suc f) n ≡ digit n ∷ []
unfolding last_digits
one_digit f n h = rw (lt-ltb n 10 h, last_digits)

pub digit_more : (f n : ℕ) → 10 ≤ n → last_digits (suc f) n ≡ last_digits f (n / 10) ++ (digit (n % 10) ∷ [])
unfolding last_digits
digit_more f n h = rw (le-ltb n 10 h, last_digits)

-- the digits that `io::decimal` writes, k + 1 of them, where neither fewer would hold the number nor more be needed
last_digits_lem : (k n f : ℕ) → n < 10 ^ suc k → (0 < k → 10 ^ k ≤ n) → n < f → digits 10 (suc k) n ≡ last_digits f n
last_digits_lem k n zero h l b = absurd (omega arith)
last_digits_lem zero n (suc f) h l b =
    let s : n < 10 = omega arith in
    rw (mod-eq_of_lt s, glyph_digit n s, one_digit f n s)
last_digits_lem (suc k) n (suc f) h l b =
    let big : 10 ^ suc k ≤ n = l (omega arith) in
    let p : 1 ≤ 10 ^ k = one-le-pow k 10 (omega arith) in
    let s : 10 ≤ n = omega arith in
    let most : n / 10 < 10 ^ suc k = (div-lt_iff_lt-mul {k = 10} (omega arith)).1 (omega arith) in
    let least : 10 ^ k ≤ n / 10 = (le-div_iff_mul-le {k = 10} (omega arith)).1 (omega arith) in
    let less : n / 10 < f = omega (arith, div-lt_self {n = n} {k = 10} (omega arith) (omega arith)) in
    let e = last_digits_lem k (n / 10) f most (λ _. least) less in
    rw (glyph_digit (n % 10) (mod-lt n (omega arith)), digit_more f n s, e)

pub is_decimal : (n r : ℕ) → IsDigitCount 10 1 n r → digits 10 r n ≡ decimal n
is_decimal n zero h = absurd (omega arith)
is_decimal n (suc k) h = last_digits_lem k n (suc n) h.1 (λ g. least (h.2 (omega arith))) (omega arith)
  where
    least : 10 ^ (suc k - 1) ≤ n → 10 ^ k ≤ n
    least h = let e : suc k - 1 ≡ k = omega arith in rw e at h

-- what `io::decimal` promises, as one fact
pub record Written (n r : ℕ) (out : List ℕ) : Type 0 where
  pub text : take r out ≡ decimal n
  pub long : r ≡ length (decimal n)

pub written : {n r : ℕ} (out : List ℕ) → IsPrefixLen r out → IsDigitCount 10 1 n r → take r out ≡ digits 10 r n → Written n r out
written {n} {r} out k f e = let t = e ∙ is_decimal n r f in record { text = t; long = k.1 ∙ ap length t }

-- a size has five digits at most
pub size_short : (n r : ℕ) → is_size n ≡ true → IsDigitCount 10 1 n r → r ≤ 5
size_short n r h f = go (leb r 5) refl
  where
    go : (b : Bool) → leb r 5 ≡ b → r ≤ 5
    go true e = leb-true r 5 e
    go false e =
        let k : 5 < r = leb-false r 5 e in
        let l : 5 ≤ r - 1 = omega arith in
        let p : 10 ^ 5 ≤ 10 ^ (r - 1) = pow-le-pow_right {n = 10} (omega arith) l in
        let s : n ≤ 16384 = ((size_iff n).0 h).few in
        absurd (omega (arith, f.2 (omega arith)))

-- so it has in the definition
nothing : (n : ℕ) → last_digits 0 n ≡ []
unfolding last_digits
nothing n = refl

few : (k n f : ℕ) → n < 10 ^ suc k → length (last_digits f n) ≤ suc k
few k n zero h = let l = ap length (nothing n) in omega (arith, l)
few zero n (suc f) h = let s : n < 10 = omega arith in let l = ap length (one_digit f n s) in omega (arith, l)
few (suc k) n (suc f) h = go (ltb n 10) refl (few k (n / 10) f ((div-lt_iff_lt-mul {k = 10} (omega arith)).1 (omega arith)))
  where
    go : (b : Bool) → ltb n 10 ≡ b → length (last_digits f (n / 10)) ≤ suc k → length (last_digits (suc f) n) ≤ suc (suc k)
    go true e r = let l = ap length (one_digit f n (ltb-true n 10 e)) in omega (arith, l)
    go false e r = let l = ap length (digit_more f n (ltb-false n 10 e)) ∙ length-append (last_digits f (n / 10)) (digit (n % 10) ∷ []) in omega (arith, l, r)

-- a number below 100,000 has five digits at most, and a size is one of them
pub few_digits : (n : ℕ) → n < 100000 → length (decimal n) ≤ 5
few_digits n h = few 4 n (suc n) h

pub size_few : (n : ℕ) → is_size n ≡ true → length (decimal n) ≤ 5
size_few n h =
    let s : n ≤ 16384 = ((size_iff n).0 h).few in
    few_digits n (omega arith)
