-- The bytes of a number, followed: the scanner keeps its value for the axis.
use Prim.Native.Nat.{ℕ, suc, ◌+◌, ◌*◌, ◌^◌, ◌≤◌, ◌<◌}
use native.Mathlib.Omega.{arith}
use native.Mathlib.Numerals.{add-one}
use native.Mathlib.Nat.{lt_of_lt_of_le, pow-le-pow_right}
use mathlib.Core.Path.{◌≡◌, refl, ap, subst}
use mathlib.Core.Bool.{Bool, true, cond}
use mathlib.Core.List.{List, [], ◌∷◌, ◌++◌}
use lib.IntN.{ℤ, pos, neg_ℤ}
use borrow.Author.Tests.{le-leb, lt-ltb, ne_eqb}
use Rattle.integers.proofs.Tests.{and_true}
use Rattle.text.specs.Ascii.{ascii}
use Rattle.scan.specs.declared.Axis as axis·
use Rattle.scan.specs.declared.Axis.TheVariants.{X, Y}
use Rattle.scan.specs.declared.Sign as sign·
use Rattle.scan.specs.declared.Sign.TheVariants.{Plus, Minus}
use Rattle.scan.specs.declared.Mode.{Mode}
use Rattle.scan.specs.declared.Mode.TheVariants as mode·
use Rattle.scan.specs.declared.Part.TheVariants as part·
use Rattle.scan.specs.Next.{same_axis, next, is_digit, digit_of}
use Rattle.scan.specs.Scanner.{nine, signed, x_of, y_of}
use Rattle.language.specs.Grammar.{Digits, digit, one, then, Number, plain, plus, minus}
use Rattle.language.proofs.Inside.{is_inside}
use Rattle.language.proofs.Walks.{State, state, entered, Goes, goes_append, goes_one}

-- ---- a digit
pub is_digit_lem : (d : ℕ) → d ≤ 9 → is_digit (48 + d) ≡ true
is_digit_lem d h = and_true _ _ (le-leb 48 (48 + d) (omega arith)) (le-leb (48 + d) 57 (omega arith))

pub digit_of_lem : (d : ℕ) → digit_of (48 + d) ≡ d
digit_of_lem d = omega arith

-- so many digits stand for less than that power of ten; below nine of them one more fits
value_below : {l : List ℕ} {n v : ℕ} → Digits l n v → v < 10 ^ n
value_below (one (digit d h)) = omega arith
value_below (then {n = n} {v} r (digit d h)) = let i = value_below r in omega (arith, i)

below : (n k v : ℕ) → n ≤ k → v < 10 ^ n → v < 10 ^ k
below n k v h i = lt_of_lt_of_le i (pow-le-pow_right {n = 10} (omega arith) {i = n} {j = k} h)

-- ---- what a digit makes of the modes that it may come in
digit_next : (a : axis·.Axis) (s : sign·.Sign) (n v d : ℕ) → n < 9 → v < 100000000 → d ≤ 9 → next (mode·.Number a s n v) (48 + d) ≡ mode·.Number a s (suc n) (10 * v + d)
digit_next a s n v d hn hv hd = simp (is_digit_lem d hd, lt-ltb n 9 hn, lt-ltb v 100000000 hv, digit_of_lem d, add-one)

digit_signed : (a : axis·.Axis) (s : sign·.Sign) (d : ℕ) → d ≤ 9 → next (mode·.Inside (part·.Signed a s)) (48 + d) ≡ mode·.Number a s 1 d
digit_signed a s d h = simp (is_digit_lem d h, digit_of_lem d)

digit_first : (a : axis·.Axis) (d : ℕ) → d ≤ 9 → next (mode·.Inside (part·.Axis a)) (48 + d) ≡ mode·.Number a Plus 1 d
digit_first a d h = simp (ne_eqb (48 + d) 43 (λ e. omega arith), ne_eqb (48 + d) 45 (λ e. omega arith), is_digit_lem d h, digit_of_lem d)

-- ---- digits
-- a number is kept in the place of the digits before
again : (a : axis·.Axis) (s : sign·.Sign) (n v m w : ℕ) (x y : ℤ) → entered (mode·.Number a s m w) (x_of (mode·.Number a s n v) x) (y_of (mode·.Number a s n v) y) ≡ entered (mode·.Number a s m w) x y
again X s n v m w x y = refl
again Y s n v m w x y = refl

digits_go : (m : Mode) (a : axis·.Axis) (s : sign·.Sign) (x y : ℤ) → ((d : ℕ) → d ≤ 9 → next m (48 + d) ≡ mode·.Number a s 1 d) →
    {l : List ℕ} {n v : ℕ} → Digits l n v → n ≤ 9 → Goes (state m x y) l (entered (mode·.Number a s n v) x y)
digits_go m a s x y f (one (digit d h)) i = goes_one x y (48 + d) (f d h) refl
digits_go m a s x y f (then {l} {n} {v} ds (digit d h)) i =
    let few = below n 8 v (omega arith) (value_below ds) in
    let before = digits_go m a s x y f ds (omega arith) in
    let here = goes_one (x_of (mode·.Number a s n v) x) (y_of (mode·.Number a s n v) y) (48 + d) (digit_next a s n v d (omega arith) (omega arith) h) refl in
    subst (λ (t : State). Goes (state m x y) (l ++ ((48 + d) ∷ [])) t) (again a s n v (suc n) (10 * v + d) x y) (goes_append before here)

-- ---- a number
-- a value with its sign
abbrev whole_of : sign·.Sign → ℕ → ℤ
whole_of Minus v = neg_ℤ (pos v)
whole_of Plus v = pos v

-- nine digits are kept whole
signed_whole : (s : sign·.Sign) (n v : ℕ) → n ≤ 9 → v < 10 ^ n → signed s v ≡ whole_of s v
signed_whole s n v h i = go s
  where
    few : nine v ≡ v
    few = let small = below n 9 v h i in ap (λ (t : Bool). cond t v 0) (le-leb v 999999999 (omega arith))

    go : (s : sign·.Sign) → signed s v ≡ whole_of s v
    go Minus = ap (λ (w : ℕ). neg_ℤ (pos w)) few
    go Plus = ap pos few

-- from m, behind the bytes l, the scanner is in the mode of a number of the axis, and has its value
pub record Numbered (m : Mode) (a : axis·.Axis) (x y : ℤ) (l : List ℕ) (z : ℤ) : Type 0 where
  pub sign : sign·.Sign
  pub count : ℕ
  pub value : ℕ
  pub numbered : Goes (state m x y) l (state (mode·.Number a sign count value) (cond (same_axis a X) z x) (cond (same_axis a Y) z y))

numbered_by : (m : Mode) (a : axis·.Axis) (s : sign·.Sign) (x y : ℤ) → ((d : ℕ) → d ≤ 9 → next m (48 + d) ≡ mode·.Number a s 1 d) →
    {l : List ℕ} {n v : ℕ} → Digits l n v → n ≤ 9 → Numbered m a x y l (whole_of s v)
numbered_by m a s x y f {l} {n} {v} ds h =
    record {
      sign = s;
      count = n;
      value = v;
      numbered =
          subst (λ (z : ℤ). Goes (state m x y) l (state (mode·.Number a s n v) (cond (same_axis a X) z x) (cond (same_axis a Y) z y)))
          (signed_whole s n v h (value_below ds)) (digits_go m a s x y f ds h);
    }

-- a byte before it that leads to where it starts
numbered_after : {m n : Mode} {a : axis·.Axis} {x y z : ℤ} {l : List ℕ} (b : ℕ) → next m b ≡ n → is_inside n ≡ true → entered n x y ≡ state n x y → Numbered n a x y l z → Numbered m a x y (b ∷ l) z
numbered_after {m} {n} {a} {x} {y} {z} {l} b e i u h =
    record {
      sign = h.sign;
      count = h.count;
      value = h.value;
      numbered = goes_append (subst (λ (t : State). Goes (state m x y) (b ∷ []) t) u (goes_one x y b e i)) h.numbered;
    }

number_goes : (a : axis·.Axis) (x y : ℤ) {l : List ℕ} {z : ℤ} → Number l z → Numbered (mode·.Inside (part·.Axis a)) a x y l z
unfolding ascii
number_goes a x y (plain ds h) = numbered_by (mode·.Inside (part·.Axis a)) a Plus x y (digit_first a) ds h
number_goes a x y (plus ds h) = numbered_after 43 refl refl refl (numbered_by (mode·.Inside (part·.Signed a Plus)) a Plus x y (digit_signed a Plus) ds h)
number_goes a x y (minus ds h) = numbered_after 45 refl refl refl (numbered_by (mode·.Inside (part·.Signed a Minus)) a Minus x y (digit_signed a Minus) ds h)

-- the same behind the letter of the axis
pub named_goes : (m : Mode) (a : axis·.Axis) (x y : ℤ) (b : ℕ) → next m b ≡ mode·.Inside (part·.Axis a) → {l : List ℕ} {z : ℤ} → Number l z → Numbered m a x y (b ∷ l) z
named_goes m a x y b e n = numbered_after b e refl refl (number_goes a x y n)
