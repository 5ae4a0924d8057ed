-- What may come in the modes of a number: its digits, and behind it Y or D.
use Prim.Native.Nat.{ℕ, suc, ◌+◌, ◌*◌, ◌≤◌, ◌<◌}
use native.Mathlib.Omega.{arith}
use native.Mathlib.Numerals.{add-one}
use mathlib.Core.Path.{◌≡◌, refl, subst}
use mathlib.Core.Bool.{true, ◌&&◌}
use mathlib.Core.List.{List, [], ◌∷◌, ◌++◌}
use lib.Dec.{ltb, eqb}
use lib.IntN.{ℤ, pos, neg_ℤ}
use lib.Seq.{append_snoc}
use borrow.Author.Tests.{ltb-true}
use Rattle.integers.proofs.Tests.{and_both}
use Rattle.text.specs.Ascii.{ascii}
use Rattle.scan.specs.declared.Axis as axis·
use Rattle.scan.specs.declared.Axis.TheVariants.{X, Y}
use Rattle.scan.specs.declared.Sign as sign·
use Rattle.scan.specs.declared.Sign.TheVariants.{Plus, Minus}
use Rattle.scan.specs.declared.Mode.TheVariants as mode·
use Rattle.scan.specs.declared.Part.TheVariants as part·
use Rattle.scan.specs.Next.{same_axis, pick, only}
use Rattle.language.specs.Grammar.{Digits, digit, one, then, Number, plain, plus, minus}
use Rattle.language.proofs.Found.{Found, part, never, recast, longer, step, test, byte, any_digit}

-- behind a number of the axis y: "D01*" is a way to go on, D may come, and behind X also Y
pub record Behind (y : axis·.Axis) (L : List ℕ → Type 0) : Type 0 where
  pub word : L (68 ∷ 48 ∷ 49 ∷ 42 ∷ [])
  pub plot : (l : List ℕ) → Found (mode·.Inside part·.PlotD) (λ w. L (68 ∷ w)) l
  pub axis : same_axis y X ≡ true → (l : List ℕ) → Found (mode·.Inside (part·.Axis Y)) (λ w. L (89 ∷ w)) l

-- the same words in another form
pub behind_recast : {y : axis·.Axis} {L M : List ℕ → Type 0} → ((w : List ℕ) → L w → M w) → Behind y L → Behind y M
behind_recast f h =
    record {
      word = f (68 ∷ 48 ∷ 49 ∷ 42 ∷ []) h.word;
      plot = λ l. recast (λ w. f (68 ∷ w)) (h.plot l);
      axis = λ e l. recast (λ w. f (89 ∷ w)) (h.axis e l);
    }

-- a byte behind a number that is no digit
no_digit : {y : axis·.Axis} (L : List ℕ → Type 0) → Behind y L → (b : ℕ) (l : List ℕ) →
    Found (pick (eqb b 89) (only (same_axis y X) (mode·.Inside (part·.Axis Y))) (only (eqb b 68) (mode·.Inside part·.PlotD))) (λ w. L (b ∷ w)) l
no_digit {y} L h b l = byte L 89 b l second (λ _. byte L 68 b l (h.plot l) (λ _. never (λ w. L (b ∷ w)) l))
  where
    second : Found (only (same_axis y X) (mode·.Inside (part·.Axis Y))) (λ w. L (89 ∷ w)) l
    second = test (λ w. L (89 ∷ w)) l (mode·.Inside (part·.Axis Y)) mode·.Bad (same_axis y X) (λ e. h.axis e l) (λ _. never (λ w. L (89 ∷ w)) l)

module _ (y : axis·.Axis) (m : sign·.Sign) where
  -- a digit more, where there are fewer than nine
  one_more : (L : List ℕ → Type 0) (n v : ℕ) (l : List ℕ) → (n < 9 → Found (mode·.Number y m (suc n) v) L l) →
      (t : ℕ) → Found (only (ltb n 9 && ltb t 100000000) (mode·.Number y m (n + 1) v)) L l
  one_more L n v l f t =
      test L l (mode·.Number y m (n + 1) v) mode·.Bad (ltb n 9 && ltb t 100000000)
      (λ e. rw add-one (f (ltb-true n 9 (and_both (ltb n 9) (ltb t 100000000) e).0)))
      (λ _. never L l)

  -- after the digits k of a number with which the words of L start
  digits_found : (L : List ℕ → Type 0) → ((k : List ℕ) (n v : ℕ) → Digits k n v → n ≤ 9 → Behind y (λ w. L (k ++ w))) →
      (k : List ℕ) (n v : ℕ) → Digits k n v → n ≤ 9 → (l : List ℕ) → Found (mode·.Number y m n v) (λ w. L (k ++ w)) l
  digits_found L f k n v ds h [] = part 68 (48 ∷ 49 ∷ 42 ∷ []) (f k n v ds h).word
  digits_found L f k n v ds h (b ∷ l) =
      let K : List ℕ → Type 0 = λ w. L (k ++ w) in
      longer K (mode·.Number y m n v) refl b l
      (any_digit K b l (λ d. only (ltb n 9 && ltb v 100000000) (mode·.Number y m (n + 1) (10 * v + d)))
      (λ d i _. one_more (λ w. K ((48 + d) ∷ w)) n (10 * v + d) l
      (λ few. recast (λ w p. subst L (append_snoc k (48 + d) w) p)
      (digits_found L f (k ++ ((48 + d) ∷ [])) (suc n) (10 * v + d) (then ds (digit d i)) few l))
      v)
      (no_digit K (f k n v ds h) b l))

  -- behind a sign
  signed_found : (L : List ℕ → Type 0) → ((k : List ℕ) (n v : ℕ) → Digits k n v → n ≤ 9 → Behind y (λ w. L (k ++ w))) → (l : List ℕ) → Found (mode·.Inside (part·.Signed y m)) L l
  signed_found L f =
      step L (mode·.Inside (part·.Signed y m)) refl 48 (68 ∷ 48 ∷ 49 ∷ 42 ∷ []) (f (48 ∷ []) 1 0 (one (digit 0 (omega arith))) (omega arith)).word λ b l.
      any_digit L b l (λ d. mode·.Number y m 1 d) (λ d i _. digits_found L f ((48 + d) ∷ []) 1 d (one (digit d i)) (omega arith) l) (never (λ w. L (b ∷ w)) l)

-- behind the letter of an axis
pub axis_found : (y : axis·.Axis) (L : List ℕ → Type 0) → ((k : List ℕ) (z : ℤ) → Number k z → Behind y (λ w. L (k ++ w))) → (l : List ℕ) → Found (mode·.Inside (part·.Axis y)) L l
unfolding ascii
axis_found y L f =
    step L (mode·.Inside (part·.Axis y)) refl 48 (68 ∷ 48 ∷ 49 ∷ 42 ∷ []) (f (48 ∷ []) (pos 0) (plain (one (digit 0 (omega arith))) (omega arith))).word λ b l.
    byte L 43 b l (signed_found y Plus (λ w. L (43 ∷ w)) (λ k n v ds h. f (43 ∷ k) (pos v) (plus ds h)) l) λ _.
    byte L 45 b l (signed_found y Minus (λ w. L (45 ∷ w)) (λ k n v ds h. f (45 ∷ k) (neg_ℤ (pos v)) (minus ds h)) l) λ _.
    any_digit L b l (λ d. mode·.Number y Plus 1 d)
    (λ d i _. digits_found y Plus L (λ k n v ds h. f k (pos v) (plain ds h)) ((48 + d) ∷ []) 1 d (one (digit d i)) (omega arith) l)
    (never (λ w. L (b ∷ w)) l)
