-- Words that are fixed from some mode on, and those of the modes that are no part of a number.
use Prim.Native.Nat.{ℕ, ◌+◌, ◌*◌, ◌≤◌}
use native.Mathlib.Omega.{arith}
use mathlib.Core.Path.{◌≡◌, refl, sym, subst}
use mathlib.Core.Bool.{true, ◌&&◌}
use mathlib.Core.List.{List, [], ◌∷◌, ◌++◌}
use lib.Dec.{ltb, eqb}
use Rattle.integers.proofs.Tests.{and_both}
use Rattle.scan.specs.declared.Mode.{Mode}
use Rattle.scan.specs.declared.Mode.TheVariants.{Bad, Inside}
use Rattle.scan.specs.declared.Part.TheVariants as part·
use Rattle.scan.specs.Next.{next, only, is_digit, digit_of}
use Rattle.language.specs.Grammar.{NoStar, no_byte, no_star}
use Rattle.language.proofs.Inside.{is_inside}
use Rattle.language.proofs.Found.{Found, whole, part, never, longer, step, test, byte, digit_byte}

-- from this mode on these bytes alone may come
pub data Fixed : Mode → List ℕ → Type 0 where
  ends : {m : Mode} → Fixed m []
  goes : {m n : Mode} {w : List ℕ} → is_inside m ≡ true → (k : ℕ) → ((b : ℕ) → next m b ≡ only (eqb b k) n) → Fixed n w → Fixed m (k ∷ w)

pub fixed : (L : List ℕ → Type 0) {m : Mode} {w : List ℕ} → Fixed m w → L w → (l : List ℕ) → Found m L l
fixed L ends h l = whole [] l refl h
fixed L (goes {m} {n} {w} i k e f) h l = step L m i k w h (λ b l. next_byte b l (fixed (λ w. L (k ∷ w)) f h l)) l
  where
    next_byte : (b : ℕ) (l : List ℕ) → Found n (λ w. L (k ∷ w)) l → Found (next m b) (λ w. L (b ∷ w)) l
    next_byte b l g = subst (λ (n : Mode). Found n (λ w. L (b ∷ w)) l) (sym (e b)) (byte L k b l g (λ _. never (λ w. L (b ∷ w)) l))

-- "%FSLAX36Y36*%" and "%MOMM*%" behind their first "%"
pub format_fixed : Fixed (Inside (part·.Header 1)) (70 ∷ 83 ∷ 76 ∷ 65 ∷ 88 ∷ 51 ∷ 54 ∷ 89 ∷ 51 ∷ 54 ∷ 42 ∷ 37 ∷ [])
format_fixed =
    goes refl 70 (λ b. refl) (goes refl 83 (λ b. refl) (goes refl 76 (λ b. refl) (goes refl 65 (λ b. refl) (goes refl 88 (λ b. refl) (goes refl 51 (λ b. refl)
    (goes refl 54 (λ b. refl) (goes refl 89 (λ b. refl) (goes refl 51 (λ b. refl) (goes refl 54 (λ b. refl) (goes refl 42 (λ b. refl) (goes refl 37 (λ b. refl) ends)))))))))))

pub units_fixed : Fixed (Inside (part·.Header 14)) (77 ∷ 79 ∷ 77 ∷ 77 ∷ 42 ∷ 37 ∷ [])
units_fixed = goes refl 77 (λ b. refl) (goes refl 79 (λ b. refl) (goes refl 77 (λ b. refl) (goes refl 77 (λ b. refl) (goes refl 42 (λ b. refl) (goes refl 37 (λ b. refl) ends)))))

-- "G01*" behind "G01", "M02*" behind "M", the "*" of a plot and of a choice
pub linear_fixed : Fixed (Inside part·.Linear) (42 ∷ [])
linear_fixed = goes refl 42 (λ b. refl) ends

pub closing_fixed : Fixed (Inside part·.M) (48 ∷ 50 ∷ 42 ∷ [])
closing_fixed = goes refl 48 (λ b. refl) (goes refl 50 (λ b. refl) (goes refl 42 (λ b. refl) ends))

line_fixed : Fixed (Inside part·.LineOp) (42 ∷ [])
line_fixed = goes refl 42 (λ b. refl) ends

move_fixed : Fixed (Inside part·.MoveOp) (42 ∷ [])
move_fixed = goes refl 42 (λ b. refl) ends

choice_fixed : (n : ℕ) → Fixed (Inside (part·.Aperture n)) (42 ∷ [])
choice_fixed n = goes refl 42 (λ b. refl) ends

module _ (L : List ℕ → Type 0) where
  -- "01*" and "02*"
  pub operation : L (49 ∷ 42 ∷ []) → L (50 ∷ 42 ∷ []) → (l : List ℕ) → Found (Inside part·.DZero) L l
  operation f g =
      step L (Inside part·.DZero) refl 49 (42 ∷ []) f λ b l.
      byte L 49 b l (fixed (λ w. L (49 ∷ w)) line_fixed f l) λ _.
      byte L 50 b l (fixed (λ w. L (50 ∷ w)) move_fixed g l) λ _.
      never (λ w. L (b ∷ w)) l

  -- the second digit of a choice, and its "*"
  pub choices : (t : ℕ) → ((d : ℕ) → d ≤ 9 → L ((48 + d) ∷ 42 ∷ [])) → (l : List ℕ) → Found (Inside (part·.Tens t)) L l
  choices t f =
      step L (Inside (part·.Tens t)) refl 48 (42 ∷ []) (f 0 (omega arith)) λ b l.
      test (λ w. L (b ∷ w)) l (Inside (part·.Aperture (10 * t + digit_of b))) Bad (is_digit b && ltb t 10)
      (λ e. digit_byte L b l (λ d. Inside (part·.Aperture (10 * t + d))) (and_both (is_digit b) (ltb t 10) e).0 λ d h _. fixed (λ w. L ((48 + d) ∷ w)) (choice_fixed (10 * t + d)) (f d h) l)
      (λ _. never (λ w. L (b ∷ w)) l)

-- the text of a comment, and its "*"
pub comment : (L : List ℕ → Type 0) → ((t : List ℕ) → NoStar t → L (t ++ (42 ∷ []))) → (l : List ℕ) → Found (Inside part·.Comment) L l
comment L f [] = part 42 [] (f [] no_byte)
comment L f (b ∷ l) =
    longer L (Inside part·.Comment) refl b l
    (byte L 42 b l (whole [] l refl (f [] no_byte)) (λ n. comment (λ w. L (b ∷ w)) (λ t s. f (b ∷ t) (no_star n s)) l))
