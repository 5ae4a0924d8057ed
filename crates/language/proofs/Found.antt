-- What bytes inside a command turn out to be: such as no command has, a whole word of a language, or the beginning of one.
use Prim.Native.Nat.{ℕ, ◌+◌, ◌≤◌}
use native.Mathlib.Omega.{arith}
use mathlib.Core.Path.{◌≡◌, refl, sym, ap, ◌∙◌, subst}
use mathlib.Core.Bool.{Bool, true, false}
use mathlib.Core.List.{List, [], ◌∷◌, ◌++◌}
use borrow.Author.Tests.{leb-true, eqb-true, eqb-false}
use lib.Dec.{leb, eqb}
use Rattle.integers.proofs.Tests.{and_both}
use Rattle.scan.specs.declared.Mode.{Mode}
use Rattle.scan.specs.declared.Mode.TheVariants.{Bad}
use Rattle.scan.specs.Next.{next, pick, is_digit, digit_of}
use Rattle.language.proofs.Inside.{is_inside, upto, upto_inside, upto_outside}

-- from mode m, where the words of L may come, the bytes l are one of three: refused, a word and what follows it, the beginning of a word. That no word
-- is refused is not said here: it is Comes that says it
pub data Found (m : Mode) (L : List ℕ → Type 0) (l : List ℕ) : Type 0 where
  refused : upto m l ≡ Bad → Found m L l
  whole : (w k : List ℕ) → w ++ k ≡ l → L w → Found m L l
  part : (c : ℕ) (k : List ℕ) → L (l ++ (c ∷ k)) → Found m L l

-- nothing comes of a mode that is refused
pub never : (L : List ℕ → Type 0) (l : List ℕ) → Found Bad L l
never L l = refused (upto_outside Bad refl l)

-- the same words in another form
pub recast : {m : Mode} {L M : List ℕ → Type 0} {l : List ℕ} → ((w : List ℕ) → L w → M w) → Found m L l → Found m M l
recast f (refused e) = refused e
recast f (whole w k e h) = whole w k e (f w h)
recast {l = l} f (part c k h) = part c k (f (l ++ (c ∷ k)) h)

-- one byte more in front
pub longer : (L : List ℕ → Type 0) (m : Mode) → is_inside m ≡ true → (b : ℕ) (l : List ℕ) → Found (next m b) (λ w. L (b ∷ w)) l → Found m L (b ∷ l)
longer L m i b l (refused e) = refused (upto_inside m i b l ∙ e)
longer L m i b l (whole w k e h) = whole (b ∷ w) k (ap (λ (t : List ℕ). b ∷ t) e) h
longer L m i b l (part c k h) = part c k h

-- a mode inside a command, by its next byte; where none comes, some word goes on
pub step : (L : List ℕ → Type 0) (m : Mode) → is_inside m ≡ true → (c : ℕ) (k : List ℕ) → L (c ∷ k) →
    ((b : ℕ) (l : List ℕ) → Found (next m b) (λ w. L (b ∷ w)) l) →
    (l : List ℕ) → Found m L l
step L m i c k h f [] = part c k h
step L m i c k h f (b ∷ l) = longer L m i b l (f b l)

-- a test of the next byte
pub test : (L : List ℕ → Type 0) (l : List ℕ) (m n : Mode) (t : Bool) → (t ≡ true → Found m L l) → (t ≡ false → Found n L l) → Found (pick t m n) L l
test L l m n true f g = f refl
test L l m n false f g = g refl

-- whether it is a certain byte
pub byte : (L : List ℕ → Type 0) (k b : ℕ) (l : List ℕ) {m n : Mode} → Found m (λ w. L (k ∷ w)) l → (¬ (b ≡ k) → Found n (λ w. L (b ∷ w)) l) →
    Found (pick (eqb b k) m n) (λ w. L (b ∷ w)) l
byte L k b l {m} {n} f g =
    test (λ w. L (b ∷ w)) l m n (eqb b k)
    (λ e. subst (λ (c : ℕ). Found m (λ w. L (c ∷ w)) l) (sym (eqb-true b k e)) f)
    (λ e. g (eqb-false b k e))

-- a byte that is a digit, and whether it is one
pub digit_byte : (L : List ℕ → Type 0) (b : ℕ) (l : List ℕ) (m : ℕ → Mode) → is_digit b ≡ true → ((d : ℕ) → d ≤ 9 → 48 + d ≡ b → Found (m d) (λ w. L ((48 + d) ∷ w)) l) →
    Found (m (digit_of b)) (λ w. L (b ∷ w)) l
digit_byte L b l m e f =
    let h = and_both (leb 48 b) (leb b 57) e in
    let low = leb-true 48 b h.0 in
    let high = leb-true b 57 h.1 in
    let same : 48 + digit_of b ≡ b = omega arith in
    subst (λ (c : ℕ). Found (m (digit_of b)) (λ w. L (c ∷ w)) l) same (f (digit_of b) (omega arith) same)

pub any_digit : (L : List ℕ → Type 0) (b : ℕ) (l : List ℕ) (m : ℕ → Mode) {n : Mode} → ((d : ℕ) → d ≤ 9 → 48 + d ≡ b → Found (m d) (λ w. L ((48 + d) ∷ w)) l) → Found n (λ w. L (b ∷ w)) l →
    Found (pick (is_digit b) (m (digit_of b)) n) (λ w. L (b ∷ w)) l
any_digit L b l m {n} f g = test (λ w. L (b ∷ w)) l (m (digit_of b)) n (is_digit b) (λ e. digit_byte L b l m e f) (λ _. g)
