-- Bytes laid over others: byte by byte, where they are of rows, and bit by bit.
use Prim.Native.Nat.{ℕ, zero, suc, ◌+◌, ◌-◌, ◌*◌, ◌/◌, ◌%◌, ◌^◌, ◌≤◌, ◌<◌, max}
use native.Mathlib.Omega.{arith}
use mathlib.Core.Path.{◌≡◌, refl, sym, ap, ap₂, ◌∙◌}
use mathlib.Core.Bool.{Bool, true, false, cond, ◌&&◌, ◌||◌}
use mathlib.Core.List.{List, [], ◌∷◌, ◌++◌}
use lib.Arith.{bin_ind}
use lib.Bits.{bit_or, or_step, or_shr, or_zero_r}
use lib.Dec.{ltb, eqb}
use lib.ListN.{length, get_or}
use Rattle.bits.specs.Bits.{bits_from, bytes_from, packed, packed_length, bit_at, laid_over}

-- ---- two numbers
-- one bit more at the end of two numbers
halves : (a : ℕ) (x : Bool) → ((2 * a + cond x 1 0) / 2 ≡ a) × ((2 * a + cond x 1 0) % 2 ≡ cond x 1 0)
halves a true = (omega arith, omega arith)
halves a false = (omega arith, omega arith)

either : (x y : Bool) → max (cond x 1 0) (cond y 1 0) ≡ cond (x || y) 1 0
either true true = refl
either true false = refl
either false true = refl
either false false = refl

or_bit : (a b : ℕ) (x y : Bool) → bit_or (2 * a + cond x 1 0) (2 * b + cond y 1 0) ≡ 2 * bit_or a b + cond (x || y) 1 0
or_bit a b x y =
    let p = halves a x in
    let q = halves b y in
    or_step (2 * a + cond x 1 0) (2 * b + cond y 1 0) ∙ rw (p.0, p.1, q.0, q.1, either x y) (omega arith)

-- the last bit of what two have, and what is before it
or_halves : (a b : ℕ) → (bit_or a b / 2 ≡ bit_or (a / 2) (b / 2)) × (bit_or a b % 2 ≡ max (a % 2) (b % 2))
or_halves a b = let e = or_step a b in (omega arith, omega arith)

-- a third makes no difference to how two are laid over each other
pub or_assoc : (a b c : ℕ) → bit_or (bit_or a b) c ≡ bit_or a (bit_or b c)
or_assoc = bin_ind (λ (n : ℕ). (b c : ℕ) → bit_or (bit_or n b) c ≡ bit_or n (bit_or b c)) (λ b c. refl) step
  where
    step : (n : ℕ) → ((b c : ℕ) → bit_or (bit_or (n / 2) b) c ≡ bit_or (n / 2) (bit_or b c)) → (b c : ℕ) → bit_or (bit_or n b) c ≡ bit_or n (bit_or b c)
    step n ih b c =
        let p = or_halves n b in
        let q = or_halves b c in
        let m : max (max (n % 2) (b % 2)) (c % 2) ≡ max (n % 2) (max (b % 2) (c % 2)) = omega arith in
        or_step (bit_or n b) c
        ∙ ap₂ (λ (h l : ℕ). h * 2 + l)
        (ap (λ (h : ℕ). bit_or h (c / 2)) p.0 ∙ ih (b / 2) (c / 2) ∙ ap (bit_or (n / 2)) (sym q.0))
        (ap (λ (l : ℕ). max l (c % 2)) p.1 ∙ m ∙ ap (max (n % 2)) (sym q.1))
        ∙ sym (or_step n (bit_or b c))

-- ---- bytes of rows
or_bits : (f g h : ℕ → Bool) → ((x : ℕ) → (f x || g x) ≡ h x) → (i k a b : ℕ) → bit_or (bits_from f i k a) (bits_from g i k b) ≡ bits_from h i k (bit_or a b)
unfolding bits_from
or_bits f g h e i zero a b = refl
or_bits f g h e i (suc k) a b =
    or_bits f g h e (suc i) k (2 * a + cond (f i) 1 0) (2 * b + cond (g i) 1 0) ∙ ap (bits_from h (suc i) k) (or_bit a b (f i) (g i) ∙ ap (λ (t : Bool). 2 * bit_or a b + cond t 1 0) (e i))

or_bytes : (f g h : ℕ → Bool) → ((x : ℕ) → (f x || g x) ≡ h x) → (i n : ℕ) → laid_over (bytes_from f i n) (bytes_from g i n) ≡ bytes_from h i n
unfolding laid_over bytes_from
or_bytes f g h e i zero = refl
or_bytes f g h e i (suc n) = rw (or_bits f g h e i 8 0 0, or_bytes f g h e (i + 8) n)

-- the byte of the columns that two rows have
pub or_byte : (f g : ℕ → Bool) (i : ℕ) → bit_or (bits_from f i 8 0) (bits_from g i 8 0) ≡ bits_from (λ x. f x || g x) i 8 0
or_byte f g i = or_bits f g (λ x. f x || g x) (λ x. refl) i 8 0 0

shared : (a b c : Bool) → ((a && b) || (a && c)) ≡ (a && (b || c))
shared true b c = refl
shared false b c = refl

pub over_packed : (f g : ℕ → Bool) (columns : ℕ) → laid_over (packed f columns) (packed g columns) ≡ packed (λ x. f x || g x) columns
over_packed f g columns = or_bytes _ _ _ (λ x. shared (ltb x columns) (f x) (g x)) 0 (packed_length columns)

-- ---- byte by byte
pub over_nil : (d : List ℕ) → laid_over d [] ≡ d
unfolding laid_over
over_nil [] = refl
over_nil (x ∷ d) = refl

pub over_length : (d s : List ℕ) → length (laid_over d s) ≡ length d
unfolding laid_over
over_length [] s = refl
over_length (x ∷ d) [] = refl
over_length (x ∷ d) (y ∷ s) = ap suc (over_length d s)

pub over_at : (d s : List ℕ) (k : ℕ) → k < length d → get_or (laid_over d s) k 0 ≡ bit_or (get_or d k 0) (get_or s k 0)
unfolding laid_over
over_at [] s k h = absurd (omega arith)
over_at (x ∷ d) [] k h = sym (or_zero_r (get_or (x ∷ d) k 0))
over_at (x ∷ d) (y ∷ s) zero h = refl
over_at (x ∷ d) (y ∷ s) (suc k) h = over_at d s k (omega arith)

-- the bytes past those that are laid over stay
pub over_front : (d s r : List ℕ) → length s ≤ length d → laid_over (d ++ r) s ≡ laid_over d s ++ r
unfolding laid_over
over_front [] [] r h = over_nil r
over_front [] (y ∷ s) r h = absurd (omega arith)
over_front (x ∷ d) [] r h = refl
over_front (x ∷ d) (y ∷ s) r h = ap (λ (l : List ℕ). bit_or x y ∷ l) (over_front d s r (omega arith))

-- ---- bit by bit
either_is : (p q : ℕ) → p < 2 → q < 2 → eqb (max p q) 1 ≡ (eqb p 1 || eqb q 1)
either_is zero zero h k = refl
either_is zero (suc zero) h k = refl
either_is zero (suc (suc q)) h k = absurd (omega arith)
either_is (suc zero) zero h k = refl
either_is (suc zero) (suc zero) h k = refl
either_is (suc zero) (suc (suc q)) h k = absurd (omega arith)
either_is (suc (suc p)) q h k = absurd (omega arith)

-- a column is black that was black or is laid over
pub over_black : (d s : List ℕ) (x : ℕ) → x / 8 < length d → bit_at (laid_over d s) x ≡ (bit_at d x || bit_at s x)
over_black d s x h =
    let k = 7 - x % 8 in
    let a = get_or d (x / 8) 0 / 2 ^ k in
    let b = get_or s (x / 8) 0 / 2 ^ k in
    ap (λ (v : ℕ). eqb (v / 2 ^ k % 2) 1) (over_at d s (x / 8) h) ∙ ap (λ (v : ℕ). eqb (v % 2) 1) (or_shr (get_or d (x / 8) 0) (get_or s (x / 8) 0) k)
    ∙ ap (λ (v : ℕ). eqb v 1) (or_halves a b).1 ∙ either_is (a % 2) (b % 2) (omega arith) (omega arith)
