-- The bytes of a row: how many there are, and what each bit of them is.
use Prim.Native.Nat.{ℕ, zero, suc, ◌+◌, ◌-◌, ◌*◌, ◌/◌, ◌%◌, ◌^◌, ◌≤◌, ◌<◌}
use mathlib.Core.Path.{◌≡◌, refl, sym, ap, ◌∙◌, subst, fun_ext}
use mathlib.Core.Logic.{◌⊎◌, inl, inr}
use mathlib.Core.Bool.{Bool, true, false, cond, ◌&&◌}
use mathlib.Core.List.{List}
use native.Mathlib.Nat.{add-zero, zero-add, div-one, zero-div, zero-mod, pow-suc, div-div-eq-div-mul, div-lt_iff_lt-mul}
use native.Mathlib.Omega.{arith}
use borrow.Author.Tests.{ltb-true, ltb-false, le-ltb}
use lib.Dec.{ltb, eqb}
use lib.ListN.{length, get_or, replicate, get_or-eq_default}
use lib.Pow.{pow_pos}
use Rattle.integers.proofs.Tests.{and_same, and_false}
use Rattle.bits.specs.Bits.{bits_from, bytes_from, packed, packed_length, bit_at}

-- a row's bytes depend only on the columns of the raster
pub packed_ext : {f h : ℕ → Bool} {columns : ℕ} → ((x : ℕ) → x < columns → f x ≡ h x) → packed f columns ≡ packed h columns
packed_ext {f} {h} {columns} e =
    ap (λ (g : ℕ → Bool). bytes_from g 0 (packed_length columns)) (fun_ext (λ x. and_same (ltb x columns) (λ t. e x (ltb-true x columns t))))

-- ---- one byte
-- the same columns, counted from another place
pub bits_ext : (f h : ℕ → Bool) (n i j acc : ℕ) → ((b : ℕ) → b < n → f (i + b) ≡ h (j + b)) → bits_from f i n acc ≡ bits_from h j n acc
unfolding bits_from
bits_ext f h zero i j acc e = refl
bits_ext f h (suc n) i j acc e =
    let first : f i ≡ h j = rw (add-zero i, add-zero j) at (e 0 (omega arith)) in
    ap (λ (t : Bool). bits_from f (suc i) n (2 * acc + cond t 1 0)) first ∙ bits_ext f h n (suc i) (suc j) (2 * acc + cond (h j) 1 0) later
  where
    later : (b : ℕ) → b < n → f (suc i + b) ≡ h (suc j + b)
    later b l =
        let p : i + suc b ≡ suc i + b = omega arith in
        let q : j + suc b ≡ suc j + b = omega arith in
        subst (λ (x : ℕ). f x ≡ h (suc j + b)) p (subst (λ (y : ℕ). f (i + suc b) ≡ h y) q (e (suc b) (omega arith)))

-- where no column is black it is 0
nothing : (k i : ℕ) → bits_from (λ _. false) i k 0 ≡ 0
unfolding bits_from
nothing zero i = refl
nothing (suc k) i = nothing k (suc i)

pub clear_bits : (f : ℕ → Bool) (i k : ℕ) → ((b : ℕ) → b < k → f (i + b) ≡ false) → bits_from f i k 0 ≡ 0
clear_bits f i k e = bits_ext f (λ _. false) k i 0 0 e ∙ nothing k 0

half : (acc : ℕ) (t : Bool) → (2 * acc + cond t 1 0) / 2 ≡ acc
half acc true = omega arith
half acc false = omega arith

last : (acc : ℕ) (t : Bool) → (2 * acc + cond t 1 0) % 2 ≡ cond t 1 0
last acc true = omega arith
last acc false = omega arith

-- n bits more, taken off again
pub bits_high : (f : ℕ → Bool) (n i acc : ℕ) → bits_from f i n acc / 2 ^ n ≡ acc
unfolding bits_from
bits_high f zero i acc = div-one acc
bits_high f (suc n) i acc =
    let next : ℕ = 2 * acc + cond (f i) 1 0 in
    ap (λ (p : ℕ). bits_from f (suc i) n next / p) (pow-suc 2 n) ∙ sym (div-div-eq-div-mul (bits_from f (suc i) n next) (2 ^ n) 2)
    ∙ ap (λ (q : ℕ). q / 2) (bits_high f n (suc i) next) ∙ half acc (f i)

-- n bits make a number below 2 ^ n
pub bits_small : (f : ℕ → Bool) (n i : ℕ) → bits_from f i n 0 < 2 ^ n
bits_small f n i =
    let h = (div-lt_iff_lt-mul {k = 2 ^ n} {x = bits_from f i n 0} {y = 1} (pow_pos n)).0 (omega (arith, bits_high f n i 0)) in
    omega arith

-- bit b from the left is column i + b
pub bits_bit : (f : ℕ → Bool) (n b i acc : ℕ) → b < n → bits_from f i n acc / 2 ^ (n - 1 - b) % 2 ≡ cond (f (i + b)) 1 0
unfolding bits_from
bits_bit f zero b i acc l = absurd (omega arith)
bits_bit f (suc n) zero i acc l =
    let p : suc n - 1 - 0 ≡ n = omega arith in
    rw (p, add-zero, bits_high f n (suc i) (2 * acc + cond (f i) 1 0)) (last acc (f i))
bits_bit f (suc n) (suc b) i acc l =
    let p : suc n - 1 - suc b ≡ n - 1 - b = omega arith in
    let q : i + suc b ≡ suc i + b = omega arith in
    rw (p, q) (bits_bit f n b (suc i) (2 * acc + cond (f i) 1 0) (omega arith))

-- ---- the bytes
pub length_bytes : (f : ℕ → Bool) (n i : ℕ) → length (bytes_from f i n) ≡ n
unfolding bytes_from
length_bytes f zero i = refl
length_bytes f (suc n) i = ap suc (length_bytes f n (i + 8))

pub packed_length_lem : (f : ℕ → Bool) (columns : ℕ) → length (packed f columns) ≡ packed_length columns
packed_length_lem f columns = length_bytes (λ x. ltb x columns && f x) (packed_length columns) 0

-- byte k has the columns from 8 * k on
pub get_d_bytes : (f : ℕ → Bool) (n k i : ℕ) → k < n → get_or (bytes_from f i n) k 0 ≡ bits_from f (i + 8 * k) 8 0
unfolding bytes_from
get_d_bytes f zero k i l = absurd (omega arith)
get_d_bytes f (suc n) zero i l = let p : i + 8 * 0 ≡ i = omega arith in rw p
get_d_bytes f (suc n) (suc k) i l =
    let p : i + 8 + 8 * k ≡ i + 8 * suc k = omega arith in
    get_d_bytes f n k (i + 8) (omega arith) ∙ ap (λ (x : ℕ). bits_from f x 8 0) p

-- byte k of a row, and the 0 after its bytes
pub packed_at : (f : ℕ → Bool) (columns k : ℕ) →
    (get_or (packed f columns) k 0 ≡ bits_from (λ x. ltb x columns && f x) (8 * k) 8 0) ⊎ ((get_or (packed f columns) k 0 ≡ 0) × (columns ≤ 8 * k))
packed_at f columns k = go (ltb k (packed_length columns)) refl
  where
    go : (t : Bool) → ltb k (packed_length columns) ≡ t →
        (get_or (packed f columns) k 0 ≡ bits_from (λ x. ltb x columns && f x) (8 * k) 8 0) ⊎ ((get_or (packed f columns) k 0 ≡ 0) × (columns ≤ 8 * k))
    go true e = inl (rw zero-add at (get_d_bytes (λ x. ltb x columns && f x) (packed_length columns) k 0 (ltb-true k (packed_length columns) e)))
    go false e =
        let l = ltb-false k (packed_length columns) e in
        inr (get_or-eq_default (packed f columns) 0 {n = k} (omega (arith, packed_length_lem f columns)), omega arith)

-- each is a byte
pub packed_small : (f : ℕ → Bool) (columns k : ℕ) → get_or (packed f columns) k 0 < 256
packed_small f columns k = elim (packed_at f columns k) [
  | inl h ↦ omega (arith, h, bits_small (λ x. ltb x columns && f x) 8 (8 * k))
  | inr h ↦ omega (arith, h.0)
]

-- "the leftmost pixel in the highest bit, black is 1, spare bits are 0": bit b from the left of byte k is 1 exactly when column 8 * k + b is in the raster and black
pub packed_bit : (f : ℕ → Bool) (columns k b : ℕ) → b < 8 → get_or (packed f columns) k 0 / 2 ^ (7 - b) % 2 ≡ cond (ltb (8 * k + b) columns && f (8 * k + b)) 1 0
packed_bit f columns k b l = elim (packed_at f columns k) [
  | inl h ↦ rw h (bits_bit (λ x. ltb x columns && f x) 8 b (8 * k) 0 l)
  | inr h ↦ rw (h.0, zero-div, zero-mod, le-ltb (8 * k + b) columns (omega (arith, h.1)))
]

-- where no column is black each is 0
clear_bytes : (f : ℕ → Bool) → ((x : ℕ) → f x ≡ false) → (i n : ℕ) → bytes_from f i n ≡ replicate n 0
unfolding bytes_from
clear_bytes f e i zero = refl
clear_bytes f e i (suc n) = rw (clear_bits f i 8 (λ b l. e (i + b)), clear_bytes f e (i + 8) n)

pub packed_clear : (columns : ℕ) → packed (λ _. false) columns ≡ replicate (packed_length columns) 0
packed_clear columns = clear_bytes _ (λ x. and_false (ltb x columns) false refl) 0 (packed_length columns)

-- ---- the columns that are black by the bytes
-- no column of a byte that is 0, or that is not there
pub bit_clear : (b : List ℕ) (x : ℕ) → get_or b (x / 8) 0 ≡ 0 → bit_at b x ≡ false
bit_clear b x e = ap (λ (v : ℕ). eqb (v / 2 ^ (7 - x % 8) % 2) 1) e ∙ ap (λ (v : ℕ). eqb (v % 2) 1) (zero-div (2 ^ (7 - x % 8)))

bit_is : (t : Bool) → eqb (cond t 1 0) 1 ≡ t
bit_is true = refl
bit_is false = refl

pub bytes_black : (f : ℕ → Bool) (n x : ℕ) → x / 8 < n → bit_at (bytes_from f 0 n) x ≡ f x
bytes_black f n x h =
    let e : 0 + 8 * (x / 8) + x % 8 ≡ x = omega arith in
    ap (λ (v : ℕ). eqb (v / 2 ^ (7 - x % 8) % 2) 1) (get_d_bytes f n (x / 8) 0 h)
    ∙ ap (λ (v : ℕ). eqb v 1) (bits_bit f 8 (x % 8) (0 + 8 * (x / 8)) 0 (omega arith)) ∙ bit_is (f (0 + 8 * (x / 8) + x % 8)) ∙ ap f e

pub black_packed : (f : ℕ → Bool) (columns x : ℕ) → bit_at (packed f columns) x ≡ (ltb x columns && f x)
black_packed f columns x =
    let e : 8 * (x / 8) + x % 8 ≡ x = omega arith in
    ap (λ (v : ℕ). eqb v 1) (packed_bit f columns (x / 8) (x % 8) (omega arith)) ∙ bit_is (ltb (8 * (x / 8) + x % 8) columns && f (8 * (x / 8) + x % 8))
    ∙ ap (λ (y : ℕ). ltb y columns && f y) e
