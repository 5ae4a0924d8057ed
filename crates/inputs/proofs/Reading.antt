-- A number read byte by byte: what is left to read makes of it what the whole text makes of nothing.
use Rattle.std.proofs.Common.{ℕ, Bool, true, false, suc, ◌+◌, ◌≤◌, ◌<◌, ◌≡◌, refl, sym, ap, ◌∙◌, List, [], ◌∷◌, length, get_or, drop, arith, rules, Result, Ok, Err, if◌then◌else◌}
use native.Mathlib.Numerals.{add-one}
use lib.ListN.{drop_of_length-le}
use lib.Seq.{drop-cons}
use Rattle.inputs.specs.declared.NumberError.{NumberError}
use Rattle.inputs.specs.declared.NumberError.TheVariants.{Empty, Wrong}
use Rattle.inputs.specs.Number.{lengthened, grown, read_on, number_of}

read_none : (m : Result ℕ NumberError) → read_on m [] ≡ m
unfolding read_on
read_none m = refl

read_cons : (m : Result ℕ NumberError) (b : ℕ) (l : List ℕ) → read_on m (b ∷ l) ≡ read_on (grown m b) l
unfolding read_on
read_cons m b l = refl

read_wrong : (l : List ℕ) → read_on (Err Wrong) l ≡ Err Wrong
unfolding read_on
read_wrong [] = refl
read_wrong (b ∷ l) = read_wrong l

-- before the first byte
pub begun : (l : List ℕ) → 0 < length l → read_on (Ok 0) l ≡ number_of l
unfolding read_on
begun [] h = absurd (omega arith)
begun (b ∷ l) h = refl

pub empty : (l : List ℕ) → length l ≡ 0 → number_of l ≡ Err Empty
unfolding read_on
empty [] h = refl
empty (b ∷ l) h = absurd (omega arith)

-- at the text's end
pub past : (n : ℕ) (l : List ℕ) (i : ℕ) → length l ≤ i → read_on (Ok n) (drop i l) ≡ Ok n
past n l i h = ap (read_on (Ok n)) (drop_of_length-le l {i = i} h) ∙ read_none (Ok n)

-- one byte: q is what it makes of n
pub one : (n : ℕ) (l : List ℕ) (i : ℕ) → i < length l → {q : Result ℕ NumberError} → q ≡ lengthened n (get_or l i 0) →
    read_on q (drop (i + 1) l) ≡ read_on (Ok n) (drop i l)
one n l i h e = simp (add-one i, e, drop-cons l i 0 h, read_cons (Ok n) (get_or l i 0) (drop (suc i) l))

wrong : (c : Bool) (n : ℕ) {e : NumberError} → Err e ≡ (if c then Ok n else Err Wrong) → e ≡ Wrong
wrong true n h = search rules
wrong false n h = search rules

-- one byte of which no number comes
pub none : (n : ℕ) (l : List ℕ) (i : ℕ) → i < length l → {e : NumberError} → Err e ≡ lengthened n (get_or l i 0) →
    Err e ≡ read_on (Ok n) (drop i l)
none n l i h {e} k =
    let w : Err e ≡ Err Wrong = ap (λ (x : NumberError). Err x) (wrong _ _ k) in
    let r : read_on (Err e) (drop (i + 1) l) ≡ Err e = ap (λ (q : Result ℕ NumberError). read_on q (drop (i + 1) l)) w ∙ read_wrong (drop (i + 1) l) ∙ sym w in
    sym r ∙ one n l i h k
