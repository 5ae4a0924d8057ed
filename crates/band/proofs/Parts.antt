-- Columns laid over bytes that stand one after the other: each part has its own columns laid over it, counted from its first.
use Prim.Native.Nat.{ℕ, zero, suc, ◌+◌, ◌*◌}
use native.Mathlib.Nat.{zero-add, suc-add}
use native.Mathlib.Omega.{arith}
use native.Mathlib.Decide.{dec_le}
use mathlib.Core.Path.{◌≡◌, refl, sym, ap, ap₂, ◌∙◌}
use mathlib.Core.Bool.{Bool}
use mathlib.Core.List.{List, [], ◌∷◌, ◌++◌, append-nil}
use lib.Bits.{bit_or}
use lib.ListN.{length, take, drop, length-append, take-append-drop, drop_of_length-le}
use lib.Seq.{take_all, length-take-le}
use Rattle.bits.specs.Bits.{bits_from, bytes_from, laid_over, blackened}
use Rattle.bits.proofs.Bytes.{bits_ext, length_bytes}

-- the bytes of m + n bytes' columns
bytes_parts : (f : ℕ → Bool) (m n i : ℕ) → bytes_from f i (m + n) ≡ bytes_from f i m ++ bytes_from f (i + 8 * m) n
unfolding bytes_from
bytes_parts f zero n i =
    let p : i ≡ i + 8 * 0 = omega arith in
    ap (bytes_from f i) (zero-add n) ∙ ap (λ (j : ℕ). bytes_from f j n) p
bytes_parts f (suc m) n i =
    let p : i + 8 + 8 * m ≡ i + 8 * suc m = omega arith in
    ap (bytes_from f i) (suc-add m n)
    ∙ ap (λ (l : List ℕ). bits_from f i 8 0 ∷ l) (bytes_parts f m n (i + 8) ∙ ap (λ (j : ℕ). bytes_from f (i + 8) m ++ bytes_from f j n) p)

-- the same columns, counted from k
bytes_from_lem : (f : ℕ → Bool) (k n i : ℕ) → bytes_from f (k + i) n ≡ bytes_from (λ x. f (k + x)) i n
unfolding bytes_from
bytes_from_lem f k zero i = refl
bytes_from_lem f k (suc n) i =
    let p : k + i + 8 ≡ k + (i + 8) = omega arith in
    ap₂ (λ (v : ℕ) (l : List ℕ). v ∷ l)
    (bits_ext f (λ x. f (k + x)) 8 (k + i) i 0 (λ b l. let q : k + i + b ≡ k + (i + b) = omega arith in ap f q))
    (ap (λ (j : ℕ). bytes_from f j n) p ∙ bytes_from_lem f k n (i + 8))

-- bytes laid over others, a part over a part as long
over_parts : (c s d t : List ℕ) → length c ≡ length s → laid_over (c ++ d) (s ++ t) ≡ laid_over c s ++ laid_over d t
unfolding laid_over
over_parts [] [] d t e = refl
over_parts [] (y ∷ s) d t e = absurd (omega arith)
over_parts (x ∷ c) [] d t e = absurd (omega arith)
over_parts (x ∷ c) (y ∷ s) d t e = ap (λ (l : List ℕ). bit_or x y ∷ l) (over_parts c s d t (omega arith))

blackened_parts : (f : ℕ → Bool) (c d : List ℕ) → blackened f (c ++ d) ≡ blackened f c ++ blackened (λ x. f (8 * length c + x)) d
blackened_parts f c d =
    let p : 0 + 8 * length c ≡ 8 * length c + 0 = omega arith in
    ap (λ (n : ℕ). laid_over (c ++ d) (bytes_from f 0 n)) (length-append c d)
    ∙ ap (laid_over (c ++ d)) (bytes_parts f (length c) (length d) 0)
    ∙ over_parts c (bytes_from f 0 (length c)) d (bytes_from f (0 + 8 * length c) (length d)) (sym (length_bytes f (length c) 0))
    ∙ ap (λ (l : List ℕ). blackened f c ++ laid_over d l) (ap (λ (j : ℕ). bytes_from f j (length d)) p ∙ bytes_from_lem f (8 * length c) (length d) 0)

blackened_nil : (f : ℕ → Bool) → blackened f [] ≡ []
unfolding laid_over
blackened_nil f = refl

-- bytes that are cut after k of them, or after all where they are fewer
pub blackened_cut : (f : ℕ → Bool) (k : ℕ) (b : List ℕ) → blackened f b ≡ blackened f (take k b) ++ blackened (λ x. f (8 * k + x)) (drop k b)
blackened_cut f k b = elim (dec_le k (length b)) [
  | yes h ↦
      ap (blackened f) (sym (take-append-drop k b)) ∙ blackened_parts f (take k b) (drop k b)
      ∙ ap (λ (n : ℕ). blackened f (take k b) ++ blackened (λ x. f (8 * n + x)) (drop k b)) (length-take-le k b h)
  | no h ↦
      sym (ap₂ (λ (c d : List ℕ). blackened f c ++ blackened (λ x. f (8 * k + x)) d) (take_all k b (omega arith)) (drop_of_length-le b {i = k} (omega arith))
      ∙ ap (λ (d : List ℕ). blackened f b ++ d) (blackened_nil (λ x. f (8 * k + x))) ∙ append-nil (blackened f b))
]
