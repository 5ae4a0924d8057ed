-- Columns laid over bytes: each byte is or-ed with the byte of those columns. So the columns of one byte change that byte alone, and one lot of columns
-- after another is both at once.
use Prim.Native.Nat.{ℕ, ◌+◌, ◌*◌, ◌/◌, ◌≤◌, ◌<◌}
use native.Mathlib.Nat.{zero-add}
use native.Mathlib.Omega.{arith}
use native.Mathlib.Decide.{ℕ_discrete, dec_le}
use mathlib.Core.Path.{◌≡◌, refl, sym, ap, ◌∙◌, subst, fun_ext}
use mathlib.Core.Logic.{inl, inr}
use mathlib.Core.Bool.{Bool, true, false, ◌&&◌, ◌||◌}
use mathlib.Core.List.{List}
use borrow.Author.Tests.{ltb-false}
use lib.Bits.{bit_or, or_zero_r}
use lib.Dec.{ltb}
use lib.ListN.{length, get_or, set, replicate, length-set, length-replicate, get_or-replicate, get_or-eq_default}
use lib.Seq.{ext_get_or, get_or-set_same, get_or-set_other}
use Rattle.bits.specs.Bits.{bits_from, bytes_from, packed, bit_at, laid_over, blackened}
use Rattle.bits.proofs.Bytes.{bits_ext, clear_bits, get_d_bytes, packed_at, bytes_black, bit_clear}
use Rattle.bits.proofs.Over.{or_assoc, or_byte, over_length, over_at, over_black}

-- ---- byte by byte
pub blackened_length : (f : ℕ → Bool) (b : List ℕ) → length (blackened f b) ≡ length b
blackened_length f b = over_length b (bytes_from f 0 (length b))

pub blackened_at : (f : ℕ → Bool) (b : List ℕ) (k : ℕ) → k < length b → get_or (blackened f b) k 0 ≡ bit_or (get_or b k 0) (bits_from f (8 * k) 8 0)
blackened_at f b k h = over_at b (bytes_from f 0 (length b)) k h ∙ ap (bit_or (get_or b k 0)) (rw zero-add at (get_d_bytes f (length b) k 0 h))

-- bytes that are so, each of them, are those
pub same_bytes : (f : ℕ → Bool) (b c : List ℕ) → length c ≡ length b → ((k : ℕ) → k < length b → get_or c k 0 ≡ bit_or (get_or b k 0) (bits_from f (8 * k) 8 0)) → c ≡ blackened f b
same_bytes f b c l e = ext_get_or 0 c (blackened f b) (l ∙ sym (blackened_length f b)) (λ k h. let i : k < length b = omega arith in e k i ∙ sym (blackened_at f b k i))

-- ---- which columns
-- only those that the bytes have count
pub blackened_ext : (f g : ℕ → Bool) (b : List ℕ) → ((x : ℕ) → x < 8 * length b → f x ≡ g x) → blackened f b ≡ blackened g b
blackened_ext f g b e = same_bytes g b (blackened f b) (blackened_length f b)
    (λ k h. blackened_at f b k h ∙ ap (bit_or (get_or b k 0)) (bits_ext f g 8 (8 * k) (8 * k) 0 (λ c l. e (8 * k + c) (omega arith))))

-- none leave the bytes
pub blackened_none : (f : ℕ → Bool) (b : List ℕ) → ((x : ℕ) → x < 8 * length b → f x ≡ false) → b ≡ blackened f b
blackened_none f b e = same_bytes f b b refl
    (λ k h. sym (ap (bit_or (get_or b k 0)) (clear_bits f (8 * k) 8 (λ c l. e (8 * k + c) (omega arith))) ∙ or_zero_r (get_or b k 0)))

-- those of one byte change it alone
pub blackened_byte : (f : ℕ → Bool) (b : List ℕ) (k : ℕ) {v : ℕ} → ((x : ℕ) → ¬ (x / 8 ≡ k) → f x ≡ false) → v ≡ bits_from f (8 * k) 8 0 →
    set b k (bit_or (get_or b k 0) v) ≡ blackened f b
blackened_byte f b k {v} e w = same_bytes f b (set b k (bit_or (get_or b k 0) v)) (length-set b k (bit_or (get_or b k 0) v)) at
  where
    at : (i : ℕ) → i < length b → get_or (set b k (bit_or (get_or b k 0) v)) i 0 ≡ bit_or (get_or b i 0) (bits_from f (8 * i) 8 0)
    at i h = elim (ℕ_discrete i k) [
      | yes p ↦ subst (λ (j : ℕ). get_or (set b k (bit_or (get_or b k 0) v)) j 0 ≡ bit_or (get_or b j 0) (bits_from f (8 * j) 8 0)) (sym p)
          (get_or-set_same b k (bit_or (get_or b k 0) v) 0 (omega arith) ∙ ap (bit_or (get_or b k 0)) w)
      | no p ↦ get_or-set_other b k i (bit_or (get_or b k 0) v) 0 p
          ∙ sym (ap (bit_or (get_or b i 0)) (clear_bits f (8 * i) 8 (λ c l. e (8 * i + c) (λ q. p (omega arith)))) ∙ or_zero_r (get_or b i 0))
    ]

-- one lot after the other
pub blackened_twice : (f g h : ℕ → Bool) (b : List ℕ) → ((x : ℕ) → (f x || g x) ≡ h x) → blackened g (blackened f b) ≡ blackened h b
blackened_twice f g h b e = same_bytes h b (blackened g (blackened f b)) (blackened_length g (blackened f b) ∙ blackened_length f b)
    (λ k l. blackened_at g (blackened f b) k (omega (arith, blackened_length f b)) ∙ ap (λ (v : ℕ). bit_or v (bits_from g (8 * k) 8 0)) (blackened_at f b k l)
    ∙ or_assoc (get_or b k 0) (bits_from f (8 * k) 8 0) (bits_from g (8 * k) 8 0)
    ∙ ap (bit_or (get_or b k 0)) (or_byte f g (8 * k) ∙ ap (λ (t : ℕ → Bool). bits_from t (8 * k) 8 0) (fun_ext e)))

-- a packed row laid over the bytes, whose columns all lie in the raster
pub blackened_packed : (f : ℕ → Bool) (columns : ℕ) (b : List ℕ) → ((x : ℕ) → columns ≤ x → f x ≡ false) → laid_over b (packed f columns) ≡ blackened f b
blackened_packed f columns b e = same_bytes f b (laid_over b (packed f columns)) (over_length b (packed f columns))
    (λ k h. over_at b (packed f columns) k h ∙ ap (bit_or (get_or b k 0)) (byte k))
  where
    inside : (x : ℕ) (t : Bool) → ltb x columns ≡ t → (t && f x) ≡ f x
    inside x true q = refl
    inside x false q = sym (e x (ltb-false x columns q))

    byte : (k : ℕ) → get_or (packed f columns) k 0 ≡ bits_from f (8 * k) 8 0
    byte k = elim (packed_at f columns k) [
      | inl q ↦ q ∙ bits_ext (λ x. ltb x columns && f x) f 8 (8 * k) (8 * k) 0 (λ c l. inside (8 * k + c) (ltb (8 * k + c) columns) refl)
      | inr q ↦ q.0 ∙ sym (clear_bits f (8 * k) 8 (λ c l. e (8 * k + c) (omega (arith, q.1))))
    ]

-- ---- bit by bit: a column is black that was, or that is laid over
pub black_blackened : (f : ℕ → Bool) (b : List ℕ) (x : ℕ) → x / 8 < length b → bit_at (blackened f b) x ≡ (bit_at b x || f x)
black_blackened f b x h = over_black b (bytes_from f 0 (length b)) x h ∙ ap (λ (t : Bool). bit_at b x || t) (bytes_black f (length b) x h)

-- of bytes that were clear those alone, none of which lies past the bytes
pub blackened_clear : (f : ℕ → Bool) (n x : ℕ) → (n ≤ x / 8 → f x ≡ false) → bit_at (blackened f (replicate n 0)) x ≡ f x
blackened_clear f n x e = elim (dec_le n (x / 8)) [
  | yes h ↦ bit_clear (blackened f zeros) x (get_or-eq_default (blackened f zeros) 0 {n = x / 8} (omega (arith, blackened_length f zeros, long))) ∙ sym (e h)
  | no h ↦ black_blackened f zeros x (omega (arith, long)) ∙ ap (λ (t : Bool). t || f x) (bit_clear zeros x (get_or-replicate n (x / 8) 0 0 (omega arith)))
]
  where
    zeros : List ℕ
    zeros = replicate n 0

    long : length zeros ≡ n
    long = length-replicate n 0
