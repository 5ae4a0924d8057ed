-- A band by its pixels: which bit is which pixel's, and that no other bit is laid over.
use Prim.Native.Nat.{ℕ, suc, ◌+◌, ◌-◌, ◌*◌, ◌/◌, ◌%◌, ◌≤◌, ◌<◌}
use native.Mathlib.Nat.{add-zero, mul-suc, mul_assoc, mul_comm, mul-le-mul_left, div-add-mod, mul-add-div, mul-add-mod_self_left, div-eq_of_lt, mod-eq_of_lt}
use native.Mathlib.Omega.{arith}
use native.Mathlib.Decide.{dec_lt}
use mathlib.Core.Path.{◌≡◌, refl, sym, ap, ap₂, ◌∙◌}
use mathlib.Core.Bool.{Bool, true, false, ◌&&◌, ◌||◌}
use mathlib.Core.List.{List}
use borrow.Author.Tests.{ltb-true, lt-ltb}
use lib.Dec.{ltb}
use lib.ListN.{length, take, drop, get_or-eq_default}
use lib.Seq.{length-take-le, drop_at}
use Rattle.integers.proofs.Tests.{true_and, and_both}
use Rattle.bits.specs.Bits.{bit_at, blackened}
use Rattle.bits.proofs.Bytes.{bit_clear}
use Rattle.bits.proofs.Blackened.{blackened_length, blackened_none, black_blackened}
use Rattle.band.specs.Band.{band_black}
use Rattle.band.specs.Theorems.{LaidOver}
use Rattle.band.proofs.Parts.{blackened_cut}

-- a bit at which nothing is laid over, whether there is such a bit or not
or_none : (a b : Bool) → b ≡ false → (a || b) ≡ a
or_none true b e = refl
or_none false b e = e

bit_kept : (f : ℕ → Bool) (b : List ℕ) (z : ℕ) → f z ≡ false → bit_at (blackened f b) z ≡ bit_at b z
bit_kept f b z e = elim (dec_lt (z / 8) (length b)) [
  | yes h ↦ black_blackened f b z h ∙ or_none (bit_at b z) (f z) e
  | no h ↦
      bit_clear (blackened f b) z (get_or-eq_default (blackened f b) 0 {n = z / 8} (omega (arith, blackened_length f b)))
      ∙ sym (bit_clear b z (get_or-eq_default b 0 {n = z / 8} (omega arith)))
]

-- ---- which bit is which
-- bit 8 * stride * i + x is column x of the row i below the top one
pub is_row : (stride i x : ℕ) → x < 8 * stride → (8 * stride * i + x) / (8 * stride) ≡ i
is_row stride i x h = mul-add-div {m = 8 * stride} (omega arith) i x ∙ ap (λ (k : ℕ). i + k) (div-eq_of_lt h) ∙ add-zero i

pub is_column : (stride i x : ℕ) → x < 8 * stride → (8 * stride * i + x) % (8 * stride) ≡ x
is_column stride i x h = mul-add-mod_self_left (8 * stride) i x ∙ mod-eq_of_lt h

-- and comes before the bits of the rows from the n-th on
pub row_before : (stride n i x : ℕ) → i < n → x < 8 * stride → 8 * stride * i + x < 8 * stride * n
row_before stride n i x h k = omega (arith, k, mul-le-mul_left {m = suc i} {n = n} (8 * stride) h, mul-suc (8 * stride) i)

row_within : (stride n i x : ℕ) → i < n → x < 8 * stride → 8 * stride * i + x < 8 * (n * stride)
row_within stride n i x h k = omega (arith, row_before stride n i x h k, mul_assoc 8 stride n, mul_comm stride n)

-- ---- what is laid over
module _ (black : ℕ → ℕ → Bool) (columns first n stride : ℕ) where
  abbrev laid : ℕ → Bool
  laid z = band_black black columns first n stride z

  pub pixel_laid : (i x : ℕ) → i < n → x < columns → columns ≤ 8 * stride → laid (8 * stride * i + x) ≡ black (first + (n - 1) - i) x
  pixel_laid i x h k w =
      ap₂ (λ (i x : ℕ). ltb i n && (ltb x columns && black (first + (n - 1) - i) x)) (is_row stride i x (omega arith)) (is_column stride i x (omega arith))
      ∙ sym (true_and (ltb i n) _ (lt-ltb i n h)) ∙ sym (true_and (ltb x columns) _ (lt-ltb x columns k))

  -- what is laid over is a pixel's
  laid_pixel : (z : ℕ) → laid z ≡ true → (z / (8 * stride) < n) × (z % (8 * stride) < columns)
  laid_pixel z e =
      let a = and_both (ltb (z / (8 * stride)) n) _ e in
      let b = and_both (ltb (z % (8 * stride)) columns) _ a.1 in
      (ltb-true (z / (8 * stride)) n a.0, ltb-true (z % (8 * stride)) columns b.0)

  not_laid : (z : ℕ) → (laid z ≡ true → ⊥) → laid z ≡ false
  not_laid z h = go (laid z) refl
    where
      go : (t : Bool) → laid z ≡ t → t ≡ false
      go true e = absurd (h e)
      go false e = refl

  past_rows : (z : ℕ) → columns ≤ 8 * stride → laid (8 * (n * stride) + z) ≡ false
  past_rows z w = not_laid (8 * (n * stride) + z) (λ e.
      let p = laid_pixel (8 * (n * stride) + z) e in
      let at = 8 * (n * stride) + z in
      omega (arith, row_within stride n (at / (8 * stride)) (at % (8 * stride)) p.0 (omega (arith, p.1)), div-add-mod at (8 * stride)))

  pub band_laid : (b : List ℕ) → columns ≤ 8 * stride → n * stride ≤ length b → LaidOver black columns first n stride b (blackened (band_black black columns first n stride) b)
  band_laid b w r = record {
    pixels = λ i x h k. let l = row_within stride n i x h (omega arith) in
        black_blackened laid b (8 * stride * i + x) (omega arith) ∙ ap (λ (t : Bool). bit_at b (8 * stride * i + x) || t) (pixel_laid i x h k w);
    others = λ z h. bit_kept laid b z (not_laid z (λ e. let p = laid_pixel z e in h (z / (8 * stride)) (z % (8 * stride)) p.0 p.1 (sym (div-add-mod z (8 * stride)))));
    past =
        ap (drop (n * stride)) (blackened_cut laid (n * stride) b)
        ∙ drop_at (blackened laid (take (n * stride) b)) _ (n * stride) (blackened_length laid (take (n * stride) b) ∙ length-take-le (n * stride) b r)
        ∙ sym (blackened_none _ (drop (n * stride) b) (λ x l. past_rows x w));
    size = blackened_length laid b;
  }
