-- The number of a row is that of its pixel lines: RowEntries of specs/Theorems.antt. Each column that is apart has one line, and lines in order are all different.
use Prim.Native.Nat.{ℕ, zero, suc, ◌+◌}
use native.Mathlib.Omega.{arith}
use mathlib.Core.Path.{◌≡◌, refl, sym, ap, ◌∙◌}
use mathlib.Core.Bool.{Bool, true, false, cond}
use mathlib.Core.List.Memᴰ.{cases_cons as cases}
use mathlib.Core.List.Memᴰ.{tail}
use mathlib.Core.List.{List, [], ◌∷◌}
use mathlib.Core.Logic.{inl, inr}
use lib.ListN.{length, length-append}
use Rattle.integers.specs.Count.{NoDup}
use Rattle.bits.specs.Bits.{bit_at}
use Rattle.difference.specs.Apart.{apart, count_below}
use Rattle.difference.proofs.Counting.{count_none, count_more, count_ext, count_add}
use Rattle.lines.specs.Lines.{Line}
use Rattle.lines.specs.Rows.{column_lines, pixel_lines}
use Rattle.lines.specs.Theorems.{line_place, Before, Ordered, RowEntries}
use Rattle.lines.proofs.Pixels.{line_of, shown, pixels_ordered}

-- no line comes before itself
not_before : (l : Line) → ¬ Before l l
not_before l b = elim b [ inl h ↦ omega (arith, h) | inr h ↦ omega (arith, h.1) ]

once : (ls : List Line) → Ordered ls → NoDup ls
once [] h = tt
once (l ∷ ls) h = ((λ m. not_before l (h.0 l m)), once ls h.1)

-- a column has one line or none
column_count : (t : Bool) (l : Line) → length (cond t (l ∷ []) []) ≡ cond t 1 0
column_count true l = refl
column_count false l = refl

module _ (a b : List ℕ) (j : ℕ) where
  -- n columns from i on have as many lines as of them are apart
  pixels_count : (i n : ℕ) → length (pixel_lines a b j i n) ≡ count_below (λ x. apart a b (i + x)) n
  unfolding pixel_lines
  pixels_count i zero = sym (count_none (λ x. apart a b (i + x)))
  pixels_count i (suc n) =
      let p : ℕ → Bool = λ x. apart a b (i + x) in
      let here : apart a b (i + 0) ≡ apart a b i = ap (apart a b) (omega arith) in
      let bit : Bool → ℕ = λ t. cond t 1 0 in
      let one : count_below p 1 ≡ bit (apart a b i) = omega (arith, count_more p 0, count_none p, ap bit here) in
      let rest : count_below (λ x. p (1 + x)) n ≡ count_below (λ x. apart a b (suc i + x)) n = count_ext _ _ n (λ x l. ap (apart a b) (omega arith)) in
      let all : count_below p (suc n) ≡ count_below p 1 + count_below (λ x. p (1 + x)) n = ap (count_below p) (omega arith) ∙ count_add p 1 n in
      omega (
        arith,
        length-append (column_lines a b j i) (pixel_lines a b j (suc i) n),
        column_count (apart a b i) (line_of a b j i),
        pixels_count (suc i) n,
        one,
        rest,
        all,
      )

pub row_entries : RowEntries
row_entries a b columns j = record {
  list = pixel_lines a b j 0 columns;
  once = once (pixel_lines a b j 0 columns) (pixels_ordered a b j 0 columns);
  size = pixels_count a b j 0 columns ∙ count_ext _ _ columns (λ x l. ap (apart a b) (omega arith));
  sound = λ l m. let h = shown a b j 0 columns l m in (tail m, (h.column, (cond (bit_at a h.column) 1 2, h.line)));
  whole = λ l h. elim (cases h.0) [
    | inl e ↦ absurd (omega (arith, ap line_place (sym e ∙ h.1.1.1)))
    | inr m ↦ m
  ];
}
