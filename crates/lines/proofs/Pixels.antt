-- The pixel lines of a row: which lines they are, that they stand in order, and that they are those of the pixels alone.
use Prim.Native.Nat.{ℕ, zero, suc, ◌+◌, ◌≤◌, ◌<◌}
use native.Mathlib.Omega.{arith}
use native.Mathlib.Decide.{ℕ_discrete}
use mathlib.Core.Path.{◌≡◌, refl, sym, ap, ap₂, ◌∙◌}
use mathlib.Core.Logic.{◌↔◌, ◌⊎◌, inl, inr}
use mathlib.Core.Bool.{Bool, true, false, cond, xor}
use mathlib.Core.List.Memᴰ.{eq_of_singleton as only}
use mathlib.Core.List.Memᴰ.{head}
use mathlib.Core.List.Memᴰ.{not-nil}
use mathlib.Core.List.{List, [], ◌∷◌, ◌++◌}
use Rattle.integers.specs.Count.{◌∈◌}
use Rattle.integers.proofs.Tests.{clash}
use Rattle.bits.specs.Bits.{bit_at}
use Rattle.difference.specs.Apart.{apart}
use Rattle.difference.proofs.OneByte.{xor_same}
use Rattle.lines.specs.Lines.{Line, pixel}
use Rattle.lines.specs.Rows.{column_lines, pixel_lines}
use Rattle.lines.specs.Theorems.{line_row, line_place, Ordered}
use Rattle.lines.proofs.Orders.{in_append, ordered_append}

-- ---- one thing, or none
one_or_none : {A : Type 0} (t : Bool) (x y : A) → (y ∈ cond t (x ∷ []) []) ↔ ((t ≡ true) × (y ≡ x))
one_or_none true x y = ((λ m. (refl, only m)), λ h. head h.1)
one_or_none false x y = ((λ m. absurd (not-nil m)), λ h. absurd (clash h.0 refl))

-- nothing follows it, so it is in order
one_ordered : (t : Bool) (l : Line) → Ordered (cond t (l ∷ []) [])
one_ordered true l = ((λ m k. absurd (not-nil k)), tt)
one_ordered false l = tt

-- which film has a pixel black that only one has
pub film_only : (s t : Bool) (film : ℕ) → ((xor s t ≡ true) × (film ≡ cond s 1 2)) ↔ (((film ≡ 1) × ((s ≡ true) × (t ≡ false))) ⊎ ((film ≡ 2) × ((s ≡ false) × (t ≡ true))))
unfolding xor
film_only true true film = ((λ h. absurd (clash h.0 refl)), λ h. elim h [ inl k ↦ absurd (clash refl k.1.1) | inr k ↦ absurd (clash refl k.1.0) ])
film_only true false film = ((λ h. inl (h.1, (refl, refl))), λ h. elim h [ inl k ↦ (refl, k.0) | inr k ↦ absurd (clash refl k.1.0) ])
film_only false true film = ((λ h. inr (h.1, (refl, refl))), λ h. elim h [ inl k ↦ absurd (clash k.1.0 refl) | inr k ↦ (refl, k.0) ])
film_only false false film = ((λ h. absurd (clash h.0 refl)), λ h. elim h [ inl k ↦ absurd (clash k.1.0 refl) | inr k ↦ absurd (clash k.1.1 refl) ])

-- ---- the lines of two rows, as row j
module _ (a b : List ℕ) (j : ℕ) where
  -- the line of column x
  abbrev pub line_of : ℕ → Line
  line_of x = pixel x j (cond (bit_at a x) 1 2)

  -- l is the line of one of n columns from i on, in which the rows differ
  pub record Shown (i n : ℕ) (l : Line) : Type 0 where
    pub column : ℕ
    pub low : i ≤ column
    pub high : column < i + n
    pub differs : apart a b column ≡ true
    pub line : l ≡ line_of column

  in_column : (i : ℕ) (l : Line) → (l ∈ column_lines a b j i) ↔ ((apart a b i ≡ true) × (l ≡ line_of i))
  in_column i l = one_or_none (apart a b i) (line_of i) l

  -- the line of the first column, or one of the others
  pub shown : (i n : ℕ) (l : Line) → l ∈ pixel_lines a b j i n → Shown i n l
  unfolding pixel_lines
  shown i zero l m = absurd (not-nil m)
  shown i (suc n) l m = elim ((in_append l (column_lines a b j i) (pixel_lines a b j (suc i) n)).0 m) [
    | inl k ↦ let h = (in_column i l).0 k in record { column = i; low = omega arith; high = omega arith; differs = h.0; line = h.1 }
    | inr k ↦ let h = shown (suc i) n l k in record { column = h.column; low = omega (arith, h.low); high = omega (arith, h.high); differs = h.differs; line = h.line }
  ]

  pub is_shown : (i n : ℕ) (l : Line) → Shown i n l → l ∈ pixel_lines a b j i n
  unfolding pixel_lines
  is_shown i zero l h = absurd (omega (arith, h.low, h.high))
  is_shown i (suc n) l h = (in_append l (column_lines a b j i) (pixel_lines a b j (suc i) n)).1 (elim (ℕ_discrete h.column i) [
    | yes e ↦ inl ((in_column i l).1 (sym (ap (apart a b) e) ∙ h.differs, h.line ∙ ap line_of e))
    | no e ↦ inr (is_shown (suc i) n l record { column = h.column; low = omega (arith, h.low, e); high = omega (arith, h.high); differs = h.differs; line = h.line })
  ])

  -- each column's line comes before those of the columns right of it
  pub pixels_ordered : (i n : ℕ) → Ordered (pixel_lines a b j i n)
  unfolding pixel_lines
  pixels_ordered i zero = tt
  pixels_ordered i (suc n) = ordered_append (column_lines a b j i) (pixel_lines a b j (suc i) n) (one_ordered (apart a b i) (line_of i)) (pixels_ordered (suc i) n) (λ l m k r.
      let e = ((in_column i l).0 k).1 in
      let h = shown (suc i) n m r in
      inr (ap line_row h.line ∙ sym (ap line_row e), omega (arith, ap line_place e, ap line_place h.line, h.low)))

-- ---- rows with the same pixels have the same lines
pub pixels_same : (a a' b b' : List ℕ) (j i n : ℕ) → ((x : ℕ) → x < i + n → bit_at a x ≡ bit_at a' x) → ((x : ℕ) → x < i + n → bit_at b x ≡ bit_at b' x) →
    pixel_lines a b j i n ≡ pixel_lines a' b' j i n
unfolding pixel_lines
pixels_same a a' b b' j i zero e f = refl
pixels_same a a' b b' j i (suc n) e f =
    ap₂ ◌++◌
    (ap₂ (λ (s t : Bool). cond (xor s t) (pixel i j (cond s 1 2) ∷ []) []) (e i (omega arith)) (f i (omega arith)))
    (pixels_same a a' b b' j (suc i) n (λ x l. e x (omega arith)) (λ x l. f x (omega arith)))

-- a row laid over itself has none
pub pixels_none : (a : List ℕ) (j i n : ℕ) → pixel_lines a a j i n ≡ []
unfolding pixel_lines
pixels_none a j i zero = refl
pixels_none a j i (suc n) =
    ap (λ (t : Bool). cond t (line_of a a j i ∷ []) [] ++ pixel_lines a a j (suc i) n) (xor_same (bit_at a i)) ∙ pixels_none a j (suc i) n
