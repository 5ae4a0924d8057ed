-- The lines of a film are those of its rows, whatever the rows are.
use Prim.Native.Nat.{ℕ, zero, suc, ◌<◌}
use native.Mathlib.Omega.{arith}
use native.Mathlib.Decide.{ℕ_discrete}
use mathlib.Core.Path.{◌≡◌, refl, sym, ap₂, subst}
use mathlib.Core.Logic.{◌↔◌, inl, inr}
use mathlib.Core.List.Memᴰ.{not-nil}
use mathlib.Core.List.{List, ◌++◌}
use Rattle.integers.specs.Count.{◌∈◌}
use Rattle.lines.specs.Lines.{Line, row, pixel}
use Rattle.lines.specs.Rows.{row_lines}
use Rattle.lines.specs.Theorems.{line_row, Ordered}
use Rattle.lines.proofs.Orders.{in_append, ordered_append}
use Rattle.lines.proofs.Theorems.{row_pixels, row_number, row_ordered}
use Rattle.compare.specs.Report.{film_lines}

-- each line of row j says that it is of row j
line_row_lem : (a b : List ℕ) (columns j : ℕ) (l : Line) → l ∈ row_lines a b columns j → line_row l ≡ j
line_row_lem a b columns j (row k n) m = ((row_number a b columns j k n).0 m).0
line_row_lem a b columns j (pixel i k film) m = ((row_pixels a b columns j i k film).0 m).0

module _ (columns : ℕ) (a b : ℕ → List ℕ) where
  -- the lines of row j
  abbrev lines_at : ℕ → List Line
  lines_at j = row_lines (a j) (b j) columns j

  -- l is a line of one of so many rows
  record OfRow (rows : ℕ) (l : Line) : Type 0 where
    at : ℕ
    below : at < rows
    line : l ∈ lines_at at

  -- a line of a film is a line of its top row, or of a row below it
  of_row : (rows : ℕ) (l : Line) → l ∈ film_lines columns a b rows → OfRow rows l
  unfolding film_lines
  of_row zero l m = absurd (not-nil m)
  of_row (suc j) l m = elim ((in_append l (lines_at j) (film_lines columns a b j)).0 m) [
    | inl k ↦ record { at = j; below = omega arith; line = k }
    | inr k ↦ let h = of_row j l k in record { at = h.at; below = omega (arith, h.below); line = h.line }
  ]

  -- and each line of a row is one of the film
  is_of_row : (rows j : ℕ) (l : Line) → j < rows → l ∈ lines_at j → l ∈ film_lines columns a b rows
  unfolding film_lines
  is_of_row zero j l h m = absurd (omega arith)
  is_of_row (suc k) j l h m = (in_append l (lines_at k) (film_lines columns a b k)).1 (elim (ℕ_discrete j k) [
    | yes e ↦ inl (subst (λ (n : ℕ). l ∈ lines_at n) e m)
    | no e ↦ inr (is_of_row k j l (omega arith) m)
  ])

  -- since a line names its row, it is a line of the film exactly where it is one of the row that it names
  pub in_film : (rows : ℕ) (l : Line) → (l ∈ film_lines columns a b rows) ↔ ((line_row l < rows) × (l ∈ lines_at (line_row l)))
  in_film rows l = (
    (λ m.
        let h = of_row rows l m in
        let e = line_row_lem (a h.at) (b h.at) columns h.at l h.line in
        (omega (arith, e, h.below), subst (λ (n : ℕ). l ∈ lines_at n) (sym e) h.line)),
    λ h. is_of_row rows (line_row l) l h.0 h.1,
  )

  -- "top row first": the lines of row j come before those of the rows below it
  pub film_ordered : (rows : ℕ) → Ordered (film_lines columns a b rows)
  unfolding film_lines
  film_ordered zero = tt
  film_ordered (suc j) = ordered_append (lines_at j) (film_lines columns a b j) (row_ordered (a j) (b j) columns j) (film_ordered j)
      (λ l m x y. inl (omega (arith, line_row_lem (a j) (b j) columns j l x, ((in_film j m).0 y).0)))

-- films whose rows have the same lines have the same lines
pub film_same : (columns : ℕ) (a b a' b' : ℕ → List ℕ) (rows : ℕ) →
    ((j : ℕ) → j < rows → row_lines (a j) (b j) columns j ≡ row_lines (a' j) (b' j) columns j) →
    film_lines columns a b rows ≡ film_lines columns a' b' rows
unfolding film_lines
film_same columns a b a' b' zero e = refl
film_same columns a b a' b' (suc j) e = ap₂ ◌++◌ (e j (omega arith)) (film_same columns a b a' b' j (λ k h. e k (omega arith)))
