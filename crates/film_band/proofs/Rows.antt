-- A row of a film, one stroke more at a time; and rows laid over rows.
use Prim.Native.Nat.{ℕ, zero, suc, ◌+◌, ◌*◌}
use native.Mathlib.Numerals.{add-one}
use native.Mathlib.Nat.{zero-mul, suc-mul}
use native.Mathlib.Omega.{arith}
use mathlib.Core.Path.{◌≡◌, refl, sym, ap, ap₂, ◌∙◌}
use mathlib.Core.List.{List, ◌++◌}
use lib.ListN.{length, get_or, replicate, replicate-append-replicate}
use lib.Seq.{take_at, drop_at}
use Rattle.bits.specs.Bits.{laid_over}
use Rattle.band.specs.Theorems.{rows_over}
use Rattle.pbm.specs.Pbm.{top_first}
use Rattle.drawing.specs.Strokes.{Drawing, table_in, path_of}
use Rattle.drawing.specs.Film.{added, row_up_to}

-- a row with one stroke more
pub row_more : (d : Drawing) (columns rows j room k : ℕ) →
    added (table_in d) (get_or d.apertures k 0) (path_of d.starts d.entries k) columns rows j (row_up_to d columns rows j room k) ≡ row_up_to d columns rows j room (k + 1)
unfolding row_up_to
row_more d columns rows j room k = ap (row_up_to d columns rows j room) (sym (add-one k))

-- rows of zeros
pub zero_rows : (width n : ℕ) → replicate (n * width) 0 ≡ top_first n (λ j. replicate width 0)
unfolding top_first
zero_rows width zero = ap (λ (m : ℕ). replicate {A = ℕ} m 0) (zero-mul width)
zero_rows width (suc n) =
    let e : suc n * width ≡ width + n * width = omega (arith, suc-mul n width) in
    ap (λ (m : ℕ). replicate {A = ℕ} m 0) e ∙ sym (replicate-append-replicate width (n * width) 0) ∙ ap (λ (l : List ℕ). replicate width 0 ++ l) (zero_rows width n)

-- other rows laid over rows of so many bytes, which is what a band call does
pub rows_over_lem : (row f : ℕ → List ℕ) (width n : ℕ) → ((j : ℕ) → length (f j) ≡ width) → rows_over row width n (top_first n f) ≡ top_first n (λ j. laid_over (f j) (row j))
unfolding rows_over top_first
rows_over_lem row f width zero h = refl
rows_over_lem row f width (suc n) h =
    ap₂ (λ (a b : List ℕ). laid_over a (row n) ++ rows_over row width n b) (take_at (f n) (top_first n f) width (h n)) (drop_at (f n) (top_first n f) width (h n))
    ∙ ap (λ (l : List ℕ). laid_over (f n) (row n) ++ l) (rows_over_lem row f width n h)
