-- The film by its bands: the claim BandsMakeFilm.
use Prim.Native.Nat.{ℕ, ◌+◌}
use native.Mathlib.Nat.{zero-add, add_assoc}
use mathlib.Core.Path.{sym, ap, ◌∙◌}
use mathlib.Core.List.{List, ◌++◌}
use Rattle.bits.specs.Bits.{packed_length}
use Rattle.pbm.specs.Pbm.{header}
use Rattle.drawing.specs.Film.{row_of, band_of}
use Rattle.drawing.specs.Theorems.{BandsMakeFilm}
use Rattle.drawing.proofs.Rows.{same_rows, rows_cut}

pub bands_make_film : BandsMakeFilm
bands_make_film d columns rows = record {
  whole = ap (λ (l : List ℕ). header columns rows ++ l) (same_rows row (λ j. row (0 + j)) rows (λ j h. ap row (sym (zero-add j))));
  meet = λ first k m.
      rows_cut (λ j. row (first + j)) k m
      ∙ ap (λ (l : List ℕ). l ++ band_of d columns rows first k) (same_rows (λ j. row (first + (k + j))) (λ j. row (first + k + j)) m (λ j h. ap row (sym (add_assoc first k j))));
}
  where
    row : ℕ → List ℕ
    row = row_of d columns rows (packed_length columns)
