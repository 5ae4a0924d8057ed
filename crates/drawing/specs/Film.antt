-- The film of a drawing, that is the strokes' packed rows laid over each other; and some neighbouring rows of it, a band.
use Rattle.std.specs.Prelude.{ℕ, zero, suc, ◌+◌, List, length, get_or, replicate, ℤ}
use Rattle.limits.specs.declared.Verdict.{Verdict}
use Rattle.limits.specs.Refusal.{◌then◌}
use Rattle.aperture.specs.declared.Table.{Table}
use Rattle.checks.specs.Checks.{row_verdict}
use Rattle.checks.specs.Answer.{Result, given}
use Rattle.bits.specs.Bits.{packed_length, laid_over}
use Rattle.packed.specs.Packed.{packed_call}
use Rattle.band.specs.Band.{top_row}
use Rattle.pbm.specs.Pbm.{top_first, file, file_offer}
use Rattle.drawing.specs.Strokes.{Drawing, table_in, path_of, film_verdict}

-- bytes with row j of one stroke laid over them
abbrev pub added : Table → ℕ → List ℤ → ℕ → ℕ → ℕ → List ℕ → List ℕ
added t n path columns rows j b = laid_over b (packed_call t n path columns rows j (replicate (length b) 0)).list

-- so many bytes of row j with the first n strokes
unfoldable pub row_up_to : Drawing → ℕ → ℕ → ℕ → ℕ → ℕ → List ℕ
row_up_to d columns rows j width zero = replicate width 0
row_up_to d columns rows j width (suc k) = added (table_in d) (get_or d.apertures k 0) (path_of d.starts d.entries k) columns rows j (row_up_to d columns rows j width k)

-- so many bytes of row j with all strokes
abbrev pub row_of : Drawing → ℕ → ℕ → ℕ → ℕ → List ℕ
row_of d columns rows width j = row_up_to d columns rows j width (length d.apertures)

abbrev pub film : Drawing → ℕ → ℕ → List ℕ
film d columns rows = file columns rows (row_of d columns rows (packed_length columns))

-- ---- a band: the film's rows from `first` on, n of them, the top one first
abbrev pub band_of : Drawing → ℕ → ℕ → ℕ → ℕ → List ℕ
band_of d columns rows first n = top_first n (λ j. row_of d columns rows (packed_length columns) (first + j))

-- 5 comes after all that is checked of the film
abbrev pub band_verdict : Drawing → ℕ → ℕ → ℕ → ℕ → Verdict
band_verdict d columns rows first n = film_verdict d columns rows then row_verdict rows (top_row rows first n)

-- a band in a buffer, the rest of which is unchanged; 7 comes last
abbrev pub band_put : Drawing → ℕ → ℕ → ℕ → ℕ → List ℕ → Result ℕ
band_put d columns rows first n b = given (band_verdict d columns rows first n) (file_offer (band_of d columns rows first n) b)

-- a band with the first k strokes
abbrev pub band_up_to : Drawing → ℕ → ℕ → ℕ → ℕ → ℕ → List ℕ
band_up_to d columns rows first n k = top_first n (λ j. row_up_to d columns rows (first + j) (packed_length columns) k)
