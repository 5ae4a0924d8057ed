-- What is proved of the legend. The claims are types; proofs/Taken.antt proves each under its name in small letters.
use Rattle.std.specs.Prelude.{ℕ, ◌+◌, ◌*◌, ◌≤◌, ◌≡◌, List, length}
use Rattle.limits.specs.declared.Verdict.TheVariants.{Passed}
use Rattle.drawing.specs.Strokes.{film_verdict}
use Rattle.drawing.specs.Theorems.{BandDone}
use Rattle.film.specs.Legend.{legend}

-- no setting and no stroke of it is refused, and its raster is not
abbrev pub LegendTaken : Type 0
LegendTaken = film_verdict legend 640 400 ≡ Passed

-- so any of its 400 rows are put wherever there is room for them, 80 bytes to each; BandBit (drawing) says which of their bits are black, and BandsMakeFilm that
-- bands one under the other are the film
abbrev pub LegendDone : Type 0
LegendDone = (first n : ℕ) (b : List ℕ) → 1 ≤ n → first + n ≤ 400 → n * 80 ≤ length b → BandDone legend 640 400 first n 80 b
