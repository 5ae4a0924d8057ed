-- What is proved of the bands that are written. The claims are types; proofs/ proves each under its name in small letters.
use Rattle.std.specs.Prelude.{ℕ, ◌≤◌, ◌≡◌, List, ◌++◌, length}
use Rattle.limits.specs.declared.Verdict.TheVariants.{Passed}
use Rattle.pbm.specs.Pbm.{header}
use Rattle.drawing.specs.Strokes.{Drawing}
use Rattle.drawing.specs.Film.{film, band_of, band_verdict}
use Rattle.output.specs.Bands.{band_bytes, next_put, all_bands}

-- the bands one behind the other are the rows that are asked for; with a header, all rows are the film
pub record InOrder (d : Drawing) (columns rows : ℕ) : Type 0 where
  pub some : (first n : ℕ) → all_bands d columns rows first n ≡ band_of d columns rows first n
  pub all : header columns rows ++ all_bands d columns rows 0 rows ≡ film d columns rows

abbrev pub BandsInOrder : Type 0
BandsInOrder = (d : Drawing) (columns rows : ℕ) → InOrder d columns rows

-- nothing is written where anything is refused: the top band, which is put first, is refused where anything of the film or its rows is; and where nothing is, no
-- band is, and there is room for each
pub record AllOrNone (d : Drawing) (columns rows first n : ℕ) : Type 0 where
  pub none : (b : List ℕ) → (next_put d columns rows first n b).answer.refusal ≡ 0 → band_verdict d columns rows first n ≡ Passed
  pub all : band_verdict d columns rows first n ≡ Passed → (left : ℕ) (b : List ℕ) → 1 ≤ left → left ≤ n → band_bytes ≤ length b →
      (next_put d columns rows first left b).answer.refusal ≡ 0

abbrev pub BandsTaken : Type 0
BandsTaken = (d : Drawing) (columns rows first n : ℕ) → AllOrNone d columns rows first n
