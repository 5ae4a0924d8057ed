-- What only the code is asked.
use Rattle.std.specs.Prelude.{ℕ, ◌≡◌}
use Rattle.limits.specs.declared.Verdict.TheVariants.{Passed}
use Rattle.bits.specs.Bits.{packed_length}
use Rattle.drawing.specs.Strokes.{Drawing}
use Rattle.drawing.specs.Film.{band_verdict}

-- a band that is drawn: all checks are passed, and so many bytes are a row
pub record Drawn (d : Drawing) (columns rows first n width : ℕ) : Type 0 where
  pub passed : band_verdict d columns rows first n ≡ Passed
  pub wide : width ≡ packed_length columns
