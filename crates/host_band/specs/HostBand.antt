-- A stroke laid over a band, for the plotter's host program in C: "with numbers and byte slices only", as document 01 says of the row answer and the packed row.
use Rattle.std.specs.Prelude.{ℕ, List}
use Rattle.wire.specs.Read.{entries_of}
use Rattle.setting.specs.declared.Setting.{Setting}
use Rattle.pen.specs.Polygon.{pen}
use Rattle.checks.specs.Answer.{given}
use Rattle.band.specs.Band.{top_row, band_offer}
pub use Rattle.outcome.specs.Outcome.{length_verdict, host_verdict, coded, Outcome, told}

-- the function for C: the setting as w, p, q, the path as bytes, the answer in one number; 1, 2, 4, 5, 3, 7, as every call for a row
unfoldable pub host_band : Setting → List ℕ → ℕ → ℕ → ℕ → ℕ → ℕ → List ℕ → Outcome
host_band σ bytes columns rows first n stride b =
    told (given (host_verdict σ bytes columns rows (top_row rows first n)) (band_offer (pen σ) (entries_of bytes) columns first n stride b))
