-- A row call over a table of apertures: "Row calls check in the order 6, 2, 4, 5, 3, 7".
use Rattle.std.specs.Prelude.{ℕ, List, ℤ}
use Rattle.aperture.specs.declared.Table.{Table}
use Rattle.aperture.specs.Table.{looked, looked_verdict, held_corners}
use Rattle.checks.specs.Checks.{call_verdict}
use Rattle.checks.specs.Answer.{Result}
use Rattle.row.specs.Answer.{row_given}

unfoldable pub row_call : Table → ℕ → List ℤ → ℕ → ℕ → ℕ → List ℕ → Result ℕ
row_call t n path columns rows j l = row_given (call_verdict (looked_verdict (looked t n)) path columns rows j) (held_corners t n) path columns j l
