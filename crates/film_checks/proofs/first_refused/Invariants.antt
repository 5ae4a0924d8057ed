-- The strokes that are left give the answer.
use Rattle.std.proofs.Common.{◌≡◌, ◌-◌, length}
use Rattle.drawing.specs.Strokes.{drawing_of, first_from, first_refused}
use Rattle.film_checks.proofs.first_refused.Given as goal

abbrev pub invariant-loop-k : goal.invariant-loop-k
invariant-loop-k l =
    first_from (drawing_of l.settings l.apertures l.starts l.entries) l.columns l.rows l.k (length l.apertures - l.k)
    ≡ first_refused (drawing_of l.settings l.apertures l.starts l.entries) l.columns l.rows
