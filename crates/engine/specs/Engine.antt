-- Document 02, W2: "Add a second engine for one segment .. that carries its left and right edges from row to row, upwards, starting at any row".
use Rattle.std.specs.Prelude.{ℕ, suc, ◌+◌, ◌-◌, cond, List, [], ◌∷◌, eqb, ltb, length, get_or, ℤ, pos}
use Rattle.limits.specs.Refusal.{◌then◌}
use Rattle.limits.specs.declared.Verdict.{Verdict}
use Rattle.limits.specs.declared.Verdict.TheVariants.{Passed, Refused}
use Rattle.pen.specs.declared.Pen.{Pen}
use Rattle.pen.specs.Answer.{pen_of}
use Rattle.aperture.specs.declared.Table.{Table}
use Rattle.aperture.specs.Table.{looked, looked_verdict, place_of}
use Rattle.stroke.specs.Runs.{Run, runs_of, in_span}
use Rattle.checks.specs.Checks.{segment_verdict, call_verdict, row_verdict}
use Rattle.checks.specs.Answer.{Result, done, answer_of, given}
use Rattle.row.specs.Answer.{runs_offer}
use Rattle.flanks.specs.declared.Cut.{Cut}
use Rattle.flanks.specs.Flanks.{nowhere, begun, risen, span_at}
use Rattle.engine.specs.declared.Engine.{Engine}
use Rattle.engine.specs.declared.Started.{Started}

-- ---- starting
-- "for one segment (a path of one or two points, else refusal 2)"; "Starting checks as a row call does but for 7": 6, 2, 4, 5, 3, by the row calls' own definition
abbrev pub start_verdict : Table → ℕ → List ℤ → ℕ → ℕ → ℕ → Verdict
start_verdict t n p columns rows j = call_verdict (looked_verdict (looked t n) then segment_verdict p) p columns rows j

-- "and keeps that pen". The segment runs from the path's first point to its last, which is the same where it has one point
abbrev pub engine_of : Pen → List ℤ → ℕ → ℕ → ℕ → Engine
engine_of z p columns rows j =
    let last = length p - 2 in
    record {
      pen = z;
      flanks = risen z.count z.x z.y (begun z.count z.x z.y (get_or p 0 (pos 0)) (get_or p 1 (pos 0)) (get_or p last (pos 0)) (get_or p (last + 1) (pos 0))) j;
      columns = columns;
      rows = rows;
      row = j;
    }

-- an engine of a start that was refused: it has no rows
abbrev pub stopped : Engine
stopped = record { pen = pen_of []; flanks = nowhere; columns = 0; rows = 0; row = 0 }

abbrev pub started_by : Verdict → Engine → Started
started_by Passed e = record { answer = done 0; engine = e }
started_by (Refused n place) e = record { answer = answer_of (Refused n place); engine = stopped }

unfoldable pub started : Table → ℕ → List ℤ → ℕ → ℕ → ℕ → Started
started t n p columns rows j = started_by (start_verdict t n p columns rows j) (engine_of (place_of t n).pen p columns rows j)

-- ---- one row after another
-- the columns of a cut as a run
abbrev pub cut_runs : Cut → List Run
cut_runs c = cond (ltb c.first c.end) (record { left = c.first; right = c.end - 1 } ∷ []) []

-- the runs of the row in which the engine stands: the columns between its edges, cut to the raster
abbrev pub engine_runs : Engine → List Run
engine_runs e = runs_of (λ x. in_span (span_at e.flanks e.row) (pos x)) e.columns

-- "refusals 5 and 7 too": 5 after the last row, then 7
unfoldable pub step_result : Engine → List ℕ → Result ℕ
step_result e l = given (row_verdict e.rows e.row) (runs_offer (engine_runs e) l)

-- one row up
abbrev pub next : Engine → Engine
next e =
    let z = e.pen in
    record { pen = z; flanks = risen z.count z.x z.y e.flanks (suc e.row); columns = e.columns; rows = e.rows; row = suc e.row }

-- "a refused step leaves its state"
unfoldable pub stepped : Engine → List ℕ → Engine
stepped e l = cond (eqb (step_result e l).answer.refusal 0) (next e) e
