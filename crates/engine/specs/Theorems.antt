-- What is proved of the engine. Each claim is a type; proofs/Theorems.antt proves it.
use Rattle.std.specs.Prelude.{ℕ, suc, ◌+◌, ◌/◌, ◌<◌, ◌≡◌, ◌⊎◌, ◌↔◌, List, [], ◌∷◌, length, ℤ, pos}
use Rattle.limits.specs.Exactly.{◌when◌else◌, done, BadRow, NoRoom}
use Rattle.setting.specs.declared.Setting.{Setting}
use Rattle.pen.specs.Polygon.{pen}
use Rattle.aperture.specs.declared.Table.{Table}
use Rattle.aperture.specs.Reachable.{Holds}
use Rattle.aperture.specs.Refusals.{NoPen}
use Rattle.stroke.specs.Sweep.{Seg, path_points, segments}
use Rattle.stroke.specs.Extent.{extent}
use Rattle.checks.specs.Refuses.{Refuses}
use Rattle.row.specs.Calls.{row_call}
use Rattle.flanks.specs.Flanks.{span_at}
use Rattle.engine.specs.declared.Engine.{Engine}
use Rattle.engine.specs.Engine.{started, engine_runs, step_result, stepped}

-- An engine that was started in row `row`, and has made k steps since: any number of them, with whatever lists, and refused ones among them.
pub data Driven (t : Table) (n : ℕ) (path : List ℤ) (columns rows row : ℕ) : ℕ → Engine → Type 0 where
  starts : (started t n path columns rows row).answer.refusal ≡ 0 → Driven t n path columns rows row 0 (started t n path columns rows row).engine
  steps : {k : ℕ} {e : Engine} → Driven t n path columns rows row k e → (l : List ℕ) → (step_result e l).answer.refusal ≡ 0 → Driven t n path columns rows row (suc k) (stepped e l)
  again : {k : ℕ} {e : Engine} → Driven t n path columns rows row k e → (l : List ℕ) → ¬ ((step_result e l).answer.refusal ≡ 0) → Driven t n path columns rows row k (stepped e l)

-- "It and the row answer for that pen are to be shown equal on each row, refusals 5 and 7 too, for every pen, segment and starting row": the next step answers and leaves
-- what the row call for that row does, with the table as it was at the start
abbrev pub EngineIsRow : Type 0
EngineIsRow =
    (σ : Setting) (t : Table) (n : ℕ) → Holds t n σ → (path : List ℤ) (columns rows row k : ℕ) (e : Engine) → Driven t n path columns rows row k e →
    (l : List ℕ) → step_result e l ≡ row_call t n path columns rows (row + k) l

-- "so that two processors agree at any seam": engines of the same setting, path and raster that have come to the same row, wherever each was started
abbrev pub EnginesMeet : Type 0
EnginesMeet =
    (σ : Setting) (t t' : Table) (n n' : ℕ) → Holds t n σ → Holds t' n' σ → (path : List ℤ) (columns rows row row' k k' : ℕ) (e e' : Engine) →
    Driven t n path columns rows row k e → Driven t' n' path columns rows row' k' e' → row + k ≡ row' + k' → (l : List ℕ) → step_result e l ≡ step_result e' l

-- the columns between its edges, before they are cut to the raster, are the extent of the path's one segment
abbrev pub EngineExtent : Type 0
EngineExtent =
    (σ : Setting) (t : Table) (n : ℕ) → Holds t n σ → (path : List ℤ) (columns rows row k : ℕ) (e : Engine) → Driven t n path columns rows row k e → row + k < rows →
    (g : Seg) → segments (path_points path) ≡ g ∷ [] → span_at e.flanks (row + k) ≡ extent (pen σ) g (pos (row + k))

-- "a refused step leaves its state", and the list, for any engine whatever
abbrev pub RefusedStays : Type 0
RefusedStays = (e : Engine) (l : List ℕ) → ¬ ((step_result e l).answer.refusal ≡ 0) → (stepped e l ≡ e) × ((step_result e l).list ≡ l)

-- "Starting checks as a row call does but for 7": in the words of document 01's table, with what is no segment for what is no path
abbrev pub StartRefuses : Type 0
StartRefuses =
    (t : Table) (n : ℕ) (path : List ℤ) (columns rows j : ℕ) →
    Refuses {A = ℕ} 6 (NoPen t n) (¬ ((length path ≡ 2) ⊎ (length path ≡ 4))) path columns rows j 0 0 [] (record { answer = (started t n path columns rows j).answer; list = [] })

-- and held against the row call: where a segment is lent, both are refused alike, but for 7
abbrev pub StartIsCheck : Type 0
StartIsCheck =
    (t : Table) (n : ℕ) (path : List ℤ) (columns rows j : ℕ) → (length path ≡ 2) ⊎ (length path ≡ 4) → (l : List ℕ) → ¬ ((row_call t n path columns rows j l).answer.refusal ≡ 7) →
    ((started t n path columns rows j).answer.refusal ≡ (row_call t n path columns rows j l).answer.refusal)
    × ((started t n path columns rows j).answer.place ≡ (row_call t n path columns rows j l).answer.place)

-- what a step is refused for, for any engine whatever
abbrev pub StepRefuses : Type 0
StepRefuses = (e : Engine) (l : List ℕ) (k : ℕ) →
    ((step_result e l).answer.refusal ≡ k) ↔ (5 when BadRow e.rows e.row else 7 when NoRoom (length (engine_runs e)) (length l / 2) else done) k
