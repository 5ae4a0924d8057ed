-- What is proved of an uncut extent. Each claim is a type; proofs/Theorems.antt proves it.
use Rattle.std.specs.Prelude.{ℕ, ◌+◌, ◌<◌, ◌≡◌, ◌⊎◌, ◌↔◌, Option, Some, None, List, [], ◌∷◌, length, ℤ, pos, neg_ℤ, ◌+ℤ◌, ◌*ℤ◌}
use Rattle.integers.specs.Orders.{◌≼◌}
use Rattle.limits.specs.Exactly.{◌when◌else◌, done, FirstBad, BadCoordinate}
use Rattle.setting.specs.declared.Setting.{Setting}
use Rattle.pen.specs.Polygon.{pen}
use Rattle.aperture.specs.declared.Table.{Table}
use Rattle.aperture.specs.Table.{looked, looked_verdict}
use Rattle.aperture.specs.Reachable.{Holds}
use Rattle.aperture.specs.Refusals.{NoPen}
use Rattle.stroke.specs.Sweep.{path_points, centre}
use Rattle.stroke.specs.Black.{BlackPath}
use Rattle.stroke.specs.Runs.{Run}
use Rattle.extent.specs.declared.Extent.{Extent}
use Rattle.extent.specs.Answer.{answered, spanned}
use Rattle.cuts.specs.declared.cut.Cut.{Cut}
use Rattle.cuts.specs.Cuts.{cut_to}
use Rattle.checks.specs.Checks.{call_verdict}
use Rattle.checks.specs.Answer.{given}
use Rattle.row.specs.Answer.{runs_offer}
use Rattle.row.specs.Calls.{row_call}
use Rattle.flanks.specs.Flanks.{span_at}
use Rattle.engine.specs.declared.Engine.{Engine}
use Rattle.engine.specs.Engine.{started}
use Rattle.engine.specs.Theorems.{Driven}
use Rattle.uncut.specs.Uncut.{reached_in}

-- ---- what is asked
-- "It is asked as W2's start is": the answer is that of a start in the greatest raster
abbrev pub ReachIsStart : Type 0
ReachIsStart = (t : Table) (n : ℕ) (path : List ℤ) (j : ℕ) → (reached_in t n path j).answer ≡ (started t n path 16384 16384 j).answer

-- and in the words of document 01's table, with its numbers written out
pub record UncutRefuses (t : Table) (n : ℕ) (path : List ℤ) (j : ℕ) : Type 0 where
  -- "without a raster (so a row above 16,383 is 5)": 6, 2, 5, 3, and neither 4 nor 7
  pub exactly : (k : ℕ) → ((reached_in t n path j).answer.refusal ≡ k)
      ↔ (6 when NoPen t n else 2 when (¬ ((length path ≡ 2) ⊎ (length path ≡ 4))) else 5 when (16383 < j) else 3 when BadCoordinate path else done) k
  -- "index of the first bad entry", and 0 in every other line
  pub first : (reached_in t n path j).answer.refusal ≡ 3 → FirstBad path (reached_in t n path j).answer.place
  pub nowhere : ¬ ((reached_in t n path j).answer.refusal ≡ 3) → (reached_in t n path j).answer.place ≡ 0
  -- no run is counted, and a refusal tells of no column
  pub count : (reached_in t n path j).answer.count ≡ 0
  pub none : ¬ ((reached_in t n path j).answer.refusal ≡ 0) → (reached_in t n path j).extent ≡ None

abbrev pub ReachRefuses : Type 0
ReachRefuses = (t : Table) (n : ℕ) (path : List ℤ) (j : ℕ) → UncutRefuses t n path j

-- ---- what is answered, over pixels
-- "its first and last black column .. or as none": exactly the columns from the first to the last have a property, and there is one; or none has it
abbrev pub Spans : (ℤ → Type 0) → Option Extent → Type 0
Spans black None = (i : ℤ) → ¬ black i
Spans black (Some e) = (e.first ≼ e.last) × ((i : ℤ) → black i ↔ ((e.first ≼ i) × (i ≼ e.last)))

-- black by existence, for a table made by the calls
abbrev pub ReachBlack : Type 0
ReachBlack =
    (σ : Setting) (t : Table) (n : ℕ) → Holds t n σ → (path : List ℤ) (j : ℕ) → (reached_in t n path j).answer.refusal ≡ 0 →
    Spans (λ i. BlackPath (pen σ) (path_points path) (centre i (pos j))) (reached_in t n path j).extent

-- and no other extent is so
abbrev pub SpansUnique : Type 1
SpansUnique = (black : ℤ → Type 0) (e f : Option Extent) → Spans black e → Spans black f → e ≡ f

-- "uncut": a host that has columns from -16,399 to 16,400 has all there are. (262,144 sixteenths are 16,384 pixels, and half of the widest pen is 16; on the left a column is lost, since left sides are dropped)
abbrev pub ReachBounded : Type 0
ReachBounded =
    (σ : Setting) (t : Table) (n : ℕ) → Holds t n σ → (path : List ℤ) (j : ℕ) (first last : ℤ) → (reached_in t n path j).extent ≡ spanned first last →
    (neg_ℤ (pos 16399) ≼ first) × (last ≼ pos 16400)

-- ---- films side by side
-- a path d columns further to the right, and an extent so
abbrev pub moved_right : ℤ → List ℤ → List ℤ
moved_right d [] = []
moved_right d (x ∷ []) = x ∷ []
moved_right d (x ∷ y ∷ l) = (x +ℤ pos 16 *ℤ d) ∷ y ∷ moved_right d l

abbrev pub further : ℤ → Option Extent → Option Extent
further d None = None
further d (Some e) = spanned (e.first +ℤ d) (e.last +ℤ d)

-- "Film stitching": what lies beyond one film is what another film has that counts its columns from elsewhere, by whatever table of the same setting
abbrev pub ReachMoved : Type 0
ReachMoved =
    (σ : Setting) (t t' : Table) (n n' : ℕ) → Holds t n σ → Holds t' n' σ → (path : List ℤ) (j : ℕ) (d : ℤ) →
    (reached_in t n path j).answer.refusal ≡ 0 → (reached_in t' n' (moved_right d path) j).answer.refusal ≡ 0 →
    (reached_in t' n' (moved_right d path) j).extent ≡ further d (reached_in t n path j).extent

-- ---- beside the row answer and the engine
-- the one run of a cut
abbrev pub run_of : Option Cut → List Run
run_of None = []
run_of (Some c) = record { left = c.left; right = c.right } ∷ []

-- "the row answer then cuts to the raster itself": for a path of one or two points its runs are this extent cut to the raster, whatever the table holds
abbrev pub RowCutsExtent : Type 0
RowCutsExtent =
    (t : Table) (n : ℕ) (path : List ℤ) (columns rows j : ℕ) → (length path ≡ 2) ⊎ (length path ≡ 4) → (l : List ℕ) →
    row_call t n path columns rows j l ≡ given (call_verdict (looked_verdict (looked t n)) path columns rows j) (runs_offer (run_of (cut_to columns (reached_in t n path j).extent)) l)

-- the engine, which finds its columns another way, has the same between its edges in every row that it comes to
abbrev pub EngineReaches : Type 0
EngineReaches =
    (σ : Setting) (t : Table) (n : ℕ) → Holds t n σ → (path : List ℤ) (columns rows row k : ℕ) (e : Engine) → Driven t n path columns rows row k e → row + k < rows →
    ((reached_in t n path (row + k)).answer.refusal ≡ 0) × (answered (span_at e.flanks (row + k)) ≡ (reached_in t n path (row + k)).extent)
