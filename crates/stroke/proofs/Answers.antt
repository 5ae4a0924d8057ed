-- Line weight over answers: given for each row the longest runs of its black columns, with nothing cut off, both parts of demand 3 hold of the runs.
use mathlib.Core.Path.{◌≡◌}
use mathlib.Core.List.{List}
use Prim.Native.Nat.{ℕ, ◌<◌}
use lib.IntN.{ℤ, pos, ◌+ℤ◌}
use Rattle.integers.specs.Orders.{◌≼◌, ◌≺◌}
use Rattle.integers.specs.Count.{Number}
use Rattle.plane.specs.Point.{Pt}
use Rattle.plane.specs.Polygon.{PenLaws}
use Rattle.stroke.specs.Sweep.{Seg}
use Rattle.stroke.specs.Runs.{Run}
use Rattle.stroke.specs.Weight.{Direction, InsideRow, InsideColumn, InRows, offset, BlackPixel}
use Rattle.stroke.proofs.Totals.{Uncut, RowOf, CoversZ, pixel, total, total_is, covered_rows}
use Rattle.stroke.proofs.WeightTheorems.{rows_hold, column_holds}

-- the runs of v neighbouring middle rows hold c pixels together
pub rows_total : (cs : List Pt) (Dx Dy : ℤ) → PenLaws cs Dx Dy → (g : Seg) (u : ℤ) (v : ℕ) (t : ℤ) → Direction g u v t → (c : ℕ) → offset cs u v ≡ pos c →
    (j : ℤ) → ((i : ℤ) → InRows j v i → InsideRow g Dy i) → (columns : ℕ) (rs : ℕ → List Run) →
    ((k : ℕ) → k < v → Uncut columns (BlackPixel cs g) (j +ℤ pos k)) → ((k : ℕ) → k < v → RowOf columns (BlackPixel cs g) (j +ℤ pos k) (rs k)) → total rs v ≡ c
rows_total cs Dx Dy pen g u v t dir c e j inside columns rs uncut ans = total_is columns (BlackPixel cs g) j rs v c uncut ans (rows_hold cs Dx Dy pen g u v t dir c e j inside)

-- a middle column of a level stroke is covered in as many rows as the pen is high
pub column_covered : (cs : List Pt) (Dx : ℤ) (Dy : ℕ) → PenLaws cs Dx (pos Dy) → (g : Seg) → g.from.y ≡ g.to.y → ¬ (g.from.x ≡ g.to.x) →
    (i : ℤ) → InsideColumn g Dx i → (columns rows : ℕ) (rs : ℕ → List Run) →
    ((j : ℤ) → BlackPixel cs g (pixel i j) → (pos 0 ≼ i) × (i ≺ pos columns) × (pos 0 ≼ j) × (j ≺ pos rows)) →
    ((j : ℕ) → j < rows → RowOf columns (BlackPixel cs g) (pos j) (rs j)) → Number (λ j. (j < rows) × CoversZ (rs j) i) Dy
column_covered cs Dx Dy pen g flat differs i inside columns rows rs uncut ans = covered_rows columns rows (BlackPixel cs g) i rs Dy uncut ans (column_holds cs Dx Dy pen g flat differs i inside)
