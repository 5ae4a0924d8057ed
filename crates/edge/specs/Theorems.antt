-- What is proved of an edge. The claim is a type; proofs/Theorems.antt proves it.
use Rattle.std.specs.Prelude.{ℕ, ◌≡◌, true, ℤ, pos, ◌+ℤ◌, ◌-ℤ◌, ◌*ℤ◌}
use Rattle.integers.specs.Orders.{◌≺◌}
use Rattle.integers.specs.Floor.{floor_div}
use Rattle.edge.specs.Edge.{placed, raised_by, numerator, near}

-- An edge from P up to Q that was placed in row j, and raised k times, has the column of the division in row j + k: the last one up to the edge. (Rows and corners are within
-- reach: a path's coordinates and a pen's.)
abbrev pub EdgeCarries : Type 0
EdgeCarries =
    (px py qx qy j : ℤ) (k : ℕ) → near px ≡ true → near py ≡ true → near qx ≡ true → near qy ≡ true → near (pos 16 *ℤ j) ≡ true → near (pos 16 *ℤ (j +ℤ pos k)) ≡ true → py ≺ qy →
    (raised_by k (placed px py qx qy (pos 16 *ℤ j))).column ≡ floor_div (numerator px py qx qy (pos 16 *ℤ (j +ℤ pos k))) (pos 16 *ℤ (qy -ℤ py))
