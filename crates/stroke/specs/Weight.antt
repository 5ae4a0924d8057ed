-- Document 01, "Line weight": what demand 3 counts, over pixels.
--
-- Why it is true, the idea of the whole crate. Let the path go from A in the direction (u, v), without common factor and v at least 1, and call
-- v i - u j the value of the pixel (i, j): pixels of one value stand on one line along the path.
--   1. In any v neighbouring rows exactly one pixel has the value n, whatever whole number n is. There are a and b with a u + b v = 1, so
--      (n b, -n a) is such a pixel; the others stand at whole multiples of (u, v) from it, so one in each v neighbouring rows.
--   2. In a row far enough inside, the ends of the stroke play no part: a pixel is black exactly when its centre lies in the strip between the two
--      lines along the path that touch the pen, the right line included and the left one not.
--   3. With c the greatest v x - u y over the pen's corners, the strip is -8 c < v (16 i - Ax) - u (16 j - Ay) <= 8 c: the value, taken 16 times, lies
--      between two numbers that are 16 c apart, of which one counts. This is so for exactly c neighbouring values, wherever A stands.
-- So v neighbouring rows hold exactly c black pixels, neither more nor fewer at any place along the stroke: one for each of those c values.
-- A level path is simpler. In a column far enough inside, a pixel is black exactly when its centre lies in the band -8 Dy < 16 j - Ay <= 8 Dy, the upper
-- line included and the lower one not: this is so for exactly Dy neighbouring j, wherever A stands.
-- The steps are in proofs/: 1 and 3 and the band's rows in Window, 2 in Rising (with NearEdge, on the edges near the ends), the level part in Level,
-- and both together in WeightTheorems.
use Rattle.std.specs.Prelude.{◌≡◌, ◌↔◌, List, [], ◌∷◌, ℕ, ◌≤◌, ℤ, pos, neg_ℤ, ◌+ℤ◌, ◌-ℤ◌, ◌*ℤ◌}
use Rattle.integers.specs.Orders.{◌≼◌, ◌≺◌}
use Rattle.integers.specs.Compare.{min_z, max_z}
use Rattle.integers.specs.Coprime.{Coprime}
use Rattle.integers.specs.Count.{Number}
use Rattle.plane.specs.Point.{Pt}
use Rattle.stroke.specs.Sweep.{Seg, centre}
use Rattle.stroke.specs.Sides.{furthest}
use Rattle.stroke.specs.Black.{BlackPath}

-- column and row
pub record Pixel : Type 0 where
  pub column : ℤ
  pub row : ℤ

-- "The path is two points, A and then B"
abbrev pub path : Seg → List Pt
path g = g.from ∷ g.to ∷ []

abbrev pub BlackPixel : List Pt → Seg → Pixel → Type 0
BlackPixel cs g p = BlackPath cs (path g) (centre p.column p.row)

-- "B - A is (u, v) taken t times, t whole and at least 1", u and v without common factor and v at least 1
pub record Direction (g : Seg) (u : ℤ) (v : ℕ) (t : ℤ) : Type 0 where
  pub rising : 1 ≤ v
  pub coprime : Coprime u v
  pub times : pos 1 ≼ t
  pub across : g.to.x -ℤ g.from.x ≡ t *ℤ u
  pub upward : g.to.y -ℤ g.from.y ≡ t *ℤ pos v

-- "Row j is far enough inside when A's y + 8Dy <= 16j <= B's y - 8Dy"
abbrev pub InsideRow : Seg → ℤ → ℤ → Type 0
InsideRow g Dy j = (g.from.y +ℤ pos 8 *ℤ Dy ≼ pos 16 *ℤ j) × (pos 16 *ℤ j ≼ g.to.y -ℤ pos 8 *ℤ Dy)

-- "column i is when the lesser x + 8Dx <= 16i <= the greater x - 8Dx"
abbrev pub InsideColumn : Seg → ℤ → ℤ → Type 0
InsideColumn g Dx i = (min_z g.from.x g.to.x +ℤ pos 8 *ℤ Dx ≼ pos 16 *ℤ i) × (pos 16 *ℤ i ≼ max_z g.from.x g.to.x -ℤ pos 8 *ℤ Dx)

-- the v rows from j on
abbrev pub InRows : ℤ → ℕ → ℤ → Type 0
InRows j v i = (j ≼ i) × (i ≺ j +ℤ pos v)

-- c is the greatest v*x - u*y over the corners
abbrev pub offset : List Pt → ℤ → ℕ → ℤ
offset cs u v = furthest (pos v) (neg_ℤ u) cs

-- Demand 3, first part: "over any v neighbouring middle rows of a stroke in direction (u, v) there are exactly c black pixels"
abbrev pub WeightOfRows : List Pt → ℤ → Type 0
WeightOfRows cs Dy =
    (g : Seg) (u : ℤ) (v : ℕ) (t : ℤ) → Direction g u v t → (c : ℕ) → offset cs u v ≡ pos c →
    (j : ℤ) → ((i : ℤ) → InRows j v i → InsideRow g Dy i) → Number (λ p. InRows j v p.row × BlackPixel cs g p) c

-- Demand 3, second part: "a level stroke is exactly as many rows high as the pen", at each column that is far enough inside
abbrev pub WeightOfColumn : List Pt → ℤ → ℕ → Type 0
WeightOfColumn cs Dx Dy =
    (g : Seg) → g.from.y ≡ g.to.y → ¬ (g.from.x ≡ g.to.x) → (i : ℤ) → InsideColumn g Dx i → Number (λ j. BlackPixel cs g (record { column = i; row = j })) Dy

-- Document 02, W7: "a boundary exactly on a centre rounds up: the lower boundary excludes that row and the upper one includes it". So the Dy rows are those past
-- the lower boundary of a level stroke, Dy half pixels below the path, and up to the upper one
abbrev pub BandOfColumn : List Pt → ℤ → ℤ → Type 0
BandOfColumn cs Dx Dy =
    (g : Seg) → g.from.y ≡ g.to.y → ¬ (g.from.x ≡ g.to.x) → (i j : ℤ) → InsideColumn g Dx i →
    BlackPixel cs g (record { column = i; row = j }) ↔ ((g.from.y -ℤ pos 8 *ℤ Dy ≺ pos 16 *ℤ j) × (pos 16 *ℤ j ≼ g.from.y +ℤ pos 8 *ℤ Dy))
