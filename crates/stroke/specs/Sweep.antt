-- Document 01, "Which pixels are black": the sweep of a segment, by existence.
-- Path numbers and centres count sixteenths of a pixel; a pen corner counts half pixels, 8 units each.
use Rattle.std.specs.Prelude.{List, [], ◌∷◌, ℤ, pos, ◌-ℤ◌, ◌*ℤ◌}
use Rattle.integers.specs.Orders.{◌≼◌}
use Rattle.integers.specs.Count.{◌∈◌}
use Rattle.plane.specs.Point.{Pt, pt}
use Rattle.plane.specs.Polygon.{Side, dot, edges}

pub record Seg : Type 0 where
  pub from : Pt
  pub to : Pt

-- "Path: signed 32-bit numbers x, y, x, y, ..."
unfoldable pub path_points : List ℤ → List Pt
path_points [] = []
path_points (x ∷ []) = []
path_points (x ∷ y ∷ l) = pt x y ∷ path_points l

-- "Pixel (i, j) has its centre at column i, row j .. so that centre is at (16i, 16j)"
abbrev pub centre : ℤ → ℤ → Pt
centre i j = pt (pos 16 *ℤ i) (pos 16 *ℤ j)

-- "One point, or two equal ones, is a dot"; "a path of one point is one such segment", with equal ends
abbrev pub between : Pt → List Pt → List Seg
between P [] = []
between P (Q ∷ l) = record { from = P; to = Q } ∷ between Q l

abbrev pub segments : List Pt → List Seg
segments [] = []
segments (P ∷ []) = record { from = P; to = P } ∷ []
segments (P ∷ Q ∷ l) = between P (Q ∷ l)

-- Z lies in the pen enlarged k times: within each of its edges
abbrev pub InPen : List Pt → ℤ → Pt → Type 0
InPen cs k Z = (e : Side) → e ∈ edges cs → dot e.a e.b Z ≼ k *ℤ (pos 8 *ℤ e.c)

-- "some whole s and k with k >= 1 and 0 <= s <= k, such that k(X - A) - s(B - A) lies in the pen enlarged k times"
pub record Sweep (cs : List Pt) (g : Seg) (X : Pt) : Type 0 where
  pub k : ℤ
  pub s : ℤ
  pub k_some : pos 1 ≼ k
  pub s_low : pos 0 ≼ s
  pub s_high : s ≼ k
  pub in_pen : InPen cs k (pt (k *ℤ (X.x -ℤ g.from.x) -ℤ s *ℤ (g.to.x -ℤ g.from.x)) (k *ℤ (X.y -ℤ g.from.y) -ℤ s *ℤ (g.to.y -ℤ g.from.y)))
