-- Half planes, the edges of a polygon, and what every later layer uses of a pen: one record of laws over a list of corners, counterclockwise, each
-- once, and the pen's size in half pixels from its middle. Another shape of pen needs to satisfy nothing else.
use Rattle.std.specs.Prelude.{◌≡◌, List, [], ◌∷◌, ℤ, pos, neg_ℤ, ◌+ℤ◌, ◌-ℤ◌, ◌*ℤ◌}
use Rattle.integers.specs.Orders.{◌≼◌}
use Rattle.integers.specs.Count.{◌∈◌}
use Rattle.plane.specs.Point.{Pt, pt}

-- a half plane a x + b y <= c, with the outward normal (a, b)
pub record Side : Type 0 where
  pub a : ℤ
  pub b : ℤ
  pub c : ℤ

-- a x + b y at the point P
abbrev pub dot : ℤ → ℤ → Pt → ℤ
dot a b P = a *ℤ P.x +ℤ b *ℤ P.y

-- the side along the edge from P to Q: its outward normal is the direction turned right, so a normal with a > 0 belongs to an edge that runs upwards
abbrev pub edge : Pt → Pt → Side
edge P Q =
    let a = Q.y -ℤ P.y in
    let b = P.x -ℤ Q.x in
    record { a = a; b = b; c = dot a b P }

-- the edges from P along the list, and back to F
unfoldable pub chain : Pt → Pt → List Pt → List Side
chain F P [] = edge P F ∷ []
chain F P (Q ∷ l) = edge P Q ∷ chain F Q l

-- the edges of a polygon, from its first corner around
unfoldable pub edges : List Pt → List Side
edges [] = []
edges (P ∷ l) = chain P P l

-- how far up and down the pen reaches: as far as its first corner lies below the middle
abbrev pub reach : List Pt → ℤ
reach [] = pos 0
reach (z ∷ l) = neg_ℤ z.y

-- the laws of a pen
pub record PenLaws (cs : List Pt) (Dx Dy : ℤ) : Type 0 where
  -- with a corner both its mirror images are corners; so it is equal to itself turned by half a turn
  pub mirror_x : (z : Pt) → z ∈ cs → pt (neg_ℤ z.x) z.y ∈ cs
  pub mirror_y : (z : Pt) → z ∈ cs → pt z.x (neg_ℤ z.y) ∈ cs
  -- convex: every corner is within every edge; and no edge goes through the middle
  pub convex : (e : Side) (z : Pt) → e ∈ edges cs → z ∈ cs → dot e.a e.b z ≼ e.c
  pub thick : (e : Side) → e ∈ edges cs → pos 1 ≼ e.c
  -- Dx half pixels from the middle to the right, Dy to the bottom: the pen is Dx pixels wide and Dy high
  pub wide : (z : Pt) → z ∈ cs → z.x ≼ Dx
  pub high : (z : Pt) → z ∈ cs → z.y ≼ Dy
  pub rightmost : (z : Pt) × (z ∈ cs) × (z.x ≡ Dx)
  pub lowest : (z : Pt) × (z ∈ cs) × (z.y ≡ neg_ℤ Dy)
  -- the list begins at the bottom, so that its first corner tells how high the pen is
  pub reaches : reach cs ≡ Dy
  -- and it is not empty
  pub somewide : pos 1 ≼ Dx
  pub somehigh : pos 1 ≼ Dy
