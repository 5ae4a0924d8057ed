-- The outline of a segment's sweep, from below to above: the pen's edges at the lower end, the segment at one corner of the pen, the pen's edges at the upper end (source
-- document 001, figure 13), on the right and on the left. A row meets one edge of each; the columns past the left one, up to the right one, are the segment's.
use Rattle.std.specs.Prelude.{◌≡◌, cond, List, ℤ, pos, ◌+ℤ◌, ◌-ℤ◌, ◌*ℤ◌}
use Rattle.std.specs.Int.Signed.{lt_z}
use Rattle.integers.specs.Orders.{◌≼◌, ◌≺◌}
use Rattle.integers.specs.Count.{◌∈◌}
use Rattle.integers.specs.Floor.{floor_div}
use Rattle.plane.specs.Point.{Pt, pt}
use Rattle.plane.specs.Polygon.{Side, dot}
use Rattle.stroke.specs.Sweep.{Seg}
use Rattle.stroke.specs.Sides.{sides}
use Rattle.stroke.specs.Extent.{Span, none, columns}
use Rattle.edge.specs.Edge.{numerator}

-- the lower end of a segment, and the upper one
pub data Ordered (g : Seg) : Pt → Pt → Type 0 where
  forward : g.from.y ≼ g.to.y → Ordered g g.from g.to
  backward : g.to.y ≼ g.from.y → Ordered g g.to g.from

-- a corner of the pen, in half pixels, at an end
abbrev pub put : Pt → Pt → Pt
put E z = pt (E.x +ℤ pos 8 *ℤ z.x) (E.y +ℤ pos 8 *ℤ z.y)

-- P to Q is an edge of the outline, along the side e: it rises, both ends lie within all sides, and on this one
pub record Outer (cs : List Pt) (g : Seg) (P Q : Pt) (e : Side) : Type 0 where
  pub rising : P.y ≺ Q.y
  pub from_in : (f : Side) → f ∈ sides cs g → dot f.a f.b P ≼ f.c
  pub to_in : (f : Side) → f ∈ sides cs g → dot f.a f.b Q ≼ f.c
  pub side : e ∈ sides cs g
  pub from_on : dot e.a e.b P ≡ e.c
  pub to_on : dot e.a e.b Q ≡ e.c

-- on the right, and on the left
abbrev pub OnRight : List Pt → Seg → Pt → Pt → Type 0
OnRight cs g P Q = (e : Side) × Outer cs g P Q e × (pos 0 ≺ e.a)

abbrev pub OnLeft : List Pt → Seg → Pt → Pt → Type 0
OnLeft cs g P Q = (e : Side) × Outer cs g P Q e × (e.a ≺ pos 0)

-- the height h is one of the edge's
abbrev pub Crossed : ℤ → Pt → Pt → Type 0
Crossed h P Q = (P.y ≼ h) × (h ≼ Q.y)

-- the last column up to the edge, in the row at the height h
abbrev pub column_at : Pt → Pt → ℤ → ℤ
column_at P Q h = floor_div (numerator P.x P.y Q.x Q.y h) (pos 16 *ℤ (Q.y -ℤ P.y))

-- the columns past l, up to r
abbrev pub past : ℤ → ℤ → Span
past l r = cond (lt_z l r) (columns (l +ℤ pos 1) r) none
