-- Definitions that compute: black as a test, and the extent of a segment in a row, its first and last black column, signed and uncut, or none.
-- `black_test_lem` and `extent_black` (Theorems) say that they are black by existence, for every pen with the laws.
use Rattle.std.specs.Prelude.{Bool, true, cond, ◌&&◌, List, [], ◌∷◌, ℤ, pos, neg_ℤ, ◌+ℤ◌, ◌-ℤ◌, ◌*ℤ◌}
use Rattle.std.specs.Int.Signed.{le_z, lt_z}
use Rattle.integers.specs.Orders.{◌≼◌}
use Rattle.integers.specs.Compare.{min_z, max_z}
use Rattle.integers.specs.Floor.{floor_div}
use Rattle.plane.specs.Point.{Pt}
use Rattle.plane.specs.Polygon.{Side, dot, reach}
use Rattle.ties.specs.Kept.{kept}
use Rattle.stroke.specs.Sweep.{Seg, centre}
use Rattle.stroke.specs.Sides.{sides}

-- X is within the side: up to its line where it is kept, and not on it where it is dropped
abbrev pub within : Pt → Side → Bool
within X e = cond (kept e.a e.b) (le_z (dot e.a e.b X) e.c) (lt_z (dot e.a e.b X) e.c)

abbrev pub all : {A : Type 0} → (A → Bool) → List A → Bool
all t [] = true
all t (e ∷ l) = t e && all t l

unfoldable pub black_test : List Pt → Seg → Pt → Bool
black_test cs g X = all (within X) (sides cs g)

-- columns first..last, or none
pub data Span : Type 0 where
  none : Span
  columns : ℤ → ℤ → Span

-- the column i lies in the span
abbrev pub In : Span → ℤ → Type 0
In none i = ⊥
In (columns first last) i = (first ≼ i) × (i ≼ last)

-- a limit of the columns on one side, if there is one
pub data Limit : Type 0 where
  free : Limit
  at : ℤ → Limit

-- what the sides of a row leave: whether a flat side leaves any, and the limits on the left and on the right
pub record Left : Type 0 where
  pub some : Bool
  pub least : Limit
  pub most : Limit

-- the offset of the side in row j, over the centres (16i, 16j): a * 16i <= room
abbrev pub room : ℤ → Side → ℤ
room j e = e.c -ℤ e.b *ℤ (pos 16 *ℤ j)

abbrev pub upper : Limit → ℤ → Limit
upper free r = at r
upper (at q) r = at (min_z q r)

abbrev pub lower : Limit → ℤ → Limit
lower free r = at r
lower (at q) r = at (max_z q r)

-- a side with a rightward normal bounds the columns above, its line included; one with a leftward normal bounds them below, its line left out; a flat one
-- says whether the row has any
abbrev pub narrow : ℤ → Side → Left → Left
narrow j e s =
    cond (lt_z (pos 0) e.a) (record { some = s.some; least = s.least; most = upper s.most (floor_div (room j e) (pos 16 *ℤ e.a)) })
    (cond (lt_z e.a (pos 0)) (record { some = s.some; least = lower s.least (floor_div (neg_ℤ (room j e)) (pos 16 *ℤ neg_ℤ e.a) +ℤ pos 1); most = s.most })
    (record { some = s.some && within (centre (pos 0) j) e; least = s.least; most = s.most }))

unfoldable pub narrowed : ℤ → List Side → Left → Left
narrowed j [] s = s
narrowed j (e ∷ l) s = narrowed j l (narrow j e s)

-- the columns that are left; none where a limit is missing (no pen leaves one out) or they cross
abbrev pub span_between : Limit → Limit → Span
span_between (at l) (at r) = cond (le_z l r) (columns l r) none
span_between (at l) free = none
span_between free r = none

abbrev pub span_of : Left → Span
span_of s = cond s.some (span_between s.least s.most) none

-- the row is within the segment's reach up and down
abbrev pub reached : List Pt → Seg → ℤ → Bool
reached cs g j =
    le_z (min_z g.from.y g.to.y -ℤ pos 8 *ℤ reach cs) (pos 16 *ℤ j) && le_z (pos 16 *ℤ j) (max_z g.from.y g.to.y +ℤ pos 8 *ℤ reach cs)

unfoldable pub extent : List Pt → Seg → ℤ → Span
extent cs g j = cond (reached cs g j) (span_of (narrowed j (sides cs g) (record { some = true; least = free; most = free }))) none
