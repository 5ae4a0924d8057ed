-- What the code's structs hold, in the words of the definitions. These are asked and promised inside the crate only; no promise to its callers is made
-- of them.
use Rattle.std.specs.Prelude.{ℕ, ◌^◌, ◌≤◌, Bool, true, cond, Option, Some, None, List, length, ℤ, pos, ◌+ℤ◌, ◌-ℤ◌, ◌*ℤ◌}
use Rattle.std.specs.Int.Signed.{le_z, lt_z}
use Rattle.integers.specs.Bound.{Abs}
use Rattle.integers.specs.Orders.{◌≺◌}
use Rattle.integers.specs.Floor.{floor_div}
use Rattle.plane.specs.Point.{Pt, pt}
use Rattle.extent.specs.declared.limit.Fraction.{Fraction}
use Rattle.extent.specs.declared.limit.Limits.{Limits}
use Rattle.extent.specs.declared.side.Ends.{Ends}
use Rattle.extent.specs.declared.side.Beside.{Beside}
use Rattle.ties.specs.Kept.{kept}
use Rattle.stroke.specs.Sweep.{Seg}
use Rattle.stroke.specs.Extent.{Limit, free, at, Left}

-- the last column up to the fraction num / by of sixteenths, and the first column past it
abbrev pub last_to : ℤ → ℤ → ℤ
last_to num by = floor_div num (pos 16 *ℤ by)

abbrev pub at_most : Option Fraction → Limit
at_most None = free
at_most (Some f) = at (last_to f.num f.by)

abbrev pub at_least : Option Fraction → Limit
at_least None = free
at_least (Some f) = at (last_to f.num f.by +ℤ pos 1)

abbrev pub left : Limits → Left
left s = record { some = s.some; least = at_least s.least; most = at_most s.most }

-- a flat side, with the normal (0, b), leaves row 0 where it has that room there
abbrev pub flat_leaves : ℤ → ℤ → Bool
flat_leaves b room = cond (kept (pos 0) b) (le_z (pos 0) room) (lt_z (pos 0) room)

-- before the first side everything is left
abbrev pub start : Left
start = record { some = true; least = free; most = free }

-- a fraction small enough that the product of a num and a by fits 64 bits
pub record Fair (f : Fraction) : Type 0 where
  pub num_small : Abs f.num (2 ^ 40)
  pub by_small : Abs f.by (2 ^ 20)

-- a limit is so, and its divisor is positive
pub record Limiting (f : Fraction) : Type 0 where
  pub positive : pos 0 ≺ f.by
  pub fair : Fair f

abbrev pub FairLimit : Option Fraction → Type 0
FairLimit None = Unit {0}
FairLimit (Some f) = Limiting f

-- both limits are, where there are such
pub record Steady (s : Limits) : Type 0 where
  pub least : FairLimit s.least
  pub most : FairLimit s.most

-- a corner's numbers, which a byte holds
pub record Corner (x y : ℤ) : Type 0 where
  pub x_small : Abs x 128
  pub y_small : Abs y 128

-- a segment within the limits, its heights counted from a row within them
pub record Near (g : Ends) : Type 0 where
  pub ax_small : Abs g.ax (2 ^ 18)
  pub ay_small : Abs g.ay (2 ^ 19)
  pub bx_small : Abs g.bx (2 ^ 18)
  pub by_small : Abs g.by (2 ^ 19)

-- the numbers of the way between its ends, and how far out a pen reaches beside that
pub record Way (u v : ℤ) : Type 0 where
  pub u_small : Abs u (2 ^ 19)
  pub v_small : Abs v (2 ^ 20)

pub record Reaching (r : Beside) : Type 0 where
  pub right_small : Abs r.right (2 ^ 28)
  pub left_small : Abs r.left (2 ^ 28)

abbrev pub ends : Ends → Seg
ends g = record { from = pt g.ax g.ay; to = pt g.bx g.by }

-- a point and a segment, their heights counted from row j: what row j was to them row 0 is
abbrev pub lowered : ℤ → Pt → Pt
lowered j P = pt P.x (P.y -ℤ pos 16 *ℤ j)

abbrev pub from_row : ℤ → Seg → Seg
from_row j g = record { from = lowered j g.from; to = lowered j g.to }

-- both arrays hold n corners
pub record Held (n : ℕ) (xs ys : List ℤ) : Type 0 where
  pub in_xs : n ≤ length xs
  pub in_ys : n ≤ length ys
