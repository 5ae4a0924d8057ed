-- What the code's arrays hold on the way to the whole polygon; inside the crate only.
use Rattle.std.specs.Prelude.{ℕ, ◌+◌, ◌≤◌, ◌<◌, ◌≡◌, cond, List, length, set, get_or, ℤ, pos}
use Rattle.integers.specs.Bound.{Abs}
use Rattle.limits.specs.Sizes.{quarter_max}
use Rattle.quarter.specs.declared.Quarter.{Quarter}
use Rattle.pen.specs.declared.Pen.{Pen}
use Rattle.pen.specs.declared.polygon.Point.{Point}
use Rattle.plane.specs.Point.{Pt, pt, same, corners}

abbrev pub origin : Pt
origin = pt (pos 0) (pos 0)

abbrev pub point_of : Point → Pt
point_of p = pt p.x p.y

-- the quarter of n corners whose numbers the two arrays hold
abbrev pub quarter_in : ℕ → List ℤ → List ℤ → Quarter
quarter_in n xs ys = record { count = n; x = xs; y = ys }

abbrev pub corners_of : Quarter → List Pt
corners_of q = corners q.count q.x q.y

-- a corner lies in the largest pen's box, so that its numbers have opposites
pub record Boxed (p : Point) : Type 0 where
  pub x_small : Abs p.x 32
  pub y_small : Abs p.y 32

-- there is a corner, all lie in the arrays, and each has an opposite
pub record Mirrorable (q : Quarter) : Type 0 where
  pub some : 1 ≤ q.count
  pub few : q.count ≤ quarter_max
  pub x_long : length q.x ≡ quarter_max
  pub y_long : length q.y ≡ quarter_max
  pub x_small : (i : ℕ) → i < q.count → Abs (get_or q.x i (pos 0)) 32
  pub y_small : (i : ℕ) → i < q.count → Abs (get_or q.y i (pos 0)) 32

-- a corner more, unless the next one is equal
abbrev pub pushed : Pen → Pt → Pt → Pen
pushed p a b = cond (same a b) p (record { count = p.count + 1; x = set p.x p.count a.x; y = set p.y p.count a.y })
