-- Document 01, "Building the pen": "the pen is that quarter and its mirror images in both axes, equal corners listed once".
-- From here on a point has whole coordinates of either sign, y upwards.
use Rattle.std.specs.Prelude.{cond, List, [], ◌∷◌, map, neg_ℤ}
use Rattle.plane.specs.Point.{Pt, pt, same}
use Rattle.setting.specs.declared.Setting.{Setting}
use Rattle.quarter.specs.Cutting.{Corner, quarter}
use Rattle.quarter.specs.Answer.{across, upwards}

-- a corner of the quarter with its y upwards, as in document 01
abbrev pub upward : Corner → Pt
upward c = pt (across c) (upwards c)

-- the mirror image in the x axis, and the point turned by half a turn
abbrev pub flipped : Pt → Pt
flipped z = pt z.x (neg_ℤ z.y)

abbrev pub turned : Pt → Pt
turned z = pt (neg_ℤ z.x) (neg_ℤ z.y)

-- up along q, back along its mirror images in the x axis, then l
unfoldable pub up_and_back : List Pt → List Pt → List Pt
up_and_back [] l = l
up_and_back (z ∷ q) l = z ∷ up_and_back q (flipped z ∷ l)

-- counterclockwise from the bottom: the right side, and the same turned by half a turn, which is the left side
abbrev pub side : List Pt → List Pt
side q = up_and_back q []

abbrev pub around : List Pt → List Pt
around q = up_and_back q (map turned (side q))

-- p and l without each corner that equals the next one, which after the last is f
unfoldable pub once_each : Pt → Pt → List Pt → List Pt
once_each f p [] = cond (same p f) [] (p ∷ [])
once_each f p (r ∷ l) = cond (same p r) (once_each f r l) (p ∷ once_each f r l)

abbrev pub closed : List Pt → List Pt
closed [] = []
closed (p ∷ l) = once_each p p l

-- the whole polygon of a quarter, and the pen of a setting
abbrev pub whole : List Pt → List Pt
whole q = closed (around q)

unfoldable pub pen : Setting → List Pt
pen σ = whole (map upward (quarter σ))
