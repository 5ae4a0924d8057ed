-- What is proved of the pen, for every setting within the limits. Each claim is a type; proofs/Theorems.antt proves it under the same name.
use Rattle.std.specs.Prelude.{◌≤◌, ◌≡◌, ◌↔◌, length, pos, nat_abs}
use Rattle.integers.specs.Count.{◌∈◌, NoDup}
use Rattle.limits.specs.Sizes.{pen_max}
use Rattle.plane.specs.Point.{Pt}
use Rattle.plane.specs.Polygon.{PenLaws}
use Rattle.setting.specs.declared.Setting.{Setting}
use Rattle.setting.specs.Setting.{Taken, Dx, Dy}
use Rattle.quarter.specs.Cutting.{Corner, quarter}
use Rattle.pen.specs.Polygon.{pen}

-- the whole has at most 132 corners, and satisfies the laws of a pen: convex, equal to its mirror images, Dx wide and Dy high
abbrev pub PenFew : Type 0
PenFew = (σ : Setting) → Taken σ → length (pen σ) ≤ pen_max

abbrev pub PenIsPen : Type 0
PenIsPen = (σ : Setting) → Taken σ → PenLaws (pen σ) (pos (Dx σ)) (pos (Dy σ))

-- "the pen is that quarter and its mirror images in both axes": a point is a corner of the pen exactly where the quarter has a corner that lies as far from
-- the y axis and as far from the x axis (the quarter's corners count from them to the right and downwards)
abbrev pub AsFar : Corner → Pt → Type 0
AsFar c z = (nat_abs z.x ≡ c.x) × (nat_abs z.y ≡ c.y)

abbrev pub CornersMirrored : Type 0
CornersMirrored = (σ : Setting) → Taken σ → (z : Pt) → (z ∈ pen σ) ↔ ((c : Corner) × (c ∈ quarter σ) × AsFar c z)

-- "equal corners listed once": no corner stands in the list twice, next to itself or further on
abbrev pub CornersOnce : Type 0
CornersOnce = (σ : Setting) → Taken σ → NoDup (pen σ)
