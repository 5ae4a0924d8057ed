-- Cases that compute: the bounds of `ReachBounded` (Theorems) are reached, with the widest pen there is.
use Rattle.std.specs.Prelude.{◌≡◌, refl, Option, [], ◌∷◌, map, ℤ, pos, neg_ℤ}
use Rattle.limits.specs.Sizes.{in_range}
use Rattle.setting.specs.declared.Setting.{Setting}
use Rattle.setting.specs.Setting.{taken, Dx, Dy}
use Rattle.setting.specs.Answer.{checked}
use Rattle.quarter.specs.NearRoot.{norm, lower, tried, bisect, near_root}
use Rattle.quarter.specs.Cutting.{amount, retained, corners, quarter}
use Rattle.pen.specs.Polygon.{up_and_back, once_each, pen}
use Rattle.plane.specs.Polygon.{chain, edges}
use Rattle.plane.specs.Point.{points}
use Rattle.ties.specs.Kept.{kept}
use Rattle.aperture.specs.declared.Table.{Table}
use Rattle.aperture.specs.Table.{empty, defined, looked}
use Rattle.stroke.specs.Sweep.{path_points}
use Rattle.stroke.specs.Sides.{furthest, sides}
use Rattle.stroke.specs.Extent.{narrowed, extent}
use Rattle.checks.specs.Checks.{coordinate_from}
use Rattle.extent.specs.declared.Extent.{Extent}
use Rattle.extent.specs.Answer.{spanned}
use Rattle.uncut.specs.Uncut.{reached_in}

-- w = 512, which is 32 pixels, in a table of one aperture
abbrev widest : Setting
widest = record { w = 512; p = 1; q = 1 }

abbrev pub table : Table
table = (defined empty 10 widest).table

-- a dot at the height of row 0, in that row
abbrev pub dot_at : ℤ → Option Extent
dot_at x = (reached_in table 10 (x ∷ pos 0 ∷ []) 0).extent

-- at the left end of the range, at the origin, where half of it lies left of zero, and at the right end
pub dots_reach : map dot_at (neg_ℤ (pos 262144) ∷ pos 0 ∷ pos 262144 ∷ [])
    ≡ spanned (neg_ℤ (pos 16399)) (neg_ℤ (pos 16368)) ∷ spanned (neg_ℤ (pos 15)) (pos 16) ∷ spanned (pos 16369) (pos 16400) ∷ []
unfolding taken Dx Dy checked norm lower tried bisect near_root amount retained corners quarter up_and_back once_each pen points chain edges furthest sides kept in_range narrowed extent
    coordinate_from path_points defined looked reached_in
dots_reach = refl
