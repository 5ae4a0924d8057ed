-- The rule of kept sides as a rule of heights: where a row at the height h meets an edge that runs up to the height y.
use Rattle.std.specs.Prelude.{Bool, cond, ℤ, pos}
use Rattle.std.specs.Int.Signed.{le_z, lt_z}
use Rattle.ties.specs.Kept.{kept}

-- Source document 001, figure 14: an edge contains its upper end and not its lower one, or the other way round. Where flat tops are kept it is the upper one
unfoldable pub below : ℤ → ℤ → Bool
below h y = cond (kept (pos 0) (pos 1)) (le_z h y) (lt_z h y)
