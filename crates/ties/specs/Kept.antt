-- Document 01, "Which pixels are black", and document 02, W7: the rule of kept sides.
use Rattle.std.specs.Prelude.{Bool, true, false, cond, ℤ, pos}
use Rattle.std.specs.Int.Signed.{lt_z}

-- "a side is kept if its outward normal has a rightward part, level or slanting"; W7: "the normal straight down is dropped, straight up is kept; left and right stay".
-- The outward normal is (a, b)
unfoldable pub kept : ℤ → ℤ → Bool
kept a b = cond (lt_z (pos 0) a) true (cond (lt_z a (pos 0)) false (lt_z (pos 0) b))
