-- The runs of two stretches of columns; inside the crate only.
use Rattle.std.specs.Prelude.{cond, List, [], ◌∷◌, ℕ, ◌+◌, min, max, ◌<◌, ltb}
use Rattle.limits.specs.Sizes.{raster_max}
use Rattle.stroke.specs.Runs.{Run}

-- both ends are columns of a raster
abbrev pub Inside : ℕ → ℕ → Type 0
Inside left right = (left < raster_max) × (right < raster_max)

-- the run between them
abbrev pub between : ℕ × ℕ → Run
between r = record { left = r.0; right = r.1 }

-- "so touching ones are joined": two only where a clear column is between them, the left one first
abbrev pub together : Run → Run → List Run
together r s =
    cond (ltb (r.right + 1) s.left) (r ∷ s ∷ [])
    (cond (ltb (s.right + 1) r.left) (s ∷ r ∷ []) (record { left = min r.left s.left; right = max r.right s.right } ∷ []))
