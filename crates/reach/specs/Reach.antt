-- The heights that a path reaches.
use Rattle.std.specs.Prelude.{ℕ, ◌+◌, ◌*◌, ◌<◌, ◌≡◌, true, List, [], ◌∷◌, length, get_or, ℤ, pos, neg_ℤ}
use Rattle.integers.specs.Orders.{◌≼◌}
use Rattle.integers.specs.Compare.{min_z, max_z}
use Rattle.limits.specs.Sizes.{coordinate_max, in_range}

-- "Path: signed 32-bit numbers x, y, x, y, ...": its y's taken together by f, two at a time, with z where there are no more
unfoldable pub of_ys : (ℤ → ℤ → ℤ) → ℤ → List ℤ → ℤ
of_ys f z [] = z
of_ys f z (x ∷ []) = z
of_ys f z (x ∷ y ∷ l) = f y (of_ys f z l)

-- the least y of a path, and the greatest one; "each coordinate from -262,144 to 262,144", so that of a path without points they are past all others
abbrev pub least_y : List ℤ → ℤ
least_y path = of_ys min_z (pos coordinate_max) path

abbrev pub greatest_y : List ℤ → ℤ
greatest_y path = of_ys max_z (neg_ℤ (pos coordinate_max)) path

-- all coordinates are in range
abbrev pub InRange : List ℤ → Type 0
InRange path = (k : ℕ) → k < length path → in_range (get_or path k (pos 0)) ≡ true

-- no y of the path is less, and none is greater
abbrev pub NoneUnder : List ℤ → ℤ → Type 0
NoneUnder path y = (k : ℕ) → 2 * k + 1 < length path → y ≼ get_or path (2 * k + 1) (pos 0)

abbrev pub NoneOver : List ℤ → ℤ → Type 0
NoneOver path y = (k : ℕ) → 2 * k + 1 < length path → get_or path (2 * k + 1) (pos 0) ≼ y
