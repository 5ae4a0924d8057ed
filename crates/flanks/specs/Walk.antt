-- Up the two sides of a pen, over the arrays that hold its corners: the first n places of xs and ys, counterclockwise from a lowest one.
use Rattle.std.specs.Prelude.{ℕ, zero, suc, ◌-◌, min, Bool, cond, ◌&&◌, List, ltb, get_or, ℤ, pos, ◌-ℤ◌, ◌*ℤ◌}
use Rattle.std.specs.Int.Signed.{lt_z}
use Rattle.ties.specs.Below.{below}

-- the place of corner k of a side: up the right side as they come, and up the left one backwards, from the same corner 0
abbrev pub place_of : ℕ → ℕ → Bool → ℕ
place_of k n left = cond (left && ltb 0 k) (n - k) k

-- its height over the pen's middle, in sixteenths of a pixel
abbrev pub height_at : List ℤ → ℕ → Bool → ℕ → ℤ
height_at ys n left k = pos 8 *ℤ get_or ys (place_of k n left) (pos 0)

-- from corner k on, by at most m: the last one before the first that a row at the height y over the middle lies below
unfoldable pub walked_for : List ℤ → ℕ → Bool → ℤ → ℕ → ℕ → ℕ
walked_for ys n left y zero k = k
walked_for ys n left y (suc m) k = cond (below y (height_at ys n left (suc k))) k (walked_for ys n left y m (suc k))

-- by at most as many as there are
abbrev pub walked : List ℤ → ℕ → Bool → ℤ → ℕ → ℕ
walked ys n left y k = walked_for ys n left y (n - 1 - k) (min k (n - 1))

-- how far to the right of the direction (u, v) place i lies: v x - u y
abbrev pub turn_at : List ℤ → List ℤ → ℤ → ℤ → ℕ → ℤ
turn_at xs ys u v i = v *ℤ get_or xs i (pos 0) -ℤ u *ℤ get_or ys i (pos 0)

-- of place b and the m places from i on, the first that lies furthest
unfoldable pub tangent_for : List ℤ → List ℤ → ℤ → ℤ → ℕ → ℕ → ℕ → ℕ
tangent_for xs ys u v zero i b = b
tangent_for xs ys u v (suc m) i b = tangent_for xs ys u v m (suc i) (cond (lt_z (turn_at xs ys u v b) (turn_at xs ys u v i)) i b)

abbrev pub tangent_of : List ℤ → List ℤ → ℕ → ℤ → ℤ → ℕ
tangent_of xs ys n u v = tangent_for xs ys u v (n - 1) 1 0
