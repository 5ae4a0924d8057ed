-- Points with whole coordinates of either sign, y upwards; and those that two arrays hold.
use Rattle.std.specs.Prelude.{ℕ, Bool, ◌&&◌, List, [], ◌∷◌, take, ℤ}
use Rattle.integers.specs.Compare.{eq_z}

pub record Pt : Type 0 where
  pub x : ℤ
  pub y : ℤ

abbrev pub pt : ℤ → ℤ → Pt
pt x y = record { x = x; y = y }

-- whether two points are equal
abbrev pub same : Pt → Pt → Bool
same P Q = eq_z P.x Q.x && eq_z P.y Q.y

-- the points of two lists of numbers, as far as both go
unfoldable pub points : List ℤ → List ℤ → List Pt
points [] ys = []
points (x ∷ xs) [] = []
points (x ∷ xs) (y ∷ ys) = pt x y ∷ points xs ys

-- the points that the first n places of two arrays hold
abbrev pub corners : ℕ → List ℤ → List ℤ → List Pt
corners n xs ys = points (take n xs) (take n ys)
