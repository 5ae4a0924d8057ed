-- The corners that two arrays hold, read place by place.
use Prim.Native.Nat.{ℕ, zero, suc, min, ◌≤◌, ◌<◌}
use native.Mathlib.Omega.{arith}
use mathlib.Core.Path.{◌≡◌, refl, ap, ◌∙◌}
use mathlib.Core.List.{List, [], ◌∷◌}
use lib.ListN.{length, get_or, drop}
use lib.Seq.{drop-cons}
use lib.IntN.{ℤ, pos, neg_ℤ}
use Rattle.plane.specs.Point.{Pt, pt, points, corners}
use Rattle.plane.specs.Polygon.{reach}

abbrev pub origin : Pt
origin = pt (pos 0) (pos 0)

-- place i of the arrays
abbrev pub place : List ℤ → List ℤ → ℕ → Pt
place xs ys i = pt (get_or xs i (pos 0)) (get_or ys i (pos 0))

pub corners_long : (n : ℕ) (xs ys : List ℤ) → n ≤ length xs → n ≤ length ys → length (corners n xs ys) ≡ n
unfolding points
corners_long zero xs ys h k = refl
corners_long (suc n) [] ys h k = absurd (omega arith)
corners_long (suc n) (x ∷ xs) [] h k = absurd (omega arith)
corners_long (suc n) (x ∷ xs) (y ∷ ys) h k = ap suc (corners_long n xs ys (omega arith) (omega arith))

corner_at_lem : (n : ℕ) (xs ys : List ℤ) (i : ℕ) → n ≤ length xs → n ≤ length ys → i < n → get_or (corners n xs ys) i origin ≡ place xs ys i
unfolding points
corner_at_lem zero xs ys i h k l = absurd (omega arith)
corner_at_lem (suc n) [] ys i h k l = absurd (omega arith)
corner_at_lem (suc n) (x ∷ xs) [] i h k l = absurd (omega arith)
corner_at_lem (suc n) (x ∷ xs) (y ∷ ys) zero h k l = refl
corner_at_lem (suc n) (x ∷ xs) (y ∷ ys) (suc i) h k l = corner_at_lem n xs ys i (omega arith) (omega arith) (omega arith)

-- the corners from i on
pub from_place : (n : ℕ) (xs ys : List ℤ) (i : ℕ) → n ≤ length xs → n ≤ length ys → i < n → drop i (corners n xs ys) ≡ place xs ys i ∷ drop (suc i) (corners n xs ys)
from_place n xs ys i h k l =
    let cs = corners n xs ys in
    drop-cons cs i origin (omega (arith, corners_long n xs ys h k)) ∙ ap (λ (z : Pt). z ∷ drop (suc i) cs) (corner_at_lem n xs ys i h k l)

-- as many as both arrays have are all of them
pub corners_all : (n m : ℕ) (xs ys : List ℤ) → n ≡ min m (min (length xs) (length ys)) → corners m xs ys ≡ corners n xs ys
unfolding points
corners_all zero zero xs ys h = refl
corners_all zero (suc m) [] ys h = refl
corners_all zero (suc m) (x ∷ xs) [] h = refl
corners_all zero (suc m) (x ∷ xs) (y ∷ ys) h = absurd (omega arith)
corners_all (suc n) zero xs ys h = absurd (omega arith)
corners_all (suc n) (suc m) [] ys h = absurd (omega arith)
corners_all (suc n) (suc m) (x ∷ xs) [] h = absurd (omega arith)
corners_all (suc n) (suc m) (x ∷ xs) (y ∷ ys) h = ap (λ (l : List Pt). pt x y ∷ l) (corners_all n m xs ys (omega arith))

-- how far a pen reaches
pub reach_none : (xs ys : List ℤ) → pos 0 ≡ reach (corners 0 xs ys)
unfolding points
reach_none xs ys = refl

pub reach_some : (n : ℕ) (xs ys : List ℤ) → 0 < n → n ≤ length xs → n ≤ length ys → neg_ℤ (get_or ys 0 (pos 0)) ≡ reach (corners n xs ys)
unfolding points
reach_some zero xs ys l h k = absurd (omega arith)
reach_some (suc n) [] ys l h k = absurd (omega arith)
reach_some (suc n) (x ∷ xs) [] l h k = absurd (omega arith)
reach_some (suc n) (x ∷ xs) (y ∷ ys) l h k = refl
