-- The walk around the polygon, corner by corner: what stands at each place of it.
use Prim.Native.Nat.{ℕ, zero, suc, ◌+◌, ◌*◌, ◌-◌, ◌≤◌, ◌<◌}
use mathlib.Core.Path.{◌≡◌, refl, sym, ap, ap₂, ◌∙◌}
use mathlib.Core.List.{List, [], ◌∷◌, ◌++◌, map}
use native.Mathlib.Omega.{arith}
use lib.ListN.{length, get_or, take, get_or-map, get_or-append}
use lib.Seq.{get_or-take, length-take-le, get_or-append-add}
use lib.IntN.{ℤ, pos, neg_ℤ}
use Rattle.plane.specs.Point.{Pt, pt, points, corners}
use Rattle.pen.specs.Polygon.{flipped, turned, up_and_back, side, around}
use Rattle.quarter.specs.declared.Quarter.{Quarter}
use Rattle.pen.specs.Mirrored.{origin, corners_of, Mirrorable}
use Rattle.pen.proofs.Images.{side_length, around_length}

-- ---- the points of two arrays
points_at : (xs ys : List ℤ) (i : ℕ) → i < length xs → i < length ys → get_or (points xs ys) i origin ≡ pt (get_or xs i (pos 0)) (get_or ys i (pos 0))
unfolding points
points_at [] ys i h k = absurd (omega arith)
points_at (x ∷ xs) [] i h k = absurd (omega arith)
points_at (x ∷ xs) (y ∷ ys) zero h k = refl
points_at (x ∷ xs) (y ∷ ys) (suc i) h k = points_at xs ys i (omega arith) (omega arith)

points_length : (xs ys : List ℤ) → length xs ≡ length ys → length (points xs ys) ≡ length xs
unfolding points
points_length [] ys e = refl
points_length (x ∷ xs) [] e = absurd (omega arith)
points_length (x ∷ xs) (y ∷ ys) e = ap suc (points_length xs ys (omega arith))

module _ (n : ℕ) (xs ys : List ℤ) (hx : n ≤ length xs) (hy : n ≤ length ys) where
  pub corner_at_lem : (i : ℕ) → i < n → get_or (corners n xs ys) i origin ≡ pt (get_or xs i (pos 0)) (get_or ys i (pos 0))
  corner_at_lem i h =
      points_at (take n xs) (take n ys) i (rw (length-take-le n xs hx) h) (rw (length-take-le n ys hy) h)
      ∙ ap₂ pt (get_or-take n xs i (pos 0) h) (get_or-take n ys i (pos 0) h)

  pub corners_length : length (corners n xs ys) ≡ n
  corners_length = points_length (take n xs) (take n ys) (length-take-le n xs hx ∙ sym (length-take-le n ys hy)) ∙ length-take-le n xs hx

-- ---- up along q and back
up : (q l : List Pt) (i : ℕ) → i < length q → get_or (up_and_back q l) i origin ≡ get_or q i origin
unfolding up_and_back
up [] l i h = absurd (omega arith)
up (z ∷ q) l zero h = refl
up (z ∷ q) l (suc i) h = up q (flipped z ∷ l) i (omega arith)

past : (q l : List Pt) (i : ℕ) → get_or (up_and_back q l) (2 * length q + i) origin ≡ get_or l i origin
unfolding up_and_back
past [] l i = ap (λ (k : ℕ). get_or l k origin) (omega arith)
past (z ∷ q) l i = rw e (past q (flipped z ∷ l) (suc i))
  where
    e : 2 * suc (length q) + i ≡ suc (2 * length q + suc i)
    e = omega arith

back : (q l : List Pt) (k : ℕ) → k < length q → get_or (up_and_back q l) (2 * length q - 1 - k) origin ≡ flipped (get_or q k origin)
unfolding up_and_back
back [] l k h = absurd (omega arith)
back (z ∷ q) l zero h = rw e (past q (flipped z ∷ l) 0)
  where
    e : 2 * suc (length q) - 1 - 0 ≡ suc (2 * length q + 0)
    e = omega arith
back (z ∷ q) l (suc k) h = rw e (back q (flipped z ∷ l) k (omega arith))
  where
    e : 2 * suc (length q) - 1 - suc k ≡ suc (2 * length q - 1 - k)
    e = omega arith

-- ---- the walk is the right side and the same turned by half a turn
append_side : (q l m : List Pt) → up_and_back q (l ++ m) ≡ up_and_back q l ++ m
unfolding up_and_back
append_side [] l m = refl
append_side (z ∷ q) l m = ap (λ (r : List Pt). z ∷ r) (append_side q (flipped z ∷ l) m)

module _ (q : List Pt) where
  halves : around q ≡ side q ++ map turned (side q)
  halves = append_side q [] (map turned (side q))

  side_long : length (side q) ≡ 2 * length q
  side_long = omega (arith, side_length q [])

  first_half : (i : ℕ) → i < length (side q) → get_or (side q) i origin ≡ get_or (around q) i origin
  first_half i h = sym (ap (λ (l : List Pt). get_or l i origin) halves ∙ get_or-append (side q) (map turned (side q)) origin i h)

  second_half : (i : ℕ) → turned (get_or (side q) i origin) ≡ get_or (around q) (length (side q) + i) origin
  second_half i =
      sym (ap (λ (l : List Pt). get_or l (length (side q) + i) origin) halves
      ∙ get_or-append-add (side q) (map turned (side q)) i origin ∙ get_or-map turned (side q) i origin)

-- ---- the same for the code's arrays: place i, by the corner k that it comes from
module _ (q : Quarter) (m : Mirrorable q) where
  count : length (corners_of q) ≡ q.count
  count = corners_length q.count q.x q.y (omega (arith, m.few, m.x_long)) (omega (arith, m.few, m.y_long))

  corner : (k : ℕ) → k < q.count → get_or (corners_of q) k origin ≡ pt (get_or q.x k (pos 0)) (get_or q.y k (pos 0))
  corner k h = corner_at_lem q.count q.x q.y (omega (arith, m.few, m.x_long)) (omega (arith, m.few, m.y_long)) k h

  pub going_up : (i : ℕ) → i < q.count → pt (get_or q.x i (pos 0)) (get_or q.y i (pos 0)) ≡ get_or (side (corners_of q)) i origin
  going_up i h = sym (up (corners_of q) [] i (omega (arith, count)) ∙ corner i h)

  pub going_back : (i k : ℕ) → k < q.count → i ≡ 2 * q.count - 1 - k →
      pt (get_or q.x k (pos 0)) (neg_ℤ (get_or q.y k (pos 0))) ≡ get_or (side (corners_of q)) i origin
  going_back i k h e =
      let j : 2 * length (corners_of q) - 1 - k ≡ i = omega (arith, count) in
      sym (back (corners_of q) [] k (omega (arith, count)) ∙ ap flipped (corner k h)) ∙ ap (λ (j : ℕ). get_or (side (corners_of q)) j origin) j

  pub right_half : (i : ℕ) → i < 2 * q.count → get_or (side (corners_of q)) i origin ≡ get_or (around (corners_of q)) i origin
  right_half i h = first_half (corners_of q) i (omega (arith, side_long (corners_of q), count))

  pub left_half : (i : ℕ) → 2 * q.count ≤ i → turned (get_or (side (corners_of q)) (i - 2 * q.count) origin) ≡ get_or (around (corners_of q)) i origin
  left_half i h =
      let j : length (side (corners_of q)) + (i - 2 * q.count) ≡ i = omega (arith, side_long (corners_of q), count) in
      second_half (corners_of q) (i - 2 * q.count) ∙ ap (λ (j : ℕ). get_or (around (corners_of q)) j origin) j

  pub walk_long : length (around (corners_of q)) ≡ 4 * q.count
  walk_long = around_length (corners_of q) ∙ ap (λ (n : ℕ). 4 * n) count
