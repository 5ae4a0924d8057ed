-- The points of a path and its segments, by their place.
use mathlib.Core.Path.{◌≡◌, refl, ap, ap₂, ◌∙◌}
use mathlib.Core.List.{List, [], ◌∷◌}
use Prim.Native.Nat.{ℕ, zero, suc, ◌+◌, ◌*◌, ◌/◌, ◌-◌, ◌≤◌, ◌<◌}
use native.Mathlib.Omega.{arith}
use native.Mathlib.Numerals.{add-one}
use lib.ListN.{length, get_or}
use lib.IntN.{ℤ, pos}
use Rattle.plane.specs.Point.{Pt, pt}
use Rattle.stroke.specs.Sweep.{Seg, path_points, between, segments}
use Rattle.stroke.specs.Theorems.{PointsAre, DotIs, SegmentsAre}

-- ---- points
pub points_long : (p : List ℤ) → length (path_points p) ≡ length p / 2
unfolding path_points
points_long [] = refl
points_long (x ∷ []) = refl
points_long (x ∷ y ∷ l) = let r = points_long l in omega arith

-- a path that has the entries of point k
pub point_at_lem : (p : List ℤ) (k : ℕ) (d : Pt) → 2 * k + 1 < length p → get_or (path_points p) k d ≡ pt (get_or p (2 * k) (pos 0)) (get_or p (2 * k + 1) (pos 0))
unfolding path_points
point_at_lem [] k d h = absurd (omega arith)
point_at_lem (x ∷ []) k d h = absurd (omega arith)
point_at_lem (x ∷ y ∷ l) zero d h = refl
point_at_lem (x ∷ y ∷ l) (suc k) d h =
    let e : 2 * suc k ≡ suc (suc (2 * k)) = omega arith in
    let f : 2 * suc k + 1 ≡ suc (suc (2 * k + 1)) = omega arith in
    rw (f, e) (point_at_lem l k d (omega arith))

-- ---- segments
between_long : (P : Pt) (l : List Pt) → length (between P l) ≡ length l
between_long P [] = refl
between_long P (Q ∷ l) = ap suc (between_long Q l)

-- one for each point after the first, and one for a path of one point
pub segments_some : (l : List Pt) → 2 ≤ length l → length (segments l) ≡ length l - 1
segments_some [] h = absurd (omega arith)
segments_some (P ∷ []) h = absurd (omega arith)
segments_some (P ∷ Q ∷ l) h = omega (arith, between_long Q l)

pub segments_few : (l : List Pt) → length l ≤ 1 → length (segments l) ≡ length l
segments_few [] h = refl
segments_few (P ∷ []) h = refl
segments_few (P ∷ Q ∷ l) h = absurd (omega arith)

between_at : (P : Pt) (l : List Pt) (k : ℕ) (d : Pt) (g : Seg) → k < length l → get_or (between P l) k g ≡ record { from = get_or (P ∷ l) k d; to = get_or l k d }
between_at P [] k d g h = absurd (omega arith)
between_at P (Q ∷ l) zero d g h = refl
between_at P (Q ∷ l) (suc k) d g h = between_at Q l k d g (omega arith)

-- the segment from point k to the next one
pub segment_at : (l : List Pt) (k : ℕ) (d : Pt) (g : Seg) → suc k < length l → get_or (segments l) k g ≡ record { from = get_or l k d; to = get_or l (suc k) d }
segment_at [] k d g h = absurd (omega arith)
segment_at (P ∷ []) k d g h = absurd (omega arith)
segment_at (P ∷ Q ∷ l) k d g h = between_at P (Q ∷ l) k d g (omega arith)

-- the segment of a path of one point
pub dot_at_lem : (l : List Pt) (d : Pt) (g : Seg) → length l ≡ 1 → get_or (segments l) 0 g ≡ record { from = get_or l 0 d; to = get_or l 0 d }
dot_at_lem [] d g h = absurd (omega arith)
dot_at_lem (P ∷ []) d g h = refl
dot_at_lem (P ∷ Q ∷ l) d g h = absurd (omega arith)

-- ---- the claims
pub points_are : PointsAre
points_are p n h = (omega (arith, points_long p), λ k d l. point_at_lem p k d (omega arith))

abbrev none : Pt
none = pt (pos 0) (pos 0)

-- a list of one element is that element
one_is : (l : List Seg) (d : Seg) → length l ≡ 1 → l ≡ get_or l 0 d ∷ []
one_is [] d h = absurd (omega arith)
one_is (g ∷ []) d h = refl
one_is (g ∷ e ∷ l) d h = absurd (omega arith)

pub dot_is : DotIs
dot_is p h =
    let n : length (path_points p) ≡ 1 = omega (arith, points_long p) in
    let P = point_at_lem p 0 none (omega arith) in
    let g : Seg = record { from = none; to = none } in
    one_is (segments (path_points p)) g (omega (arith, segments_few (path_points p) (omega arith)))
    ∙ ap (λ (s : Seg). s ∷ []) (dot_at_lem (path_points p) none g n ∙ ap₂ (λ (P Q : Pt). record { from = P; to = Q }) P P)

pub segments_are : SegmentsAre
segments_are p n h m =
    let l : length (path_points p) ≡ n = omega (arith, points_long p) in (
      omega (arith, segments_some (path_points p) (omega arith)),
      λ k d i.
          segment_at (path_points p) k none d (omega arith)
          ∙ ap₂ (λ (P Q : Pt). record { from = P; to = Q }) (point_at_lem p k none (omega arith)) (rw (add-one k) (point_at_lem p (suc k) none (omega arith))),
    )
