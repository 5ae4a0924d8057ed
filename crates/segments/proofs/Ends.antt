-- The segments of a path by its entries: where each starts, and where it ends.
use mathlib.Core.Path.{◌≡◌, ap₂, ◌∙◌}
use mathlib.Core.List.{List}
use Prim.Native.Nat.{ℕ, suc, ◌+◌, ◌*◌, ◌≤◌, ◌<◌}
use native.Mathlib.Omega.{arith}
use native.Mathlib.Decide.{dec_le}
use lib.ListN.{length, get_or}
use lib.IntN.{ℤ, pos}
use Rattle.plane.specs.Point.{Pt, pt}
use Rattle.stroke.specs.Sweep.{Seg, path_points, segments}
use Rattle.stroke.proofs.Segments.{points_long, point_at_lem, segments_some, segments_few, segment_at, dot_at_lem}
use Rattle.segments.specs.Ends.{EndsAt}

abbrev none : Pt
none = pt (pos 0) (pos 0)

-- the segment that starts at the entry f, which is that of point k, and ends at the entry t
abbrev Ends : List ℤ → ℕ → ℕ → ℕ → Seg → Type 0
Ends p k f t g = get_or (segments (path_points p)) k g
    ≡ record { from = pt (get_or p f (pos 0)) (get_or p (f + 1) (pos 0)); to = pt (get_or p t (pos 0)) (get_or p (t + 1) (pos 0)) }

-- where it is a segment the path has the entries of its start
pub start_in : (p : List ℤ) (k : ℕ) → k < length (segments (path_points p)) → 2 * k + 1 < length p
start_in p k h = elim (dec_le 2 (length (path_points p))) [
  | yes m ↦ omega (arith, segments_some (path_points p) m, points_long p)
  | no m ↦ omega (arith, segments_few (path_points p) (omega arith), points_long p)
]

-- where the path has the next point's entries, these are its end
pub next_end : (p : List ℤ) (k : ℕ) → 2 * k + 3 < length p → EndsAt p k (2 * k + 2)
next_end p k h = record { after = omega arith; held = omega arith; segment = is }
  where
    is : (g : Seg) → Ends p k (2 * k) (2 * k + 2) g
    is g =
        let e : 2 * suc k ≡ 2 * k + 2 = omega arith in
        segment_at (path_points p) k none g (omega (arith, points_long p))
        ∙ ap₂ (λ (P Q : Pt). record { from = P; to = Q }) (point_at_lem p k none (omega arith)) (rw e at (point_at_lem p (suc k) none (omega arith)))

-- where it has not, it is one point
pub own_end : (p : List ℤ) (k : ℕ) → k < length (segments (path_points p)) → length p ≤ 2 * k + 3 → EndsAt p k (2 * k)
own_end p k h l = record { after = omega arith; held = start_in p k h; segment = is }
  where
    one : (g : Seg) → length (path_points p) ≤ 1 → Ends p k (2 * k) (2 * k) g
    one g m =
        let e = segments_few (path_points p) m in
        let z : k ≡ 0 = omega arith in
        let P = point_at_lem p 0 none (omega (arith, points_long p)) in
        rw z (dot_at_lem (path_points p) none g (omega arith) ∙ ap₂ (λ (P Q : Pt). record { from = P; to = Q }) P P)

    is : (g : Seg) → Ends p k (2 * k) (2 * k) g
    is g = elim (dec_le 2 (length (path_points p))) [
      | yes m ↦ absurd (omega (arith, segments_some (path_points p) m, points_long p))
      | no m ↦ one g (omega arith)
    ]
