-- The segments of a path are within document 01's limits where the path is.
use mathlib.Core.Path.{◌≡◌, refl}
use mathlib.Core.Bool.{true, ◌&&◌}
use mathlib.Core.Logic.{inl, inr}
use mathlib.Core.List.Memᴰ.{cases_cons as cases}
use mathlib.Core.List.Memᴰ.{head}
use mathlib.Core.List.Memᴰ.{not-nil}
use mathlib.Core.List.Memᴰ.{tail}
use mathlib.Core.List.{List, [], ◌∷◌}
use Prim.Native.Nat.{ℕ, suc, ◌<◌}
use native.Mathlib.Omega.{arith}
use lib.ListN.{length, get_or}
use lib.IntN.{ℤ, pos}
use borrow.Author.Tests.{lt-ltb}
use Rattle.integers.specs.Count.{◌∈◌}
use Rattle.integers.proofs.Tests.{and_true}
use Rattle.plane.specs.Point.{Pt}
use Rattle.limits.specs.Sizes.{in_range, raster_max, Drawable}
use Rattle.stroke.specs.Sweep.{Seg, path_points, between, segments}
use Rattle.cuts.proofs.Raster.{Near}

-- every number of the list is within the limits
abbrev Good : List ℤ → Type 0
Good p = (k : ℕ) → k < length p → in_range (get_or p k (pos 0)) ≡ true

abbrev GoodPoint : Pt → Type 0
GoodPoint P = (in_range P.x && in_range P.y) ≡ true

points_good : (p : List ℤ) → Good p → (P : Pt) → P ∈ path_points p → GoodPoint P
unfolding path_points
points_good [] h P m = absurd (not-nil m)
points_good (x ∷ []) h P m = absurd (not-nil m)
points_good (x ∷ y ∷ l) h P m = elim (cases m) [
  | inl e ↦ rw e (and_true (in_range x) (in_range y) (h 0 (omega arith)) (h 1 (omega arith)))
  | inr i ↦ points_good l (λ k q. h (suc (suc k)) (omega arith)) P i
]

between_good : (P : Pt) (l : List Pt) → GoodPoint P → ((Q : Pt) → Q ∈ l → GoodPoint Q) → (g : Seg) → g ∈ between P l → GoodPoint g.from × GoodPoint g.to
between_good P [] p h g m = absurd (not-nil m)
between_good P (Q ∷ l) p h g m = elim (cases m) [
  | inl e ↦ rw e (p, h Q (head refl))
  | inr i ↦ between_good Q l (h Q (head refl)) (λ R q. h R (tail q)) g i
]

segments_good : (l : List Pt) → ((Q : Pt) → Q ∈ l → GoodPoint Q) → (g : Seg) → g ∈ segments l → GoodPoint g.from × GoodPoint g.to
segments_good [] h g m = absurd (not-nil m)
segments_good (P ∷ []) h g m = elim (cases m) [ inl e ↦ rw e (h P (head refl), h P (head refl)) | inr i ↦ absurd (not-nil i) ]
segments_good (P ∷ Q ∷ l) h g m = between_good P (Q ∷ l) (h P (head refl)) (λ R q. h R (tail q)) g m

-- a path and a row that pass the checks are within the limits of an extent
pub drawable_near : {p : List ℤ} {columns j : ℕ} → Drawable p columns j → Near (segments (path_points p)) j
drawable_near {p} {columns} {j} d g m =
    let s = segments_good (path_points p) (points_good p d.coordinates) g m in
    and_true _ _ s.0 (and_true _ _ s.1 (lt-ltb j raster_max d.low))
