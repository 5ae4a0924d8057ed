-- A row between the sweep's lowest height and its highest: what any two edges that it meets leave, one on either side, is the extent.
use mathlib.Core.Path.{◌≡◌}
use mathlib.Core.Logic.Iff
use mathlib.Core.Logic.{◌↔◌, inl, inr}
use mathlib.Core.Bool.{true, false}
use mathlib.Core.List.{List}
use native.Mathlib.Omega.{arith}
use lib.IntN.{ℤ, pos, neg_ℤ, ◌+ℤ◌, ◌-ℤ◌, ◌*ℤ◌}
use Rattle.integers.specs.Orders.{◌≼◌, ◌≺◌}
use Rattle.integers.specs.Count.{◌∈◌}
use Rattle.integers.proofs.Ring.{ring, reify}
use Rattle.integers.proofs.Order.{le_or_lt, le_antisymm}
use Rattle.plane.specs.Point.{Pt, pt}
use Rattle.plane.specs.Polygon.{Side, PenLaws}
use Rattle.ties.specs.Below.{below}
use Rattle.stroke.specs.Sweep.{Seg, centre}
use Rattle.stroke.specs.Sides.{sides}
use Rattle.stroke.specs.Black.{Black}
use Rattle.stroke.specs.Extent.{extent}
use Rattle.stroke.proofs.Black.{Allows, black_iff}
use Rattle.stroke.proofs.Beside.{side_normal}
use Rattle.stroke.proofs.Columns.{extent_iff}
use Rattle.outline.specs.Outline.{Ordered, put, OnRight, OnLeft, Crossed, column_at, past}
use Rattle.outline.specs.Theorems.{CrossedExtent}
use Rattle.outline.proofs.Within.{in_low, in_high}
use Rattle.outline.proofs.Crossing.{right_allows, right_meets, left_allows, left_meets}
use Rattle.outline.proofs.Flat.{flat_allows}
use Rattle.outline.proofs.Spans.{same_span, past_proper, past_iff, extent_proper}

-- the pen's lowest corner at the lower end, and the opposite one at the upper end, are at these heights
low_corner : (l z D : ℤ) → z ≡ neg_ℤ D → l -ℤ pos 8 *ℤ D ≡ l +ℤ pos 8 *ℤ z
low_corner = ring 3 _ (λ ρ. simp (reify, ρ) (omega arith))

high_corner : (H z D : ℤ) → z ≡ neg_ℤ D → H +ℤ pos 8 *ℤ D ≡ H +ℤ pos 8 *ℤ neg_ℤ z
high_corner = ring 3 _ (λ ρ. simp (reify, ρ) (omega arith))

module _ (cs : List Pt) (Dx Dy : ℤ) (pen : PenLaws cs Dx Dy) (g : Seg) (lo hi : Pt) (o : Ordered g lo hi) (j : ℤ)
    (above : below (pos 16 *ℤ j) (lo.y -ℤ pos 8 *ℤ Dy) ≡ false) (under : below (pos 16 *ℤ j) (hi.y +ℤ pos 8 *ℤ Dy) ≡ true) where
  -- both corners are within all sides, so no flat side leaves out a centre
  flat : (i : ℤ) (f : Side) → f ∈ sides cs g → f.a ≡ pos 0 → Allows (centre i j) f
  flat i f m e =
      let z = pen.lowest.0 in
      let c = pen.lowest.1 in
      let d = pen.lowest.2 in
      flat_allows i j (put lo z) (put hi (pt z.x (neg_ℤ z.y))) f (in_low cs Dx Dy pen g o c f m) (in_high cs Dx Dy pen g o (pen.mirror_y z c) f m)
      (rw (low_corner lo.y z.y Dy d) at above) (rw (high_corner hi.y z.y Dy d) at under) e (side_normal cs Dx Dy pen g f m)

  module _ (P Q P' Q' : Pt) (l : OnLeft cs g P Q) (cl : Crossed (pos 16 *ℤ j) P Q) (r : OnRight cs g P' Q') (cr : Crossed (pos 16 *ℤ j) P' Q') where
    -- every side is one on the right, one on the left or a flat one
    column_iff : (i : ℤ) → Black cs g (centre i j) ↔ ((column_at P Q (pos 16 *ℤ j) ≺ i) × (i ≼ column_at P' Q' (pos 16 *ℤ j)))
    column_iff i =
        let b = black_iff cs Dx Dy pen g (centre i j) in (
          (λ h. let a = b.0 h in (left_meets l.1 i j cl l.2 (a l.0 l.1.side), right_meets r.1 i j cr r.2 (a r.0 r.1.side))),
          λ h. b.1 (λ f m. elim (le_or_lt f.a (pos 0)) [
            | inr k ↦ right_allows r.1 i j cr h.1 f m k
            | inl k ↦ elim (le_or_lt (pos 0) f.a) [ inr n ↦ left_allows l.1 i j cl h.0 f m n | inl n ↦ flat i f m (le_antisymm f.a (pos 0) k n) ]
          ]),
        )

    -- so both spans have the same columns
    rows_extent : extent cs g j ≡ past (column_at P Q (pos 16 *ℤ j)) (column_at P' Q' (pos 16 *ℤ j))
    rows_extent =
        let a = column_at P Q (pos 16 *ℤ j) in
        let b = column_at P' Q' (pos 16 *ℤ j) in
        same_span (extent cs g j) (past a b) (extent_proper cs g j) (past_proper a b) (λ i. Iff.trans (extent_iff cs Dx Dy pen g i j) (Iff.trans (column_iff i) (Iff.symm (past_iff a b i))))

pub crossed_extent : CrossedExtent
crossed_extent = rows_extent
