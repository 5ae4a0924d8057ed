-- Every other row has nothing of the segment. A row above the sweep has not, and nor has one below it. One at the sweep's lowest height has not either: a black centre there would have
-- the point beside it in the sweep (theorem 2b of strokes), and that point lies still lower.
use mathlib.Core.Path.{◌≡◌}
use mathlib.Core.Logic.{◌⊎◌, inl, inr}
use mathlib.Core.Bool.{true, false}
use mathlib.Core.List.{List, map}
use native.Mathlib.Omega.{arith}
use lib.IntN.{ℤ, pos, ◌+ℤ◌, ◌-ℤ◌, ◌*ℤ◌}
use Rattle.integers.specs.Orders.{◌≼◌, ◌≺◌}
use Rattle.integers.specs.Compare.{min_z, max_z}
use Rattle.integers.proofs.Ring.{ring, reify, ◌⊢◌}
use Rattle.integers.proofs.Order.{mul_nn, sub_nn, sub_pos, le_refl, mul_mono, lt_le}
use Rattle.integers.proofs.Signs.{square_pos}
use Rattle.integers.proofs.Tests.{clash, max_l, max_r, max_le, le_min}
use Rattle.plane.specs.Point.{Pt}
use Rattle.plane.specs.Polygon.{PenLaws}
use Rattle.ties.specs.Below.{below}
use Rattle.ties.proofs.Heights.{below_laws, below_says}
use Rattle.stroke.specs.Sweep.{Seg, centre}
use Rattle.stroke.specs.Black.{Black}
use Rattle.stroke.specs.Beside.{larger, larger_seg, beside}
use Rattle.stroke.specs.Extent.{none, extent}
use Rattle.stroke.proofs.Support.{one_lt}
use Rattle.stroke.proofs.Enlarged.{pen_larger}
use Rattle.stroke.proofs.Beside.{black_beside}
use Rattle.stroke.proofs.Reach.{sweep_below, sweep_above}
use Rattle.stroke.proofs.Columns.{extent_iff}
use Rattle.outline.specs.Outline.{Ordered, forward, backward}
use Rattle.outline.specs.Theorems.{OutsideNone}
use Rattle.outline.proofs.Spans.{same_span, extent_proper}

-- both ends lie from the lower one up to the upper one
lowest : (g : Seg) {lo hi : Pt} → Ordered g lo hi → (lo.y ≼ g.from.y) × (lo.y ≼ g.to.y)
lowest g (forward o) = (le_refl g.from.y, o)
lowest g (backward o) = (o, le_refl g.to.y)

highest : (g : Seg) {lo hi : Pt} → Ordered g lo hi → (g.from.y ≼ hi.y) × (g.to.y ≼ hi.y)
highest g (forward o) = (o, le_refl g.to.y)
highest g (backward o) = (le_refl g.from.y, o)

-- the point beside lies below the lowest height, N times as large
too_low : (N l D h m : ℤ) → pos 0 ≺ N → h ≼ l -ℤ pos 8 *ℤ D → N *ℤ l ≼ m → ¬ (m -ℤ pos 8 *ℤ (N *ℤ D) ≼ N *ℤ h -ℤ pos 1)
too_low = ring 5 _ (λ ρ n k e s. mul_nn (sub_pos n) (sub_nn k) ⊢ k ⊢ e ⊢ s ⊢ simp (reify, ρ) (omega arith))

as_high : (h M H D : ℤ) → h ≼ M +ℤ pos 8 *ℤ D → M ≼ H → h ≼ H +ℤ pos 8 *ℤ D
as_high = ring 4 _ (λ ρ. simp (reify, ρ) (omega arith))

module _ (cs : List Pt) (Dx Dy : ℤ) (pen : PenLaws cs Dx Dy) (g : Seg) {lo hi : Pt} (o : Ordered g lo hi) (i j : ℤ) where
  -- by a drawing that is enlarged enough
  low_empty : pos 16 *ℤ j ≼ lo.y -ℤ pos 8 *ℤ Dy → ¬ Black cs g (centre i j)
  low_empty k b =
      let r = black_beside cs Dx Dy pen g (centre i j) in
      let m = max_z r.0 (pos 1) in
      let N = m *ℤ m in
      let n = square_pos m (one_lt m (max_r r.0 (pos 1))) in
      let s = sweep_above (map (larger N) cs) (N *ℤ Dx) (N *ℤ Dy) (pen_larger N n cs Dx Dy pen) (larger_seg N g) (beside m (centre i j)) ((r.1 m (max_l r.0 (pos 1))).0 b) in
      let times : (y : ℤ) → lo.y ≼ y → N *ℤ lo.y ≼ N *ℤ y = λ y. mul_mono N lo.y y (lt_le (pos 0) N n) in
      let e = le_min (N *ℤ g.from.y) (N *ℤ g.to.y) (N *ℤ lo.y) (times g.from.y (lowest g o).0) (times g.to.y (lowest g o).1) in
      too_low N lo.y Dy (pos 16 *ℤ j) (min_z (N *ℤ g.from.y) (N *ℤ g.to.y)) n k e s

  -- nothing of the sweep lies higher than the pen reaches from the upper end
  black_under : Black cs g (centre i j) → pos 16 *ℤ j ≼ hi.y +ℤ pos 8 *ℤ Dy
  black_under b =
      let M = max_z g.from.y g.to.y in
      as_high (pos 16 *ℤ j) M hi.y Dy (sweep_below cs Dx Dy pen g (centre i j) b.swept) (max_le g.from.y g.to.y hi.y (highest g o).0 (highest g o).1)

  -- a row at the highest height is no such row: here, and only here, it counts which of the two heights the rule includes
  no_black : (below (pos 16 *ℤ j) (lo.y -ℤ pos 8 *ℤ Dy) ≡ true) ⊎ (below (pos 16 *ℤ j) (hi.y +ℤ pos 8 *ℤ Dy) ≡ false) → ¬ Black cs g (centre i j)
  no_black (inl k) b = low_empty (below_laws.upto (pos 16 *ℤ j) (lo.y -ℤ pos 8 *ℤ Dy) k) b
  no_black (inr k) b = clash ((below_says (pos 16 *ℤ j) (hi.y +ℤ pos 8 *ℤ Dy)).1 (black_under b)) k

pub outside_none : OutsideNone
outside_none cs Dx Dy pen g lo hi o j k =
    same_span (extent cs g j) none (extent_proper cs g j) tt (λ i. ((λ m. no_black cs Dx Dy pen g o i j k ((extent_iff cs Dx Dy pen g i j).0 m)), λ m. absurd m))
