-- What is proved of an outline, for every pen with the laws and every segment. Each claim is a type; proofs/Theorems.antt proves it.
use Rattle.std.specs.Prelude.{◌≡◌, ◌⊎◌, true, false, ℤ, pos, ◌+ℤ◌, ◌-ℤ◌, ◌*ℤ◌}
use Rattle.plane.specs.Point.{Pt}
use Rattle.ties.specs.Below.{below}
use Rattle.stroke.specs.Sweep.{Seg}
use Rattle.stroke.specs.Extent.{none, extent}
use Rattle.stroke.specs.Theorems.{EveryPen}
use Rattle.outline.specs.Outline.{Ordered, OnRight, OnLeft, Crossed, column_at, past}

-- in a row between the sweep's lowest height and its highest, any two edges of the outline that the row meets, one on either side, bound the extent
abbrev pub CrossedExtent : Type 0
CrossedExtent = EveryPen λ cs Dx Dy. (g : Seg) (lo hi : Pt) → Ordered g lo hi → (j : ℤ) →
    below (pos 16 *ℤ j) (lo.y -ℤ pos 8 *ℤ Dy) ≡ false → below (pos 16 *ℤ j) (hi.y +ℤ pos 8 *ℤ Dy) ≡ true →
    (P Q P' Q' : Pt) → OnLeft cs g P Q → Crossed (pos 16 *ℤ j) P Q → OnRight cs g P' Q' → Crossed (pos 16 *ℤ j) P' Q' →
    extent cs g j ≡ past (column_at P Q (pos 16 *ℤ j)) (column_at P' Q' (pos 16 *ℤ j))

-- and every other row has nothing of the segment
abbrev pub OutsideNone : Type 0
OutsideNone = EveryPen λ cs Dx Dy. (g : Seg) (lo hi : Pt) → Ordered g lo hi → (j : ℤ) →
    (below (pos 16 *ℤ j) (lo.y -ℤ pos 8 *ℤ Dy) ≡ true) ⊎ (below (pos 16 *ℤ j) (hi.y +ℤ pos 8 *ℤ Dy) ≡ false) → extent cs g j ≡ none
