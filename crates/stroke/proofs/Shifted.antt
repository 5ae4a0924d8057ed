-- A stroke and a centre that are moved alike: black stays black. In the sweep by existence only the ways between the three points count, and these stay; and a centre is
-- black exactly when the point beside it is in the sweep (`BlackBeside`), so that no side needs to be looked at.
use mathlib.Core.Path.{◌≡◌, sym, ap₂, subst}
use mathlib.Core.Logic.Iff
use mathlib.Core.Logic.{◌↔◌}
use mathlib.Core.List.{List}
use native.Mathlib.Omega.{arith}
use lib.IntN.{ℤ, pos, ◌+ℤ◌, ◌-ℤ◌, ◌*ℤ◌}
use Rattle.integers.specs.Compare.{max_z}
use Rattle.integers.proofs.Ring.{ring, reify}
use Rattle.integers.proofs.Tests.{max_l, max_r}
use Rattle.plane.specs.Point.{Pt, pt}
use Rattle.stroke.specs.Sweep.{Seg, InPen, Sweep}
use Rattle.stroke.specs.Beside.{larger_seg, beside, SweptBeside}
use Rattle.stroke.specs.Theorems.{shifted, shifted_seg, BlackShifted}
use Rattle.stroke.proofs.Beside.{black_beside}

-- ---- the ways between a segment's ends and a point
pub record Ways (g : Seg) (X : Pt) (h : Seg) (Y : Pt) : Type 0 where
  pub start_x : X.x -ℤ g.from.x ≡ Y.x -ℤ h.from.x
  pub start_y : X.y -ℤ g.from.y ≡ Y.y -ℤ h.from.y
  pub along_x : g.to.x -ℤ g.from.x ≡ h.to.x -ℤ h.from.x
  pub along_y : g.to.y -ℤ g.from.y ≡ h.to.y -ℤ h.from.y

back : {g h : Seg} {X Y : Pt} → Ways g X h Y → Ways h Y g X
back w = record { start_x = sym w.start_x; start_y = sym w.start_y; along_x = sym w.along_x; along_y = sym w.along_y }

-- are all that the sweep asks for
same_sweep : {cs : List Pt} {g h : Seg} {X Y : Pt} → Ways g X h Y → Sweep cs g X → Sweep cs h Y
same_sweep {cs} e w =
    let at : ℤ → ℤ → ℤ = λ a b. w.k *ℤ a -ℤ w.s *ℤ b in
    record {
      k = w.k;
      s = w.s;
      k_some = w.k_some;
      s_low = w.s_low;
      s_high = w.s_high;
      in_pen = subst (InPen cs w.k) (ap₂ pt (ap₂ at e.start_x e.along_x) (ap₂ at e.start_y e.along_y)) w.in_pen;
    }

-- ---- the point beside, in the drawing N times as large
from_start : (N x a d m : ℤ) → N *ℤ x -ℤ m -ℤ N *ℤ a ≡ N *ℤ (x +ℤ d) -ℤ m -ℤ N *ℤ (a +ℤ d)
from_start = ring 5 _ (simp reify (omega arith))

from_end : (N a b d : ℤ) → N *ℤ b -ℤ N *ℤ a ≡ N *ℤ (b +ℤ d) -ℤ N *ℤ (a +ℤ d)
from_end = ring 4 _ (simp reify (omega arith))

module _ (g : Seg) (X D : Pt) (m : ℤ) where
  ways : let N = m *ℤ m in Ways (larger_seg N g) (beside m X) (larger_seg N (shifted_seg D g)) (beside m (shifted D X))
  ways =
      let N = m *ℤ m in
      let A = g.from in
      let B = g.to in
      record {
        start_x = from_start N X.x A.x D.x m;
        start_y = from_start N X.y A.y D.y (pos 1);
        along_x = from_end N A.x B.x D.x;
        along_y = from_end N A.y B.y D.y;
      }

  beside_shifted : (cs : List Pt) → SweptBeside cs g X m ↔ SweptBeside cs (shifted_seg D g) (shifted D X) m
  beside_shifted cs = (same_sweep ways, same_sweep (back ways))

-- for an m that is great enough for both
pub black_shifted : BlackShifted
black_shifted cs Dx Dy pen g X D =
    let here = black_beside cs Dx Dy pen g X in
    let there = black_beside cs Dx Dy pen (shifted_seg D g) (shifted D X) in
    let m = max_z here.0 there.0 in
    Iff.trans (here.1 m (max_l here.0 there.0)) (Iff.trans (beside_shifted g X D m cs) (Iff.symm (there.1 m (max_r here.0 there.0))))
