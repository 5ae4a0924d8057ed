-- The rows that a path reaches with the pen of a setting: from the first one on that may have something of it, and those before the one after the last.
use Prim.Native.Nat.{ℕ, ◌≤◌, ◌<◌}
use native.Mathlib.Omega.{arith}
use mathlib.Core.Path.{◌≡◌}
use mathlib.Core.Bool.{false}
use mathlib.Core.List.{List}
use lib.IntN.{ℤ, pos, ◌+ℤ◌, ◌-ℤ◌, ◌*ℤ◌}
use Rattle.setting.specs.declared.Setting.{Setting}
use Rattle.setting.specs.Setting.{Taken, Dx, Dy}
use Rattle.pen.specs.Polygon.{pen}
use Rattle.pen.proofs.Theorems.{pen_is_pen}
use Rattle.reach.specs.Reach.{NoneUnder, NoneOver}
use Rattle.reach.proofs.Reached.{row_under, row_over}
use Rattle.band.specs.Rows.{path_black, Past}

module _ {σ : Setting} (t : Taken σ) (path : List ℤ) (y : ℤ) (first end : ℕ) {r : ℕ} where
  pub clear_before : NoneUnder path y → Past (y -ℤ pos 8 *ℤ pos (Dy σ)) first end r → (j x : ℕ) → first ≤ j → j < r → path_black (pen σ) path j x ≡ false
  clear_before n p j x h k = row_under (pen σ) (pos (Dx σ)) (pos (Dy σ)) (pen_is_pen σ t) path (pos j) (pos x) y n (p.under j k (omega arith))

  pub clear_past : NoneOver path y → Past (y +ℤ pos 8 *ℤ pos (Dy σ)) first end r → (j x : ℕ) → r ≤ j → j < end → path_black (pen σ) path j x ≡ false
  clear_past n p j x h k = row_over (pen σ) (pos (Dx σ)) (pos (Dy σ)) (pen_is_pen σ t) path (pos j) (pos x) y n (p.over j h (omega arith))
