-- The size of a pen by its inequalities: a quotient that is rounded down is the only whole number of its kind.
use Prim.Native.Nat.{ℕ, suc, ◌+◌, ◌*◌, ◌/◌, ◌≤◌, ◌<◌}
use mathlib.Core.Path.{◌≡◌}
use mathlib.Core.Logic.{◌↔◌}
use native.Mathlib.Nat.{le-div_iff_mul-le, div-lt_iff_lt-mul, mul_comm}
use native.Mathlib.Omega.{arith}
use Rattle.setting.specs.Setting.{Dx, Dy}
use Rattle.setting.specs.Theorems.{DyFloor, DxFloor}

-- m <= a / k says k m <= a, and a / k < m + 1 says a < k m + k; where both hold m is a / k
floor_iff : (k a m : ℕ) → 1 ≤ k → (m ≡ a / k) ↔ ((k * m ≤ a) × (a < k * m + k))
floor_iff k a m h =
    let below = le-div_iff_mul-le {k = k} {x = m} {y = a} h in
    let above = div-lt_iff_lt-mul {k = k} {x = a} {y = suc m} h in
    let c : m * k ≡ k * m = mul_comm m k in (
      (λ e. (omega (arith, below.0 (omega arith)), omega (arith, above.0 (omega arith)))),
      λ b. omega (arith, below.1 (omega arith), above.1 (omega arith)),
    )

pub dy_floor : DyFloor
unfolding Dy
dy_floor σ m = floor_iff 16 (σ.w + 8) m (omega arith)

pub dx_floor : DxFloor
unfolding Dx
dx_floor σ h m = floor_iff (16 * σ.q) (σ.w * σ.p + 8 * σ.q) m (omega arith)
