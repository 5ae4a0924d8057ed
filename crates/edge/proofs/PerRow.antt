-- What a row adds to the numerator, 16 dx, as a whole number s of columns and a remainder.
use mathlib.Core.Path.{◌≡◌}
use native.Mathlib.Omega.{arith}
use lib.IntN.{ℤ, pos, ◌+ℤ◌, ◌-ℤ◌, ◌*ℤ◌}
use Rattle.integers.specs.Orders.{◌≼◌, ◌≺◌}
use Rattle.integers.proofs.Ring.{ring, reify}

pub slope : (dx dy s : ℤ) → (pos 16 *ℤ dy) *ℤ s +ℤ pos 16 *ℤ (dx -ℤ dy *ℤ s) ≡ pos 16 *ℤ dx
slope = ring 3 _ (λ ρ. simp (reify, ρ) (omega arith))

pub slope_rest : (dx dy s : ℤ) → dy *ℤ s ≼ dx → dx ≺ dy *ℤ s +ℤ dy → (pos 0 ≼ pos 16 *ℤ (dx -ℤ dy *ℤ s)) × (pos 16 *ℤ (dx -ℤ dy *ℤ s) ≺ pos 16 *ℤ dy)
slope_rest = ring 3 _ (λ ρ. simp (reify, ρ) (omega arith))
