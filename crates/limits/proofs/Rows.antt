-- A row of a raster as a number of 64 bits.
use Prim.Native.Nat.{ℕ, ◌<◌}
use native.Mathlib.Nat.{le_of_lt}
use lib.IntN.{pos, ◌*ℤ◌}
use mir.Syntax.{w64}
use Rattle.limits.specs.Sizes.{raster_max}
use Rattle.integers.proofs.Machine.{Is, num, of_nat, mul}
use Rattle.integers.proofs.Words.{bits, ◌⊗◌}

-- a row, and its place in sixteenths of a pixel
pub row_number : {j : ℕ} → j < raster_max → Is w64 (pos j) j raster_max
row_number {j} h = of_nat j (le_of_lt h) tt

pub row_place : {j : ℕ} → j < raster_max → Is w64 (pos 16 *ℤ pos j) (bits (pos 16) ⊗ j) 262144
row_place h = mul (num (pos 16) tt) (row_number h) tt
