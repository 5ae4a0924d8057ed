-- A number of at most 32 as an i8, and its opposite: both are what they are as whole numbers.
use mathlib.Core.Path.{◌≡◌, ◌∙◌}
use lib.IntN.{ℤ, pos, neg_ℤ, ◌-ℤ◌, +ℤ_idl}
use mir.Val.{to_z, of_z, SFits}
use mir.Syntax.{w8}
use Rattle.integers.specs.Bound.{Abs}
use Rattle.integers.proofs.Machine.{known, num, sub, sub_fits, bound}

module _ {z : ℤ} (h : Abs z 32) where
  pub i8_itself : to_z w8 (of_z w8 z) ≡ z
  i8_itself = (known {w = w8} h tt).reads

  pub i8_opposite_fits : SFits w8 (pos 0 -ℤ to_z w8 (of_z w8 z))
  i8_opposite_fits = sub_fits (num {w = w8} (pos 0) tt) (known {w = w8} h tt) tt

  pub i8_opposite : to_z w8 (of_z w8 (pos 0 -ℤ to_z w8 (of_z w8 z))) ≡ neg_ℤ z
  i8_opposite = (sub (num {w = w8} (pos 0) tt) (known {w = w8} h tt) tt).reads ∙ +ℤ_idl (neg_ℤ z)

  pub i8_small : Abs (to_z w8 (of_z w8 z)) 32
  i8_small = bound (known {w = w8} h tt)

  pub i8_opposite_small : Abs (to_z w8 (of_z w8 (pos 0 -ℤ to_z w8 (of_z w8 z)))) 32
  i8_opposite_small = bound (sub (num {w = w8} (pos 0) tt) (known {w = w8} h tt) tt)
