-- From naturals to whole numbers: orders, differences and the smaller of two.
use Prim.Native.Nat.{ℕ, ◌+◌, ◌-◌, ◌≤◌, ◌<◌, min}
use mathlib.Core.Path.{◌≡◌, ap, ◌∙◌}
use mathlib.Core.Logic.{inl, inr}
use native.Mathlib.Omega.{arith}
use lib.IntN.{ℤ, pos, ◌+ℤ◌, ◌-ℤ◌}
use lib.Signed.{le_z_yes, lt_z_yes}
use lib.Dec.{le→leb, lt→ltb, leb→le, ltb→lt}
use Rattle.integers.specs.Orders.{◌≼◌, ◌≺◌}
use Rattle.integers.specs.Compare.{min_z}
use Rattle.integers.proofs.Ring.{ring, reify}
use Rattle.integers.proofs.Tests.{min_case}

pub le_pos : {a b : ℕ} → a ≤ b → pos a ≼ pos b
le_pos {a} {b} h = le_z_yes (le→leb a b h)

pub lt_pos : {a b : ℕ} → a < b → pos a ≺ pos b
lt_pos {a} {b} h = lt_z_yes (lt→ltb a b h)

sub_of : (x y z : ℤ) → x +ℤ y ≡ z → x ≡ z -ℤ y
sub_of = ring 3 _ (simp reify (omega arith))

pub diff_pos : (a b : ℕ) → b ≤ a → pos (a - b) ≡ pos a -ℤ pos b
diff_pos a b h = let e : a - b + b ≡ a = omega arith in sub_of (pos (a - b)) (pos b) (pos a) (ap pos e)

pub min_pos : (a b : ℕ) → min_z (pos a) (pos b) ≡ pos (min a b)
min_pos a b = elim (min_case (pos a) (pos b)) [
  | inl h ↦ h.0 ∙ ap pos (omega (arith, leb→le a b h.1.le))
  | inr h ↦ h.0 ∙ ap pos (omega (arith, ltb→lt b a h.1.lt))
]
