-- `in_units` by its two tests.
use mathlib.Core.Path.{◌≡◌, sym, ap}
use mathlib.Core.Bool.{Bool, true, false, cond, ◌&&◌}
use Prim.Native.Nat.{ℕ, ◌≤◌}
use lib.Dec.{leb}
use lib.IntN.{ℤ, pos, neg_ℤ}
use lib.Signed.{le_z}
use borrow.Author.Tests.{leb-true}
use Rattle.integers.specs.Bound.{Abs}
use Rattle.integers.proofs.Bound.{abs_iff}
use Rattle.integers.proofs.Tests.{and_both, and_true, and_false, false_and, le_true}
use Rattle.units.specs.Units.{is_nine, is_unit, rounded, in_units}

by_test : (n : ℤ) (unit : ℕ) {b : Bool} → (is_nine n && is_unit unit) ≡ b → in_units n unit ≡ cond b (rounded n unit) (pos 0)
unfolding in_units
by_test n unit e = ap (λ (b : Bool). cond b (rounded n unit) (pos 0)) e

pub not_nine : (n : ℤ) (unit : ℕ) → is_nine n ≡ false → in_units n unit ≡ pos 0
not_nine n unit e = by_test n unit (sym (false_and (is_nine n) (is_unit unit) e))

pub no_unit : (n : ℤ) (unit : ℕ) → is_unit unit ≡ false → in_units n unit ≡ pos 0
no_unit n unit e = by_test n unit (and_false (is_nine n) (is_unit unit) e)

pub nine_unit : (n : ℤ) (unit : ℕ) → is_nine n ≡ true → is_unit unit ≡ true → in_units n unit ≡ rounded n unit
nine_unit n unit e f = by_test n unit (and_true (is_nine n) (is_unit unit) e f)

-- ---- what the tests say
pub nine_digits : (n : ℤ) → is_nine n ≡ true → Abs n 999999999
nine_digits n e =
    let h = and_both (le_z (neg_ℤ (pos 999999999)) n) (le_z n (pos 999999999)) e in
    (abs_iff n 999999999).1 (le_true h.0, le_true h.1)

pub unit_least : (unit : ℕ) → is_unit unit ≡ true → 1 ≤ unit
unit_least unit e = leb-true 1 unit (and_both (leb 1 unit) (leb unit 1000000) e).0

pub unit_most : (unit : ℕ) → is_unit unit ≡ true → unit ≤ 1000000
unit_most unit e = leb-true unit 1000000 (and_both (leb 1 unit) (leb unit 1000000) e).1
