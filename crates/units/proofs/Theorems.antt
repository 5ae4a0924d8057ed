-- Each of specs/Theorems: the floor's two bounds, with half a unit taken off.
use Prim.Native.Nat.{ℕ, ◌*◌, ◌≤◌}
use native.Mathlib.Omega.{arith}
use lib.IntN.{ℤ, pos, neg_ℤ, ◌+ℤ◌, ◌-ℤ◌, ◌*ℤ◌}
use borrow.Author.Tests.{le-leb}
use lib.Dec.{leb, lt→ltb}
use lib.Signed.{lt_z_yes}
use Rattle.integers.specs.Orders.{◌≼◌, ◌≺◌}
use Rattle.integers.proofs.Ring.{ring, reify}
use Rattle.integers.proofs.Tests.{and_true}
use Rattle.integers.proofs.Floor.{floor_div_lo, floor_div_hi}
use Rattle.units.specs.Units.{rounded}
use Rattle.units.specs.Theorems.{NearestUnit, UnitRange}
use Rattle.units.proofs.Rounded.{nine_unit, unit_least, unit_most}

not_before : (n u q : ℤ) → (pos 2 *ℤ u) *ℤ q ≼ pos 2 *ℤ n +ℤ u → neg_ℤ u ≼ pos 2 *ℤ (n -ℤ u *ℤ q)
not_before = ring 3 _ λ ρ. simp (reify, ρ) (omega arith)

before_next : (n u q : ℤ) → pos 2 *ℤ n +ℤ u ≺ (pos 2 *ℤ u) *ℤ q +ℤ pos 2 *ℤ u → pos 2 *ℤ (n -ℤ u *ℤ q) ≺ u
before_next = ring 3 _ λ ρ. simp (reify, ρ) (omega arith)

twice : (unit : ℕ) → 1 ≤ unit → pos 0 ≺ pos 2 *ℤ pos unit
twice unit h = lt_z_yes (lt→ltb 0 (2 * unit) (omega arith))

pub nearest_unit : NearestUnit
nearest_unit n unit e f =
    let h = twice unit (unit_least unit f) in
    let a = pos 2 *ℤ n +ℤ pos unit in
    let d = pos 2 *ℤ pos unit in
    rw (nine_unit n unit e f)
    (not_before n (pos unit) (rounded n unit) (floor_div_lo a d h), before_next n (pos unit) (rounded n unit) (floor_div_hi a d h))

pub unit_range : UnitRange
unit_range unit = (λ e. (unit_least unit e, unit_most unit e), λ h. and_true (leb 1 unit) (leb unit 1000000) (le-leb 1 unit h.0) (le-leb unit 1000000 h.1))
