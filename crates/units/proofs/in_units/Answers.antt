-- Nine digits and a unit of at most a million: 2n + N stays below 2^31, and the quotient does.
use Rattle.std.proofs.Common.{◌≡◌, sym, ap, ◌∙◌, w32, w64, pos, ◌+ℤ◌, ◌*ℤ◌, of_z, true}
use Rattle.integers.specs.Floor.{floor_div}
use Rattle.integers.proofs.Machine.{Is, par, num, known, of_nat, mul, add, floor, cast, cast_fits}
use Rattle.units.specs.Units.{is_nine}
use Rattle.units.proofs.Rounded.{not_nine, no_unit, nine_unit, nine_digits, unit_most}
use Rattle.units.proofs.in_units.Goals as goal

two : Is w64 (pos 2) (of_z w64 (pos 2)) 2
two = num (pos 2) tt

-- the test passed: nine digits
nine : (c : goal.After-floor_div) → is_nine c.args.n ≡ true
nine c = sym (sym c.if-not-is_nine.false ∙ c.is_nine.ensures ∙ ap is_nine (par {w = w64} c.ranges.n).reads)

quotient : (c : goal.After-floor_div) → Is w64 (floor_div (pos 2 *ℤ c.args.n +ℤ pos c.args.unit) (pos 2 *ℤ pos c.args.unit)) (of_z w64 c.floor_div.result) 2000999998
quotient c =
    let n : Is w64 c.args.n (of_z w64 c.args.n) 999999999 = known (nine_digits _ (nine c)) tt in
    let u : Is w64 (pos c.args.unit) c.args.unit 1000000 = of_nat _ (unit_most _ (sym c.if-not-is_unit.ensures)) tt in
    floor (add (mul two n tt) u tt) (mul two u tt) c.floor_div.ensures

pub returns-then-not-is_nine : goal.returns-then-not-is_nine
returns-then-not-is_nine c = sym (not_nine _ c.args.unit (sym (ap is_nine (par {w = w64} c.ranges.n).reads) ∙ sym c.if-not-is_nine.ensures))

pub returns-then-not-is_unit : goal.returns-then-not-is_unit
returns-then-not-is_unit c = sym (no_unit c.args.n _ (sym c.if-not-is_unit.ensures))

pub overflow_cast-result : goal.overflow_cast-result
overflow_cast-result c = cast_fits (quotient c) w32 tt

pub returns : goal.returns
returns c = (cast (quotient c) w32 tt).reads ∙ sym (nine_unit _ _ (nine c) (sym c.if-not-is_unit.ensures))
