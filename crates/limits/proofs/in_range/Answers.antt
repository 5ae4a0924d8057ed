-- The two tests of the definition, of the number that the bits are.
use Rattle.std.proofs.Common.{sym, ap, ◌∙◌, ℤ, pos, neg_ℤ, w32}
use Rattle.std.specs.Int.Signed.{le_z}
use Rattle.limits.specs.Sizes.{in_range, coordinate_max}
use Rattle.integers.proofs.Tests.{true_and, false_and}
use Rattle.integers.proofs.Machine.{par}
use Rattle.limits.proofs.in_range.Goals as goal

pub returns-then-z-ge-COORDINATE_MIN : goal.returns-then-z-ge-COORDINATE_MIN
unfolding in_range
returns-then-z-ge-COORDINATE_MIN c =
    let e = (par {w = w32} c.ranges.z).reads in
    ap (λ (z : ℤ). le_z z (pos coordinate_max)) e ∙ true_and _ _ (sym (ap (le_z (neg_ℤ (pos coordinate_max))) e) ∙ c.if-z-ge-COORDINATE_MIN.true)

pub returns-else-z-ge-COORDINATE_MIN : goal.returns-else-z-ge-COORDINATE_MIN
unfolding in_range
returns-else-z-ge-COORDINATE_MIN c =
    let e = (par {w = w32} c.ranges.z).reads in
    c.if-z-ge-COORDINATE_MIN.false ∙ false_and _ _ (sym (ap (le_z (neg_ℤ (pos coordinate_max))) e) ∙ c.if-z-ge-COORDINATE_MIN.false)
