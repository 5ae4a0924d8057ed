-- A direction below 2 ^ 33 by coordinates that a byte holds: the products and their difference fit.
use Rattle.std.proofs.Common.{w64}
use Rattle.integers.proofs.Machine.{known, mul, sub, sub_fits}
use Rattle.flanks.proofs.Numbers.{answered}
use Rattle.flanks.proofs.walk.turn.Goals as goal

pub overflow_sub-result : goal.overflow_sub-result
overflow_sub-result c =
    let x = answered c.at.ensures.same c.at.ensures.small tt in
    let y = answered c.at-2.ensures.same c.at-2.ensures.small tt in
    sub_fits (mul (known {w = w64} c.requires.up tt) x tt) (mul (known {w = w64} c.requires.across tt) y tt) tt

pub returns : goal.returns
returns c =
    let x = answered c.at.ensures.same c.at.ensures.small tt in
    let y = answered c.at-2.ensures.same c.at-2.ensures.small tt in
    (sub (mul (known {w = w64} c.requires.up tt) x tt) (mul (known {w = w64} c.requires.across tt) y tt) tt).reads
