-- The products compare as the fractions do, and the fractions as their last columns.
use Rattle.std.proofs.Common.{subst, ◌^◌, w64}
use Rattle.integers.proofs.Order.{lt_le}
use Rattle.integers.proofs.Machine.{Is, known, mul, le_yes, le_no}
use Rattle.integers.proofs.Words.{bits}
use Rattle.extent.specs.declared.limit.Fraction.{Fraction}
use Rattle.extent.specs.Held.{Limiting, FairLimit}
use Rattle.extent.proofs.Fractions.{greater_new, greater_old}
use Rattle.extent.proofs.limit.greater.Goals as goal

over : {f : Fraction} → Limiting f → Is w64 f.num (bits f.num) (2 ^ 40)
over h = known h.fair.num_small tt

by : {f : Fraction} → Limiting f → Is w64 f.by (bits f.by) (2 ^ 20)
by h = known h.fair.by_small tt

pub returns-in-Some-clause-answer : goal.returns-in-Some-clause-answer
returns-in-Some-clause-answer c =
    let old : Limiting c.in-Some.old = subst FairLimit c.in-Some.is c.requires.old in
    let new = c.requires.new in
    rw c.in-Some.is (greater_old c.in-Some.old c.args.new.num c.args.new.by old.positive new.positive (le_yes (mul (over new) (by old) tt) (mul (over old) (by new) tt) c.if-new-old.true))

pub returns-in_default-clause-answer : goal.returns-in_default-clause-answer
returns-in_default-clause-answer c =
    let old : Limiting c.in-Some.old = subst FairLimit c.in-Some.is c.requires.old in
    let new = c.requires.new in
    rw c.in-Some.is (greater_new c.in-Some.old c.args.new.num c.args.new.by old.positive new.positive (lt_le _ _ (le_no (mul (over new) (by old) tt) (mul (over old) (by new) tt) c.if-new-old.false)))
