-- The columns' digits end at index 8 at the latest.
use Rattle.std.proofs.Common.{drop, ap, arith}
use Rattle.pbm.specs.declared.read.Number.{Number}
use Rattle.pbm.proofs.Reading.{digits_few}
use Rattle.pbm.proofs.read.read_header.Goals as goal

pub overflow_add-columns : goal.overflow_add-columns
overflow_add-columns c =
    let e = ap (λ (n : Number). n.end) c.size_at-columns.ensures in
    record { fits = omega (arith, e, digits_few 5 (drop 3 c.args.text.now)) }

pub size_at-rows-requires : goal.size_at-rows-requires
size_at-rows-requires c =
    let e = ap (λ (n : Number). n.end) c.size_at-columns.ensures in
    omega (arith, e, digits_few 5 (drop 3 c.args.text.now))
