-- A byte more; no more columns differ than there are, so the sum fits.
use Rattle.std.proofs.Common.{◌+◌, ◌*◌, arith}
use Rattle.difference.specs.Apart.{apart}
use Rattle.difference.proofs.Counting.{count_le}
use Rattle.difference.proofs.Rows.{byte_more}
use Rattle.difference.proofs.count.of_bytes.Goals as goal

pub overflow_add-total : goal.overflow_add-total
overflow_add-total c =
    let a = c.args in
    let k = c.loop-k.k in
    record { fits = omega (arith, byte_more a.a.now a.b.now k, count_le (apart a.a.now a.b.now) (8 * (k + 1))) }

pub loop-k-preserved : goal.loop-k-preserved
loop-k-preserved c = omega (arith, byte_more c.args.a.now c.args.b.now c.loop-k.k)
