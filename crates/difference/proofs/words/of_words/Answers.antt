-- A word more; no more columns differ than there are, so the sum fits.
use Rattle.std.proofs.Common.{◌+◌, ◌*◌, sym, arith}
use Rattle.difference.specs.Apart.{apart}
use Rattle.difference.proofs.Counting.{count_none, count_le}
use Rattle.difference.proofs.Rows.{word_more}
use Rattle.difference.proofs.words.of_words.Goals as goal

pub loop-i-init : goal.loop-i-init
loop-i-init c = sym (count_none _)

pub loop-i-preserved : goal.loop-i-preserved
loop-i-preserved c = omega (arith, word_more c.args.a.now c.args.b.now c.loop-i.i)

pub overflow_add-total : goal.overflow_add-total
overflow_add-total c =
    let a = c.args in
    let i = c.loop-i.i in
    record { fits = omega (arith, word_more a.a.now a.b.now i, count_le (apart a.a.now a.b.now) (64 * (i + 1))) }
