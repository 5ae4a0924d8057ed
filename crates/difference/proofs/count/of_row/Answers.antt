-- Whole bytes, and the columns of a last byte that has spare bits; no more columns differ than there are, so the sum fits.
use Rattle.std.proofs.Common.{◌+◌, ap₂, ◌∙◌, arith}
use Rattle.difference.specs.Apart.{apart}
use Rattle.difference.proofs.Counting.{count_le}
use Rattle.difference.proofs.Rows.{rest_more}
use Rattle.difference.proofs.count.of_row.Goals as goal

pub returns : goal.returns
returns c = ap₂ ◌+◌ c.of_bytes-total.ensures c.of_byte.ensures ∙ rest_more c.args.a.now c.args.b.now c.args.columns

pub overflow_add-result : goal.overflow_add-result
overflow_add-result c =
    let a = c.args in
    record { fits = omega (arith, c.of_bytes-total.ensures, c.of_byte.ensures, rest_more a.a.now a.b.now a.columns, count_le (apart a.a.now a.b.now) a.columns) }
