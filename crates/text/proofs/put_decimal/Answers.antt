-- The digits that `io::decimal` writes are the number's.
use Rattle.std.proofs.Common.{ap, ◌∙◌}
use Rattle.text.specs.Put.{put_at}
use Rattle.text.proofs.Decimal.{written}
use Rattle.text.proofs.put_decimal.Goals as goal

pub returns : goal.returns
returns c =
    let d = written _ c.decimal-count.ensures.in_bounds c.decimal-count.ensures.len c.decimal-count.ensures.digits in
    let a = c.args in
    c.put.ensures ∙ ap (put_at a.out.now a.at) d.text
