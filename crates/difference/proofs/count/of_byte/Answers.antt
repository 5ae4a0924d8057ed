-- The ones of the two bytes' exclusive or, its lowest bits taken off, are the leftmost columns that are apart.
use Rattle.std.proofs.Common.{◌-◌, ◌∙◌, arith}
use Rattle.difference.proofs.OneByte.{leftmost_columns}
use Rattle.difference.proofs.count.of_byte.Goals as goal

pub returns : goal.returns
returns c =
    let a = c.args in
    c.leftmost.ensures
    ∙ leftmost_columns a.a.now a.b.now a.k (c.type_inv.a a.k).fits (c.type_inv.b a.k).fits a.n (8 - a.n) (omega arith)
