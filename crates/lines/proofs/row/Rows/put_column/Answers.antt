-- Where both rows have the column alike it has no line.
use Rattle.std.proofs.Common.{sym, ap₂, ◌∙◌, arith}
use Rattle.std.specs.Bool.{xor}
use Rattle.lines.proofs.Columns.{no_column, one_column, alike, unlike}
use Rattle.lines.proofs.row.Rows.put_column.Goals as goal

pub returns-then-first-is_black : goal.returns-then-first-is_black
returns-then-first-is_black c =
    let s = c.args.self.now in
    no_column s.a.now s.b.now s.digits.now c.args.out.now c.args.at c.args.i
    (ap₂ xor (sym c.is_black-first.ensures) (sym c.is_black.ensures) ∙ alike _ _ c.if-first-is_black.true) (omega arith)

pub returns : goal.returns
returns c =
    let s = c.args.self.now in
    c.put_pixel.ensures
    ∙ one_column s.a.now s.b.now s.digits.now c.args.out.now c.args.at c.args.i
    (ap₂ xor (sym c.is_black-first.ensures) (sym c.is_black.ensures) ∙ unlike _ _ c.if-first-is_black.false) c.is_black-first.ensures
