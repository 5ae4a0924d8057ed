-- Five pieces, each behind the one before it.
use Rattle.lines.proofs.Pieces.{row_pieces}
use Rattle.lines.proofs.row.put_line.Goals as goal

pub returns : goal.returns
returns c =
    let a = c.args in
    row_pieces a.out.now a.row a.number c.requires.row c.requires.number c.requires.room
    c.put-at.ensures
    c.put_decimal-at.ensures
    c.put-at-2.ensures
    c.put_decimal-at-2.ensures
    c.put.ensures
