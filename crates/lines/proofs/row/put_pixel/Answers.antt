-- Four pieces, each behind the one before it.
use Rattle.lines.proofs.Pieces.{pixel_pieces}
use Rattle.lines.proofs.row.put_pixel.Goals as goal

pub returns : goal.returns
returns c =
    let a = c.args in
    pixel_pieces a.out.now a.at a.column a.digits.now a.first c.requires.column c.requires.digits c.requires.room
    c.put_decimal-at.ensures
    c.put-at.ensures
    c.put-at-2.ensures
    c.put_film.ensures
