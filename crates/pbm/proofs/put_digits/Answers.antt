-- Five pieces, each behind the one before. There is room for all.
use Rattle.pbm.proofs.Pieces.{five_pieces}
use Rattle.pbm.proofs.put_digits.Goals as goal

pub returns : goal.returns
returns c =
    five_pieces c.args.columns.now c.args.rows.now c.args.out.now c.requires
    c.put-at.ensures
    c.put-at-2.ensures
    c.put-at-3.ensures
    c.put-at-4.ensures
    c.put.ensures
