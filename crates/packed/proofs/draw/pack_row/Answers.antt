-- The row is cleared, and what is laid over it is the path's.
use Rattle.plane.specs.Point.{corners}
use Rattle.packed.proofs.Drawn.{row_cleared, packed_laid}
use Rattle.packed.proofs.draw.pack_row.Goals as goal

pub returns : goal.returns
returns c =
    let a = c.args in
    let cleared = row_cleared a.columns a.bytes.now c.length_of.ensures c.requires.room (c.fill.ensures.after (λ y e. e)) in
    packed_laid (corners a.count a.xs.now a.ys.now) a.path.now a.columns a.row c.requires.drawable a.bytes.now cleared c.lay_over.ensures
