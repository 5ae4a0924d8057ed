-- The arrays of the pen, and its ends as the call was told them.
use Rattle.std.proofs.Common.{◌∙◌, ap₂, w32}
use Rattle.integers.proofs.Machine.{par}
use Rattle.plane.specs.Point.{Pt, pt}
use Rattle.pen.specs.Answer.{pen_corners}
use Rattle.extent.specs.Answer.{extent_of}
use Rattle.extent.proofs.extent_of.Goals as goal

pub returns : goal.returns
returns c =
    let a = c.args in
    let f = c.ranges in
    c.extent_at.ensures
    ∙ ap₂ (λ (A B : Pt). extent_of (pen_corners a.pen) A.x A.y B.x B.y a.row)
    (ap₂ pt (par {w = w32} f.ax).reads (par {w = w32} f.ay).reads) (ap₂ pt (par {w = w32} f.bx).reads (par {w = w32} f.by).reads)
