-- The claims of specs/Theorems.antt, each under its name there.
use Rattle.pen.specs.Theorems.{PenFew, PenIsPen, CornersMirrored, CornersOnce}
use Rattle.pen.proofs.PenLaw.{is_pen, few_of_pen, mirrored_in_pen, once_of_pen}

pub pen_few : PenFew
pen_few = few_of_pen

pub pen_is_pen : PenIsPen
pen_is_pen = is_pen

pub corners_mirrored : CornersMirrored
corners_mirrored = mirrored_in_pen

pub corners_once : CornersOnce
corners_once = once_of_pen
