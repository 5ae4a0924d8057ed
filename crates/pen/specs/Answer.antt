-- What the code answers: the pen as the code's arrays hold it, and document 01's refusal 1.
use Rattle.std.specs.Prelude.{List, [], map, length}
use Rattle.limits.specs.Sizes.{pen_max}
use Rattle.setting.specs.declared.Setting.{Setting}
use Rattle.setting.specs.declared.Checked.{Checked}
use Rattle.setting.specs.declared.Checked.TheVariants as checked·
use Rattle.setting.specs.Answer.{checked, checked_number}
use Rattle.quarter.specs.Answer.{laid}
use Rattle.pen.specs.declared.Pen.{Pen}
use Rattle.pen.specs.declared.Built.{Built}
use Rattle.plane.specs.Point.{Pt, corners}
use Rattle.pen.specs.Polygon.{pen}

abbrev pub pen_of : List Pt → Pen
pen_of cs = record { count = length cs; x = laid pen_max (map (λ z. z.x) cs); y = laid pen_max (map (λ z. z.y) cs) }

-- the corners that a pen's arrays hold, whatever they are
abbrev pub pen_corners : Pen → List Pt
pen_corners p = corners p.count p.x p.y

-- the corners of the pen of a setting that is taken; a refusal has none
abbrev pub checked_pen : Checked → List Pt
checked_pen (checked·.Taken σ) = pen σ
checked_pen checked·.Refused = []

unfoldable pub built : Setting → Built
built σ = record { refusal = checked_number (checked σ); pen = pen_of (checked_pen (checked σ)) }
