-- The pen of a setting that was taken.
use mathlib.Core.Path.{◌≡◌, sym, ap, ◌∙◌}
use Rattle.limits.specs.Sizes.{pen_max}
use Rattle.setting.specs.declared.Setting.{Setting}
use Rattle.setting.specs.declared.Checked.TheVariants as checked·
use Rattle.setting.specs.Answer.{checked}
use Rattle.setting.proofs.Answers.{checked_taken}
use Rattle.pen.specs.declared.Built.{Built}
use Rattle.pen.specs.Polygon.{pen}
use Rattle.pen.specs.Answer.{pen_corners, built}
use Rattle.pen.proofs.Laid.{corners_back}
use Rattle.pen.proofs.Answers.{pen_built}

-- the pen that is built of a setting that was taken is that setting's
pub built_taken : (σ s : Setting) (r : Built) → checked σ ≡ checked·.Taken s → r ≡ built s → pen_corners r.pen ≡ pen σ
built_taken σ s r e f =
    let t = checked_taken σ s e in
    ap (λ (r : Built). pen_corners r.pen) (f ∙ ap built (sym t.1) ∙ pen_built σ t.0) ∙ corners_back pen_max (pen σ)
