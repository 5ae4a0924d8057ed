-- The pen of a setting within the limits is the one that the crate pen builds.
use Rattle.std.proofs.Common.{◌≡◌, true, ap, ◌∙◌}
use Rattle.setting.specs.declared.Setting.{Setting}
use Rattle.pen.specs.declared.Pen.{Pen}
use Rattle.pen.specs.declared.Built.{Built}
use Rattle.setting.specs.Setting.{Taken}
use Rattle.pen.specs.Polygon.{pen}
use Rattle.pen.specs.Answer.{pen_of, built}
use Rattle.setting.proofs.Limits.{taken_iff}
use Rattle.pen.proofs.Answers.{pen_built}
use Rattle.aperture.proofs.holding.Goals as goal

built_pen : (σ : Setting) → Taken σ → {b : Built} → b ≡ built σ → b.pen ≡ pen_of (pen σ)
built_pen σ t e = ap (λ (r : Built). r.pen) (e ∙ pen_built σ ((taken_iff σ).1 t))

pub returns : goal.returns
returns c = ap (λ (p : Pen). record { used = true; setting = c.args.s; pen = p }) (built_pen c.args.s c.requires c.build-built.ensures)
