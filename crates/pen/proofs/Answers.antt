-- What building a pen answers, by the test of the setting's limits.
use mathlib.Core.Path.{◌≡◌, sym, ap}
use mathlib.Core.Bool.{true, false}
use mathlib.Core.List.{[]}
use Rattle.limits.specs.Refusal.{number, setting}
use Rattle.setting.specs.declared.Setting.{Setting}
use Rattle.setting.specs.declared.Checked.{Checked}
use Rattle.setting.specs.Setting.{taken}
use Rattle.setting.specs.Answer.{checked_number}
use Rattle.setting.proofs.Answers.{refused, accepted}
use Rattle.pen.specs.declared.Built.{Built}
use Rattle.pen.specs.Polygon.{pen}
use Rattle.pen.specs.Answer.{pen_of, checked_pen, built}

-- the answer by the answer of the check
answer : Checked → Built
answer c = record { refusal = checked_number c; pen = pen_of (checked_pen c) }

pub pen_built : (σ : Setting) → taken σ ≡ true → built σ ≡ record { refusal = 0; pen = pen_of (pen σ) }
unfolding built answer
pen_built σ e = sym (ap answer (accepted σ e))

pub none_built : (σ : Setting) → taken σ ≡ false → built σ ≡ record { refusal = number setting; pen = pen_of [] }
unfolding built answer
none_built σ e = sym (ap answer (refused σ e))
