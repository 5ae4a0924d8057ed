-- The row's answer, its three numbers in one.
use Rattle.std.proofs.Common.{sym, ap, subst, ◌∙◌, ℕ}
use Rattle.plane.specs.Point.{corners}
use Rattle.checks.specs.Answer.{Result}
use Rattle.outcome.specs.Outcome.{told}
use Rattle.outcome.specs.Fit.{Fit}
use Rattle.outcome.proofs.Fits.{fitted_same}
use Rattle.host.proofs.Outcomes.{call_packed_fit, call_packed}
use Rattle.host.proofs.answer.entries_packed.Goals as goal

pub returns : goal.returns
returns c =
    let a = c.args in
    let k = c.packed_of-a in
    let fit = subst (λ (r : Result ℕ). Fit r.answer) (sym k.ensures) (call_packed_fit (corners a.count a.xs.now a.ys.now) a.call a.path.now a.bytes.now) in
    ap (λ (n : ℕ). record { answer = n; bytes = k.new.bytes }) (c.code.ensures ∙ fitted_same fit) ∙ ap told k.ensures ∙ call_packed (corners a.count a.xs.now a.ys.now) a.call a.path.now a.bytes.now
