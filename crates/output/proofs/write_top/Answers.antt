-- True is answered only where the top band was put: so nothing is refused.
use Rattle.std.proofs.Common.{◌∙◌, ℕ, sym, ap}
use Rattle.checks.specs.Answer.{Result}
use Rattle.drawing.specs.Strokes.{drawing_of}
use Rattle.output.proofs.Order.{bands_taken}
use Rattle.output.proofs.write_top.Goals as goal

pub returns : goal.returns
returns c e =
    let a = c.args in
    let lent = drawing_of a.settings.now a.apertures.now a.starts.now a.entries.now in
    (bands_taken lent a.columns a.rows a.first a.n).none a.out.now
    (sym (ap (λ (r : Result ℕ). r.answer.refusal) c.put_next-top.ensures) ∙ c.if-top-ne-DONE.false)
