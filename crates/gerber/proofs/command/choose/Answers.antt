-- A table that does not hold the aperture refuses; otherwise the stroke ends, and the aperture is the new one.
use Rattle.std.proofs.Common.{sym, ap}
use Rattle.aperture.proofs.Theorems.{looked_held, looked_refused}
use Rattle.trace.specs.declared.Ended.{Ended}
use Rattle.gerber.specs.Reader.{with_trace}
use Rattle.gerber.proofs.Commands.{closes_at, not_held, held}
use Rattle.gerber.proofs.command.choose.Goals as goal

pub returns-in_default : goal.returns-in_default
returns-in_default c = λ p. not_held c.args.t c.args.r.scanner.start c.args.n c.args.r p (looked_refused c.args.t c.args.n (sym c.in_default.ensures)) c.refuse.ensures

pub returns : goal.returns
returns c =
    let next = ap (λ (q : Ended). with_trace c.args.r c.args.n q.trace) c.end.ensures in
    λ p. held c.args.t c.args.r.scanner.start c.args.n c.args.r p (looked_held c.args.t c.args.n c.in-At.field-0 (sym c.in-At.ensures)).0
    (closes_at c.args.r p next (c.close.ensures p))
