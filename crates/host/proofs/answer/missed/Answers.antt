-- A dot drawn with no corners.
use Rattle.std.proofs.Common.{ap, ◌∙◌, []}
use Rattle.limits.specs.declared.Verdict.{Verdict}
use Rattle.plane.specs.Point.{points}
use Rattle.host.specs.Call.{call_with, dot}
use Rattle.host.proofs.answer.missed.Goals as goal

pub returns : goal.returns
unfolding points
returns c = c.of_corners.ensures ∙ ap (λ (v : Verdict). call_with [] c.args.call v dot c.args.bytes.now) c.requires
