-- A length that no path has is refused: the refusal is 2.
use Rattle.std.proofs.Common.{ap, ◌∙◌, ℕ}
use Rattle.limits.specs.Refusal.{path, ◌then◌}
use Rattle.limits.proofs.Verdicts.{unless_refused}
use Rattle.wire.specs.Read.{entries_of}
use Rattle.checks.specs.Checks.{raster_verdict, row_verdict, coordinate_verdict}
use Rattle.outcome.proofs.Verdicts.{length_refused}
use Rattle.outcome.proofs.Fits.{refused_code}
use Rattle.host.specs.Call.{built_corners}
use Rattle.host.proofs.Outcomes.{call_refused}
use Rattle.host.proofs.answer.of_bytes.Goals as goal

pub returns-in_default : goal.returns-in_default
returns-in_default c =
    let a = c.args in
    let r = unless_refused _ path c.bytes_check-of_bytes.ensures c.in_default.is in
    ap (λ (n : ℕ). record { answer = n; bytes = a.bytes.now }) (refused_code path c.refused.ensures r.0)
    ∙ call_refused (built_corners a.call) a.call _ (entries_of a.path.now) a.bytes.now
    (length_refused a.path.now (raster_verdict a.call.columns a.call.rows then row_verdict a.call.rows a.call.row then coordinate_verdict (entries_of a.path.now)) r.1)
