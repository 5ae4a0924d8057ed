-- The setting is refused, or the row is that of its pen.
use Rattle.std.proofs.Common.{sym, ◌∙◌, refl}
use Rattle.limits.specs.Refusal.{setting}
use Rattle.outcome.proofs.Fits.{refused_code}
use Rattle.host.proofs.Settings.{set_taken, packed_refused, packed_goes_on}
use Rattle.host.proofs.zimarolfo_packed_row.Goals as goal

pub returns-in_default : goal.returns-in_default
returns-in_default c =
    let a = c.args in
    packed_refused (record { w = a.w; p = a.p; q = a.q }) a.path.now a.columns a.rows a.row a.bytes.now (sym c.check.ensures ∙ c.in_default.is) (refused_code setting c.refused.ensures refl)

pub of_bytes-requires : goal.of_bytes-requires
of_bytes-requires c = let a = c.args in set_taken (record { w = a.w; p = a.p; q = a.q }) c.in-Taken.s (sym c.check.ensures ∙ c.in-Taken.is)

pub returns : goal.returns
returns c =
    let a = c.args in
    c.of_bytes.ensures ∙ packed_goes_on (record { w = a.w; p = a.p; q = a.q }) a.path.now a.columns a.rows a.row a.bytes.now c.in-Taken.s (sym c.check.ensures ∙ c.in-Taken.is)
