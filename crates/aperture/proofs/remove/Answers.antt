-- The two cases of the test of a place in use; what is stored is the vacant place.
use Rattle.std.proofs.Common.{sym, ap, ◌∙◌}
use Rattle.limits.specs.declared.Verdict.TheVariants.{Passed}
use Rattle.aperture.specs.declared.Place.{Place}
use Rattle.aperture.specs.declared.Table.{Table}
use Rattle.aperture.specs.Table.{with_place, changed}
use Rattle.aperture.proofs.Answers.{not_held, empties}
use Rattle.aperture.proofs.remove.Goals as goal

pub returns-then-not-is_held : goal.returns-then-not-is_held
returns-then-not-is_held c = sym (not_held _ _ (sym c.is_held.ensures ∙ c.if-not-is_held.true))

pub returns : goal.returns
returns c =
    let a = c.args in
    let stored = c.with_place.ensures ∙ ap (λ (p : Place). with_place a.t a.number p) c.vacant-place.ensures in
    ap (λ (u : Table). changed Passed u a.t) stored ∙ sym (empties _ _ (sym c.is_held.ensures ∙ c.if-not-is_held.false))
