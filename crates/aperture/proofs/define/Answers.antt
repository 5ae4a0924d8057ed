-- The cases of the three checks, in their order; what is stored is the place that holds the setting.
use Rattle.std.proofs.Common.{sym, ap, subst, ◌∙◌}
use Rattle.limits.specs.declared.Verdict.TheVariants.{Passed}
use Rattle.setting.specs.declared.Setting.{Setting}
use Rattle.setting.specs.Setting.{Taken}
use Rattle.setting.proofs.Limits.{taken_iff}
use Rattle.setting.proofs.Answers.{checked_taken, checked_refused}
use Rattle.aperture.specs.declared.Place.{Place}
use Rattle.aperture.specs.declared.Table.{Table}
use Rattle.aperture.specs.Table.{holding, with_place, changed}
use Rattle.aperture.proofs.Answers.{not_number, not_taken, not_free, stores}
use Rattle.aperture.proofs.define.Goals as goal

pub returns-then-not-is_number : goal.returns-then-not-is_number
returns-then-not-is_number c =
    let σ : Setting = record { w = c.args.w; p = c.args.p; q = c.args.q } in
    sym (not_number _ _ σ (sym c.is_number.ensures ∙ c.if-not-is_number.true))

pub returns-in_default : goal.returns-in_default
returns-in_default c =
    let σ : Setting = record { w = c.args.w; p = c.args.p; q = c.args.q } in
    sym (not_taken _ _ σ (sym c.is_number.ensures ∙ c.if-not-is_number.false) (checked_refused σ (sym c.in_default.ensures)))

pub returns-then-is_used : goal.returns-then-is_used
returns-then-is_used c =
    let k = checked_taken _ _ (sym c.in-Taken.ensures) in
    sym (not_free _ _ _ (sym c.is_number.ensures ∙ c.if-not-is_number.false) k.0 (sym c.is_used.ensures ∙ c.if-is_used.true))

pub holding-place-requires : goal.holding-place-requires
holding-place-requires c = let k = checked_taken _ _ (sym c.in-Taken.ensures) in subst Taken k.1 ((taken_iff _).0 k.0)

pub returns : goal.returns
returns c =
    let a = c.args in
    let k = checked_taken _ _ (sym c.in-Taken.ensures) in
    let place = c.holding-place.ensures ∙ ap (λ (s : Setting). holding s) (sym k.1) in
    let stored = c.with_place.ensures ∙ ap (λ (p : Place). with_place a.t a.number p) place in
    ap (λ (u : Table). changed Passed u a.t) stored
    ∙ sym (stores _ _ _ (sym c.is_number.ensures ∙ c.if-not-is_number.false) k.0 (sym c.is_used.ensures ∙ c.if-is_used.false))
