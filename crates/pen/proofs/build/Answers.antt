-- The pen of the definition is the whole polygon of the quarter that the steps put out; a setting that the check refuses has none.
use Rattle.std.proofs.Common.{◌≡◌, List, [], sym, ap, subst, ◌∙◌}
use Rattle.limits.specs.Refusal.{number, setting}
use Rattle.setting.specs.declared.Setting.{Setting}
use Rattle.setting.specs.declared.Checked.TheVariants as checked·
use Rattle.setting.specs.Answer.{checked}
use Rattle.setting.proofs.Limits.{taken_iff}
use Rattle.setting.proofs.Answers.{checked_taken, checked_refused}
use Rattle.quarter.specs.declared.Quarter.{Quarter}
use Rattle.quarter.specs.Cutting.{quarter}
use Rattle.quarter.specs.Answer.{quarter_of, cornered}
use Rattle.quarter.proofs.Cornered.{cornered_taken}
use Rattle.pen.specs.declared.Pen.{Pen}
use Rattle.plane.specs.Point.{Pt}
use Rattle.pen.specs.Polygon.{whole, pen}
use Rattle.pen.specs.Answer.{pen_of, built}
use Rattle.pen.specs.Mirrored.{corners_of, Mirrorable}
use Rattle.pen.proofs.Laid.{quarter_back, mirrorable}
use Rattle.pen.proofs.Answers.{pen_built, none_built}
use Rattle.pen.proofs.build.Goals as goal

-- the answers of the two cases
none_of : (σ : Setting) → checked σ ≡ checked·.Refused → {p : Pen} → p ≡ pen_of [] → record { refusal = number setting; pen = p } ≡ built σ
none_of σ e h = ap (λ (q : Pen). record { refusal = number setting; pen = q }) h ∙ sym (none_built σ (checked_refused σ e))

-- the quarter of a setting that the check took
quarter_taken : (σ s : Setting) → checked σ ≡ checked·.Taken s → cornered s ≡ quarter_of (quarter σ)
quarter_taken σ s e = let k = checked_taken σ s e in ap cornered (sym k.1) ∙ cornered_taken σ k.0

can_mirror : (σ s : Setting) → checked σ ≡ checked·.Taken s → {q : Quarter} → q ≡ cornered s → Mirrorable q
can_mirror σ s e h = subst Mirrorable (sym (h ∙ quarter_taken σ s e)) (mirrorable σ ((taken_iff σ).0 (checked_taken σ s e).0))

some_of : (σ s : Setting) → checked σ ≡ checked·.Taken s → {q : Quarter} → q ≡ cornered s →
    {p : Pen} → p ≡ pen_of (whole (corners_of q)) → record { refusal = 0; pen = p } ≡ built σ
unfolding pen
some_of σ s e k h =
    let corners = ap corners_of (k ∙ quarter_taken σ s e) ∙ quarter_back (quarter σ) in
    ap (λ (p : Pen). record { refusal = 0; pen = p }) (h ∙ ap (λ (l : List Pt). pen_of (whole l)) corners)
    ∙ sym (pen_built σ (checked_taken σ s e).0)

pub returns-in_default : goal.returns-in_default
returns-in_default c = none_of (record { w = c.args.w; p = c.args.p; q = c.args.q }) (sym c.in_default.ensures) c.none.ensures

pub mirrored-requires : goal.mirrored-requires
mirrored-requires c = can_mirror _ _ (sym c.in-Taken.ensures) c.build-lower_right.ensures

pub returns : goal.returns
returns c = some_of _ _ (sym c.in-Taken.ensures) c.build-lower_right.ensures c.mirrored.ensures
