-- Each turn checks one stroke more, or is refused.
use Rattle.std.proofs.Common.{◌≡◌, ◌∙◌, sym, ap, ap₂, arith, add-one, List, ℕ, suc, ◌+◌, ◌-◌, ◌<◌, length, get_or, ℤ}
use Rattle.limits.specs.declared.Verdict.{Verdict}
use Rattle.setting_list.specs.Settings.{held_count}
use Rattle.drawing.specs.Strokes.{Drawing, drawing_of, path_of, stroke_verdict, first_from, first_refused}
use Rattle.film_checks.specs.Code.{held_verdict}
use Rattle.film_checks.proofs.Alike.{checked_alike}
use Rattle.drawing.proofs.Taken.{no_stroke_lem, stroke_taken, stroke_refused}
use Rattle.film_checks.proofs.first_refused.Goals as goal

-- what is answered of stroke k
verdict : (d : Drawing) (columns rows k : ℕ) {held : ℕ} {path : List ℤ} {v : Verdict} → held ≡ held_count d.settings → path ≡ path_of d.starts d.entries k →
    v ≡ held_verdict held (get_or d.apertures k 0) path columns rows → v ≡ stroke_verdict d columns rows k
verdict d columns rows k e f g =
    let number = get_or d.apertures k 0 in
    g ∙ ap₂ (λ (held : ℕ) (p : List ℤ). held_verdict held number p columns rows) e f ∙ checked_alike d.settings number (path_of d.starts d.entries k) columns rows

-- stroke k is the first of those that are left
here : (d : Drawing) (columns rows k : ℕ) → k < length d.apertures →
    first_from d columns rows k (length d.apertures - k) ≡ first_refused d columns rows →
    first_from d columns rows k (suc (length d.apertures - (k + 1))) ≡ first_refused d columns rows
here d columns rows k h e =
    let fewer : length d.apertures - k ≡ suc (length d.apertures - (k + 1)) = omega arith in
    ap (first_from d columns rows k) (sym fewer) ∙ e

pub loop-k-init : goal.loop-k-init
loop-k-init c =
    let a = c.args in
    let n : length a.apertures.now - 0 ≡ length a.apertures.now = omega arith in
    ap (first_from (drawing_of a.settings.now a.apertures.now a.starts.now a.entries.now) a.columns a.rows 0) n

pub returns-in-Refused : goal.returns-in-Refused
returns-in-Refused c =
    let a = c.args in
    let i = c.loop-k in
    let d = drawing_of a.settings.now a.apertures.now a.starts.now a.entries.now in
    let v = verdict d a.columns a.rows i.k c.held_count-held.ensures c.path_of-path.ensures c.stroke_check-of_stroke.ensures in
    sym (stroke_refused d a.columns a.rows i.k _ _ _ (sym v ∙ c.in-Refused.is)) ∙ here d a.columns a.rows i.k c.loop-k-test.true i.invariant

pub loop-k-preserved : goal.loop-k-preserved
loop-k-preserved c =
    let a = c.args in
    let i = c.loop-k in
    let d = drawing_of a.settings.now a.apertures.now a.starts.now a.entries.now in
    let n = length a.apertures.now in
    let v = verdict d a.columns a.rows i.k c.held_count-held.ensures c.path_of-path.ensures c.stroke_check-of_stroke.ensures in
    ap (λ (i : ℕ). first_from d a.columns a.rows i (n - (c.loop-k.k + 1))) (add-one i.k)
    ∙ sym (stroke_taken d a.columns a.rows i.k (n - (i.k + 1)) (sym v ∙ c.in_default.is))
    ∙ here d a.columns a.rows i.k c.loop-k-test.true i.invariant

pub returns : goal.returns
returns c =
    let a = c.args in
    let i = c.loop-k in
    let d = drawing_of a.settings.now a.apertures.now a.starts.now a.entries.now in
    let none : 0 ≡ length a.apertures.now - i.k = omega arith in
    no_stroke_lem d a.columns a.rows i.k ∙ ap (first_from d a.columns a.rows i.k) none ∙ i.invariant
