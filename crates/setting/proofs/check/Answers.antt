-- `check` takes a setting exactly when it passes the test of its limits: each `return` knows one part of the test.
use Rattle.std.proofs.Common.{◌≡◌, sym, ◌∙◌, false}
use Rattle.integers.proofs.Tests.{and_false, false_and}
use Rattle.setting.specs.declared.Setting.{Setting}
use Rattle.setting.specs.Setting.{taken}
use Rattle.setting.proofs.Limits.{w_within, p_within, q_within, product_within, passes}
use Rattle.setting.proofs.Answers.{refused, accepted}
use Rattle.setting.proofs.check.Goals as goal

-- one part that fails is enough
fails_w : (σ : Setting) → w_within σ ≡ false → taken σ ≡ false
unfolding taken
fails_w σ e = sym (false_and _ _ e)

fails_p : (σ : Setting) → p_within σ ≡ false → taken σ ≡ false
unfolding taken
fails_p σ e = and_false (w_within σ) _ (sym (false_and _ _ e))

fails_q : (σ : Setting) → q_within σ ≡ false → taken σ ≡ false
unfolding taken
fails_q σ e = and_false (w_within σ) _ (and_false (p_within σ) _ (sym (false_and _ _ e)))

fails_product : (σ : Setting) → product_within σ ≡ false → taken σ ≡ false
unfolding taken
fails_product σ e = and_false (w_within σ) _ (and_false (p_within σ) _ (and_false (q_within σ) _ e))

pub returns-then-not-within : goal.returns-then-not-within
returns-then-not-within c =
    let σ : Setting = record { w = c.args.w; p = c.args.p; q = c.args.q } in
    refused σ (fails_w σ (sym c.within.ensures ∙ c.if-not-within.true))

pub returns-then-not-within-2 : goal.returns-then-not-within-2
returns-then-not-within-2 c =
    let σ : Setting = record { w = c.args.w; p = c.args.p; q = c.args.q } in
    refused σ (fails_p σ (sym c.within-2.ensures ∙ c.if-not-within-2.true))

pub returns-then-not-within-3 : goal.returns-then-not-within-3
returns-then-not-within-3 c =
    let σ : Setting = record { w = c.args.w; p = c.args.p; q = c.args.q } in
    refused σ (fails_q σ (sym c.within-3.ensures ∙ c.if-not-within-3.true))

pub returns-then-not-within-4 : goal.returns-then-not-within-4
returns-then-not-within-4 c =
    let σ : Setting = record { w = c.args.w; p = c.args.p; q = c.args.q } in
    refused σ (fails_product σ (sym c.within-4.ensures ∙ c.if-not-within-4.true))

pub returns : goal.returns
returns c =
    let σ : Setting = record { w = c.args.w; p = c.args.p; q = c.args.q } in
    accepted σ
    (passes σ (sym c.within.ensures ∙ c.if-not-within.false) (sym c.within-2.ensures ∙ c.if-not-within-2.false)
    (sym c.within-3.ensures ∙ c.if-not-within-3.false) (sym c.within-4.ensures ∙ c.if-not-within-4.false))
