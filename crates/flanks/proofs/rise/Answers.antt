-- The tests of the definitions, of the numbers that the bits are: the flanks wait, both stay on their edges, or both climb.
use Rattle.std.proofs.Common.{sym, ap, ap₂, ◌∙◌, true, false, ◌^◌, ℤ, pos, ◌*ℤ◌, w64, FitsSigned, rules}
use Rattle.integers.proofs.Machine.{Is, par}
use Rattle.integers.proofs.Words.{bits}
use Rattle.ties.specs.Below.{below}
use Rattle.flanks.specs.Flanks.{held_of, inside_of}
use Rattle.flanks.proofs.Numbers.{answered, same_flanks}
use Rattle.flanks.proofs.Cases.{climbed_on, climbing, risen_outside, risen_inside}
use Rattle.flanks.proofs.rise.Goals as goal

pub returns-then-not-inside : goal.returns-then-not-inside
returns-then-not-inside c =
    let a = c.args in
    let low : FitsSigned w64 a.f.low = search rules in
    let high : FitsSigned w64 a.f.high = search rules in
    let tested = c.inside.ensures ∙ ap₂ (λ (l h : ℤ). inside_of l h a.row) (par {w = w64} low).reads (par {w = w64} high).reads in
    sym (risen_outside a.count a.xs.now a.ys.now a.f a.row (sym tested ∙ c.if-not-inside.true))

pub returns-then-below-2 : goal.returns-then-below-2
returns-then-below-2 c =
    let a = c.args in
    let n = held_of a.count a.xs.now a.ys.now in
    let h = pos 16 *ℤ pos a.row in
    let low : FitsSigned w64 a.f.low = search rules in
    let high : FitsSigned w64 a.f.high = search rules in
    let left : FitsSigned w64 a.f.left.top = search rules in
    let right : FitsSigned w64 a.f.right.top = search rules in
    let height : Is w64 (pos 16 *ℤ pos a.row) (bits c.height-h.result) (2 ^ 20) = answered c.height-h.ensures.same c.height-h.ensures.small tt in
    let tested = c.inside.ensures ∙ ap₂ (λ (l h : ℤ). inside_of l h a.row) (par {w = w64} low).reads (par {w = w64} high).reads in
    let left_test = c.below.ensures ∙ ap₂ below height.reads (par {w = w64} left).reads in
    let right_test = c.below-then-below.ensures ∙ ap₂ below height.reads (par {w = w64} right).reads in
    same_flanks (par {w = w64} low).reads (par {w = w64} high).reads
    (c.stay.ensures ∙ sym (climbed_on a.f.left a.xs.now a.ys.now n true a.f.ends h (sym left_test ∙ c.if-below.true)))
    (c.stay-then-below-2.ensures ∙ sym (climbed_on a.f.right a.xs.now a.ys.now n false a.f.ends h (sym right_test ∙ c.if-below-2.true)))
    ∙ sym (risen_inside a.count a.xs.now a.ys.now a.f a.row (sym tested ∙ c.if-not-inside.false))

pub returns : goal.returns
returns c =
    let a = c.args in
    let low : FitsSigned w64 a.f.low = search rules in
    let high : FitsSigned w64 a.f.high = search rules in
    let height : Is w64 (pos 16 *ℤ pos a.row) (bits c.height-h.result) (2 ^ 20) = answered c.height-h.ensures.same c.height-h.ensures.small tt in
    let tested = c.inside.ensures ∙ ap₂ (λ (l h : ℤ). inside_of l h a.row) (par {w = w64} low).reads (par {w = w64} high).reads in
    c.turning.ensures ∙ ap (climbing a.count a.xs.now a.ys.now a.f a.row) height.reads
    ∙ sym (risen_inside a.count a.xs.now a.ys.now a.f a.row (sym tested ∙ c.if-not-inside.false))
