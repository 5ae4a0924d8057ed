-- The test of the definition, of the numbers that the bits are: on the same edge, or turned to the next.
use Rattle.std.proofs.Common.{sym, ap, ap₂, ◌∙◌, w64, FitsSigned, rules}
use Rattle.integers.proofs.Machine.{known, par}
use Rattle.ties.specs.Below.{below}
use Rattle.flanks.specs.Flanks.{turned}
use Rattle.flanks.proofs.Cases.{climbed_on, climbed_past}
use Rattle.flanks.proofs.turn.climb.Goals as goal

pub returns-then-below : goal.returns-then-below
returns-then-below c =
    let a = c.args in
    let top : FitsSigned w64 a.f.top = search rules in
    let tested = c.below.ensures ∙ ap₂ below (known {w = w64} c.requires tt).reads (par {w = w64} top).reads in
    c.stay.ensures ∙ sym (climbed_on a.f a.xs.now a.ys.now a.n a.left a.e a.h (sym tested ∙ c.if-below.true))

pub returns : goal.returns
returns c =
    let a = c.args in
    let top : FitsSigned w64 a.f.top = search rules in
    let h = known {w = w64} c.requires tt in
    let tested = c.below.ensures ∙ ap₂ below h.reads (par {w = w64} top).reads in
    c.turned.ensures ∙ ap (turned a.f a.xs.now a.ys.now a.n a.left a.e) h.reads
    ∙ sym (climbed_past a.f a.xs.now a.ys.now a.n a.left a.e a.h (sym tested ∙ c.if-below.false))
