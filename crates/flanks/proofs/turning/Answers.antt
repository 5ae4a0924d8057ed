-- What the calls answer, of the numbers that the bits are.
use Rattle.std.proofs.Common.{ap₂, ◌∙◌, true, false, ℕ, ℤ, w64, FitsSigned, rules}
use Rattle.integers.proofs.Machine.{known, par}
use Rattle.flanks.specs.Flanks.{climbed}
use Rattle.flanks.proofs.Numbers.{same_flanks}
use Rattle.flanks.proofs.turning.Goals as goal

pub returns : goal.returns
returns c =
    let a = c.args in
    let low : FitsSigned w64 a.f.low = search rules in
    let high : FitsSigned w64 a.f.high = search rules in
    let h = known {w = w64} c.requires tt in
    same_flanks (par {w = w64} low).reads (par {w = w64} high).reads
    (c.climb-left.ensures ∙ ap₂ (λ (n : ℕ) (h : ℤ). climbed a.f.left a.xs.now a.ys.now n true a.f.ends h) c.held-n.ensures h.reads)
    (c.climb-right.ensures ∙ ap₂ (λ (n : ℕ) (h : ℤ). climbed a.f.right a.xs.now a.ys.now n false a.f.ends h) c.held-n.ensures h.reads)
