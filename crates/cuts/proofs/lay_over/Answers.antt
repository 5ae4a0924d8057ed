-- The test of the definition.
use Rattle.std.proofs.Common.{◌∙◌, refl, sym}
use Rattle.cuts.proofs.Together.{laid_not, laid_all}
use Rattle.cuts.proofs.lay_over.Goals as goal

pub returns-then-not-serves : goal.returns-then-not-serves
returns-then-not-serves c = laid_not _ _ _ _ _ (sym c.serves.ensures ∙ c.if-not-serves.true) refl

pub returns : goal.returns
returns c = laid_all _ _ _ _ _ (sym c.serves.ensures ∙ c.if-not-serves.false) c.lay_cuts.ensures.laid c.lay_cuts.ensures.bounds
