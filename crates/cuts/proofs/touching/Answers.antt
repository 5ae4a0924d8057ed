-- The test of the definition.
use Rattle.std.proofs.Common.{◌∙◌, sym}
use Rattle.cuts.proofs.Together.{touch_none, touch_some}
use Rattle.cuts.proofs.touching.Goals as goal

pub returns-then-not-is_size : goal.returns-then-not-is_size
returns-then-not-is_size c = touch_none _ _ _ _ (sym c.is_size.ensures ∙ c.if-not-is_size.true)

pub returns : goal.returns
returns c = c.first_touches.ensures ∙ touch_some _ _ _ _ (sym c.is_size.ensures ∙ c.if-not-is_size.false)
