-- The opposite of the first y, or 0 where there is none.
use Rattle.std.proofs.Common.{◌∙◌, rules, arith, slice_index_or, pos, w8, FitsSigned}
use Rattle.integers.proofs.Words.{widened, opposite}
use Rattle.plane.proofs.Read.{reach_none, reach_some}
use Rattle.extent.proofs.side.reach.Goals as goal

pub returns-then-n-eq0-clause-answer : goal.returns-then-n-eq0-clause-answer
returns-then-n-eq0-clause-answer c xs h = rw c.if-n-eq0.true (reach_none xs c.args.ys.now)

pub returns-clause-answer : goal.returns-clause-answer
returns-clause-answer c xs h =
    let s : FitsSigned w8 (slice_index_or c.args.ys.now 0 (pos 0)) = search rules in
    (opposite (widened s c.from.ensures) tt).reads ∙ reach_some _ xs _ (omega (arith, c.if-n-eq0.false)) h c.requires
