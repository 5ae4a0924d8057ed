-- Steps 1 and 2: the determinant's test, the shorter of the two counts, and the near root's reduction, each as the definition has it.
use borrow.Author.Tests.{lt-ltb}
use Rattle.quarter.specs.Cutting.{amount}
use Rattle.quarter.proofs.Halving.{reduced}
use Rattle.cutting.proofs.cut.amount.Goals as goal

pub returns-then-l-r : goal.returns-then-l-r
unfolding amount
returns-then-l-r c = rw (lt-ltb _ _ c.if-l-r.true, amount)

pub returns : goal.returns
returns c = reduced c.args.s c.args.l c.args.r c.if-l-r.false c.min_u64-shorter.ensures c.minus.ensures c.near_root-root.ensures
