-- The try's test is the definition's.
use borrow.Author.Tests.{le-leb, lt-leb}
use Rattle.quarter.specs.Tries.{halved}
use Rattle.quarter.specs.NearRoot.{lower}
use Rattle.cutting.proofs.root.halved.Goals as goal

pub returns-then-s-odd : goal.returns-then-s-odd
unfolding halved lower
returns-then-s-odd c = rw (le-leb _ _ c.if-s-odd.true, halved)

pub returns : goal.returns
unfolding halved lower
returns c = rw (lt-leb _ _ c.if-s-odd.false, halved)
