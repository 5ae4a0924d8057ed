-- The next point's entries where the path has them.
use Rattle.std.proofs.Common.{arith}
use Rattle.segments.proofs.Ends.{start_in, next_end, own_end}
use Rattle.segments.proofs.end_of.Goals as goal

pub returns-then-path-k : goal.returns-then-path-k
returns-then-path-k c = λ h. absurd (omega (arith, start_in c.args.path.now c.args.k h))

pub returns-then-from-path : goal.returns-then-from-path
returns-then-from-path c = λ h. next_end c.args.path.now c.args.k (omega arith)

pub returns : goal.returns
returns c = λ h. own_end c.args.path.now c.args.k h (omega arith)
