-- Each turn tells the rows of one block, of which there is at least one.
use Rattle.std.proofs.Common.{◌≡◌, length}
use Rattle.overlay.proofs.rows.put_rows.Given as goal

abbrev pub invariant-loop-left : goal.invariant-loop-left
invariant-loop-left l = (length l.a ≡ 65536) × (length l.b ≡ 65536)

abbrev pub decreases-loop-left : goal.decreases-loop-left
decreases-loop-left l = l.left
