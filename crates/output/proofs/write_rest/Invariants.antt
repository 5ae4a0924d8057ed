-- Each band has a row at least, and lies within the rows that are left.
use Rattle.std.proofs.Common.{◌+◌, ◌≤◌}
use Rattle.output.proofs.write_rest.Given as goal

abbrev pub invariant-loop-left : goal.invariant-loop-left
invariant-loop-left l = l.first + l.left ≤ l.rows

abbrev pub decreases-loop-left : goal.decreases-loop-left
decreases-loop-left l = l.left
