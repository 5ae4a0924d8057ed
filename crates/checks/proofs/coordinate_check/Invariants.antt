-- The definition at entry i and the entries after it is the definition at all of them.
use Rattle.std.proofs.Common.{◌≡◌, ◌≤◌, ◌-◌, length, drop}
use Rattle.checks.specs.Checks.{coordinate_from}
use Rattle.checks.proofs.coordinate_check.Given as goal

abbrev pub invariant-loop-i : goal.invariant-loop-i
invariant-loop-i l = (l.i ≤ length l.path) × (coordinate_from l.i (drop l.i l.path) ≡ coordinate_from 0 l.path)

abbrev pub decreases-loop-i : goal.decreases-loop-i
decreases-loop-i l = length l.path - l.i
