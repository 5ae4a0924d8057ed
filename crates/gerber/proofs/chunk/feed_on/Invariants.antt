-- In every turn what is left of the chunk gives what the whole chunk gives.
use Rattle.std.proofs.Common.{◌≡◌, ◌≤◌, ◌-◌, length, drop}
use Rattle.chunks.specs.Machine.{call}
use Rattle.gerber.specs.Reader.{step_of}
use Rattle.gerber.proofs.Runs.{counting}
use Rattle.gerber.proofs.chunk.feed_on.Given as goal

abbrev pub invariant-loop-i : goal.invariant-loop-i
invariant-loop-i l =
    (l.i ≤ length l.chunk) ×
    (counting l.i (call (step_of l.initial.t) (record { reader = l.reader; path = l.path }) (drop l.i l.chunk)) ≡
    call (step_of l.initial.t) (record { reader = l.initial.reader; path = l.initial.path }) l.chunk)

abbrev pub decreases-loop-i : goal.decreases-loop-i
decreases-loop-i l = length l.chunk - l.i
