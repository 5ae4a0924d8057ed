-- The loop copies the coordinates that the bytes hold, one after the other.
use Rattle.std.proofs.Common.{◌≡◌}
use Rattle.std.proofs.Math.Seq.{paste}
use Rattle.wire.specs.Read.{entries_of}
use Rattle.wire.proofs.read.fours.Given as goal

abbrev pub invariant-loop-i : goal.invariant-loop-i
invariant-loop-i l = l.entries ≡ paste l.fn.entries 0 (entries_of l.bytes) l.i
