-- The loop copies the bytes of the numbers, two at a time.
use Rattle.std.proofs.Common.{◌*◌, ◌≡◌}
use Rattle.std.proofs.Math.Seq.{paste}
use Rattle.wire.specs.Write.{word_bytes}
use Rattle.wire.proofs.write.pairs.Given as goal

abbrev pub invariant-loop-i : goal.invariant-loop-i
invariant-loop-i l = l.bytes ≡ paste l.fn.bytes 0 (word_bytes l.list) (2 * l.i)
