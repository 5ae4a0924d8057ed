-- Each turn adds the eight columns of one byte.
use Rattle.std.proofs.Common.{◌*◌, ◌≡◌}
use Rattle.difference.specs.Apart.{differing}
use Rattle.difference.proofs.count.of_bytes.Given as goal

abbrev pub invariant-loop-k : goal.invariant-loop-k
invariant-loop-k l = l.total ≡ differing l.a l.b (8 * l.k)
