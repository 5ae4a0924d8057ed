-- Each turn adds the 64 columns of one word.
use Rattle.std.proofs.Common.{◌*◌, ◌≡◌}
use Rattle.difference.specs.Apart.{differing}
use Rattle.difference.proofs.words.of_words.Given as goal

abbrev pub invariant-loop-i : goal.invariant-loop-i
invariant-loop-i l = l.total ≡ differing l.a l.b (64 * l.i)
