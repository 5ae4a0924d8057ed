-- What is read next starts within the text.
use Rattle.std.proofs.Common.{◌≤◌, length}
use Rattle.try_gerber.proofs.words.read_list.Given as goal

abbrev pub invariant-loop-count : goal.invariant-loop-count
invariant-loop-count l = l.at ≤ length l.text
