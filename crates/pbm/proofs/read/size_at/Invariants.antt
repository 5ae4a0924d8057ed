-- What was read and what is left to read give the same number in every turn.
use Rattle.pbm.proofs.Reading.{SoFar}
use Rattle.pbm.proofs.read.size_at.Given as goal

abbrev pub invariant-loop-i : goal.invariant-loop-i
invariant-loop-i l = SoFar l.text l.at l.value l.i
