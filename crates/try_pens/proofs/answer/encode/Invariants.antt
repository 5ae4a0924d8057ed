-- The loop stores one corner after the other behind the two bytes that stand before it.
use Rattle.try_pens.proofs.Bytes.{Going}
use Rattle.try_pens.proofs.answer.encode.Given as goal

abbrev pub invariant-loop-i : goal.invariant-loop-i
invariant-loop-i l = Going l.initial.out l.pen l.out l.i
