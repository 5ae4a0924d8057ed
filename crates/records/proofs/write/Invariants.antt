-- After i turns the first i records are those of the plain list.
use Rattle.std.proofs.Common.{◌≡◌}
use Rattle.records.proofs.Written.{filled}
use Rattle.records.proofs.write.Given as goal

abbrev pub invariant-loop-i : goal.invariant-loop-i
invariant-loop-i l = l.out ≡ filled l.i l.plain l.fn.out
