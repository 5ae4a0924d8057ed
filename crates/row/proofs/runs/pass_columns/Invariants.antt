-- The loop passes the columns one after the other, and the list always holds the runs of the columns passed.
use Rattle.std.proofs.Common.{◌≡◌, true, not, eqb, length}
use Rattle.bits.specs.Bits.{bit_at}
use Rattle.row.specs.Pass.{PassedTo, Listed}
use Rattle.row.proofs.runs.pass_columns.Given as goal

abbrev pub invariant-loop-i : goal.invariant-loop-i
invariant-loop-i g l = record {
  passed : PassedTo (bit_at l.bytes) l.i l.q;
  written : not (eqb g.row.WRITES 0) ≡ true → Listed (bit_at l.bytes) l.i l.fn.runs l.runs;
  as_long : length l.runs ≡ length l.fn.runs;
}
