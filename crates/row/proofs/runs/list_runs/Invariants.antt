-- The loop passes byte after byte, from one that has the first column between the bounds, or starts before it, to one that ends at their end, or past it.
-- The list always holds the runs of the columns passed.
use Rattle.std.proofs.Common.{◌≡◌, true, not, eqb, ◌*◌, length}
use Rattle.bits.specs.Bits.{bit_at}
use Rattle.row.specs.Pass.{PassedTo, Listed}
use Rattle.row.proofs.runs.list_runs.Given as goal

abbrev pub invariant-loop-k : goal.invariant-loop-k
invariant-loop-k g l = record {
  passed : PassedTo (bit_at l.bytes) (8 * l.k) l.p;
  written : not (eqb g.row.WRITES 0) ≡ true → Listed (bit_at l.bytes) (8 * l.k) l.fn.runs l.runs;
  as_long : length l.runs ≡ length l.fn.runs;
}
