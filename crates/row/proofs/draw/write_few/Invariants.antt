-- The list holds the runs so far.
use Rattle.std.proofs.Common.{◌≡◌, take, map, length}
use Rattle.row.specs.Answer.{listed}
use Rattle.row.specs.Together.{between}
use Rattle.row.proofs.draw.write_few.Given as goal

abbrev pub invariant-loop-k : goal.invariant-loop-k
invariant-loop-k l = record {
  written : l.runs ≡ listed (map between (take l.k l.few)) l.fn.runs;
  as_long : length l.runs ≡ length l.fn.runs;
}
