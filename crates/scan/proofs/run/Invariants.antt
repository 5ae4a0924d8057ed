-- What is left to read, scanned from the state of the turn, is what the whole chunk makes.
use Rattle.std.proofs.Common.{◌≡◌, ◌≤◌, length, max}
use Rattle.scan.specs.Scanner.{scanned_from}
use Rattle.scan.proofs.run.Given as goal

abbrev pub invariant-loop-i : goal.invariant-loop-i
invariant-loop-i l = record {
  within : l.i ≤ max l.initial.i (length l.chunk);
  scanned : scanned_from l.scanner l.chunk l.i ≡ scanned_from l.initial.scanner l.chunk l.initial.i;
}
