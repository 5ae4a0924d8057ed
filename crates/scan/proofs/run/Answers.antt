-- In every turn what is left to read gives what the whole chunk gives.
use Rattle.std.proofs.Common.{◌∙◌, sym, arith}
use Rattle.scan.proofs.Scans.{past, stops, goes_on}
use Rattle.scan.proofs.run.Goals as goal

pub returns-then-is_stop : goal.returns-then-is_stop
returns-then-is_stop c =
    stops c.loop-i.scanner c.args.chunk.now c.loop-i.i (omega arith) c.step-scanner.ensures (sym c.if-is_stop.ensures) ∙ c.loop-i.invariant.scanned

pub loop-i-preserved : goal.loop-i-preserved
loop-i-preserved c = record {
  within = omega arith;
  scanned =
      goes_on c.loop-i.scanner c.args.chunk.now c.loop-i.i (omega arith) c.step-scanner.ensures (sym c.if-is_stop.ensures) ∙ c.loop-i.invariant.scanned;
}

pub returns : goal.returns
returns c = past c.loop-i.scanner c.args.chunk.now c.loop-i.i c.max.result (omega arith) (omega arith) ∙ c.loop-i.invariant.scanned
