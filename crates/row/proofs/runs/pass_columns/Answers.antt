-- Column i passed and written.
use Rattle.std.proofs.Common.{◌∙◌, arith, add-one, suc}
use Rattle.bits.specs.Bits.{bit_at}
use Rattle.row.proofs.Grown.{runs_more}
use Rattle.row.proofs.Pass.{passed_few, passed_some, passed_next, passed_listed}
use Rattle.row.proofs.runs.pass_columns.Goals as goal

pub next-r-requires : goal.next-r-requires
next-r-requires g c = omega (arith, passed_few c.loop-i.invariant.passed, c.requires.in_raster, c.loop-i-test.true)

pub write_column-requires-clause-some : goal.write_column-requires-clause-some
write_column-requires-clause-some g c = passed_some c.loop-i.invariant.passed

-- the list has room for the runs up to column i, as it has for all
pub write_column-requires-clause-room : goal.write_column-requires-clause-room
write_column-requires-clause-room g c = λ w.
    let i = c.loop-i in
    let r = c.next-r.ensures in
    let q = passed_next i.invariant.passed (r.black, r.count) in
    let more = runs_more (bit_at c.args.bytes.now) (suc i.i) c.args.to c.loop-i-test.true in
    omega (arith, r.count, q.counts, more, c.requires.room w, i.invariant.as_long)

pub loop-i-preserved : goal.loop-i-preserved
loop-i-preserved g c =
    let i = c.loop-i in
    let r = c.next-r.ensures in
    let q = passed_next i.invariant.passed (r.black, r.count) in
    record {
      passed = rw add-one q;
      written = rw add-one (λ w.
          passed_listed i.invariant.passed q r.count c.args.runs.now i.runs c.write_column.new.runs i.invariant.as_long (i.invariant.written w)
          (λ _. c.write_column.ensures w));
      as_long = c.write_column.auto.runs ∙ i.invariant.as_long;
    }
