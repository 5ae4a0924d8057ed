-- One run more; there is room for all.
use Rattle.std.proofs.Common.{◌∙◌, refl, sym, arith, add-one, length, ◌*◌, ◌/◌, ◌≤◌}
use Rattle.checks.proofs.Verdicts.{room_passed}
use Rattle.row.proofs.Listed.{listed_next}
use Rattle.row.proofs.draw.write_few.Goals as goal

pub loop-k-preserved : goal.loop-k-preserved
loop-k-preserved c =
    let i = c.loop-k in
    let few = c.args.few.now in
    let l = c.args.runs.now in
    let space = room_passed (length few) (length l / 2) refl (sym c.in-Passed.ensures) in
    let room : 2 * length few ≤ length l = omega (arith, space) in
    record {
      written = rw add-one (c.write_run.ensures ∙ rw i.invariant.written (sym (listed_next few i.k _ c.loop-k-test.true l room)));
      as_long = c.write_run.auto.runs ∙ i.invariant.as_long;
    }
