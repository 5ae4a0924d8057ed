-- The cut of segment k is laid over the bytes and between the bounds.
use Rattle.std.proofs.Common.{◌∙◌, refl, sym, ap, arith, add-one}
use Rattle.plane.specs.Point.{corners}
use Rattle.stroke.specs.Sweep.{path_points}
use Rattle.bits.specs.Bits.{blackened}
use Rattle.bits.proofs.Blackened.{blackened_packed}
use Rattle.std.specs.Prelude.{Option}
use Rattle.cuts.specs.declared.cut.Cut.{Cut}
use Rattle.cuts.specs.Cuts.{cuts_of, in_cut, black_cut, wider}
use Rattle.cuts.proofs.Raster.{cuts_long, cuts_below}
use Rattle.cuts.proofs.Laid.{laid_none, black_past}
use Rattle.cuts.proofs.Passed.{overlaid_step, overlaid_end}
use Rattle.cuts.proofs.over.lay_cuts.Goals as goal

pub loop-k-init : goal.loop-k-init
loop-k-init c =
    let a = c.args in
    record {
      within = omega arith;
      all = c.count-k-end.ensures ∙ sym (cuts_long (corners a.count a.xs.now a.ys.now) (path_points a.path.now) a.columns a.row);
      as_long = refl;
      laid = laid_none a.bytes.now;
      bounded = refl;
    }

pub loop-k-preserved : goal.loop-k-preserved
loop-k-preserved c =
    let i = c.loop-k in
    let e = c.cut_at-cut.ensures.cut in
    let laid = c.lay_cut.ensures ∙ ap (λ (d : Option Cut). blackened (λ x. in_cut x d) i.bytes) e in
    rw add-one (overlaid_step i.invariant c.loop-k-test.true c.lay_cut.auto.bytes laid (c.widen-b.ensures ∙ ap (wider i.b) e))

pub returns-clause-laid : goal.returns-clause-laid
returns-clause-laid c =
    let a = c.args in
    let cs = cuts_of a.xs.now a.ys.now a.count a.path.now a.columns a.row in
    let w = cuts_below (corners a.count a.xs.now a.ys.now) (path_points a.path.now) a.columns a.row in
    (overlaid_end c.loop-k.invariant c.loop-k-test.false).0 ∙ sym (blackened_packed (black_cut cs) a.columns a.bytes.now (black_past cs a.columns w))

pub returns-clause-bounds : goal.returns-clause-bounds
returns-clause-bounds c = (overlaid_end c.loop-k.invariant c.loop-k-test.false).1
