-- One edge more in each turn (Going).
use Rattle.std.proofs.Common.{◌∙◌, sym, ap₂, rules, arith, ◌-◌, slice_index_or, pos, w8, FitsSigned}
use Rattle.integers.proofs.Machine.{bound}
use Rattle.integers.proofs.Words.{widened}
use Rattle.plane.specs.Point.{Pt, pt}
use Rattle.plane.specs.Polygon.{edge}
use Rattle.stroke.specs.Sides.{moved}
use Rattle.stroke.specs.Extent.{Left, narrow}
use Rattle.extent.specs.Held.{left, ends}
use Rattle.extent.proofs.Round.{since_start, since_end}
use Rattle.extent.proofs.Going.{going, going_on, gone}
use Rattle.extent.proofs.side.edges.Goals as goal

pub returns-then-n-eq0-clause-answer : goal.returns-then-n-eq0-clause-answer
returns-then-n-eq0-clause-answer c =
    let h = c.requires.held in
    sym (since_start _ _ _ h.in_xs h.in_ys _ _ _ ∙ since_end _ _ _ h.in_xs h.in_ys _ _ _ 0 (omega arith))

pub loop-i-init : goal.loop-i-init
loop-i-init c =
    let s : FitsSigned w8 (slice_index_or c.args.xs.now 0 (pos 0)) = search rules in
    let t : FitsSigned w8 (slice_index_or c.args.ys.now 0 (pos 0)) = search rules in
    let x = widened s c.from-qx.ensures in
    let y = widened t c.from-qy.ensures in
    going c.requires.held c.requires.steady (record { x_small = bound x; y_small = bound y }) x.reads y.reads

pub loop-i-preserved : goal.loop-i-preserved
loop-i-preserved c =
    let i = c.loop-i.i in
    let v = c.loop-i.invariant in
    let s : FitsSigned w8 (slice_index_or c.args.xs.now (i - 1) (pos 0)) = search rules in
    let t : FitsSigned w8 (slice_index_or c.args.ys.now (i - 1) (pos 0)) = search rules in
    let x = widened s c.from-px.ensures in
    let y = widened t c.from-py.ensures in
    let narrowed_by : Pt → Pt → Left = λ P Q. narrow (pos 0) (moved (ends c.args.g) (edge P Q)) (left c.loop-i.r) in
    let e = ap₂ narrowed_by (ap₂ pt x.reads y.reads) (ap₂ pt v.x v.y) in
    going_on v c.loop-i-test.true c.edge-r.ensures.steady (record { x_small = bound x; y_small = bound y }) x.reads y.reads (c.edge-r.ensures.answer ∙ e)

pub returns-clause-answer : goal.returns-clause-answer
returns-clause-answer c = gone c.loop-i.invariant (omega arith)
