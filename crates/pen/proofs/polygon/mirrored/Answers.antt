-- Each round stores a corner of the walk unless it equals the next one; the last goes with the first.
use Rattle.std.proofs.Common.{◌≡◌, sym, ◌∙◌, w8, to_z, of_z}
use mathlib.Core.Path.{ap₂}
use Rattle.plane.specs.Point.{Pt, pt}
use Rattle.pen.specs.declared.polygon.Point.{Point}
use Rattle.pen.specs.Mirrored.{Boxed, point_of, pushed}
use Rattle.pen.proofs.Laid.{pushed_skipped, pushed_added}
use Rattle.pen.proofs.Opposites.{i8_itself}
use Rattle.pen.proofs.Mirroring.{going_first, going_on, going_ended}
use Rattle.pen.proofs.polygon.mirrored.Goals as goal
use Rattle.pen.proofs.polygon.mirrored.Goals.{then-not-equal, else-not-equal}

-- a corner as the code hands it on: handing it on does not change it
abbrev handed : Point → Pt
handed r = pt (to_z w8 (of_z w8 r.x)) (to_z w8 (of_z w8 r.y))

kept : {r : Point} {z : Pt} → point_of r ≡ z → Boxed r → handed r ≡ z
kept e h = ap₂ pt (i8_itself h.x_small) (i8_itself h.y_small) ∙ e

pub loop-i-init : goal.loop-i-init
loop-i-init c = going_first c.args.q c.requires c.none-p.ensures (kept c.corner_at-first.ensures.corner c.corner_at-first.ensures.small)

pub loop-i-preserved : goal.loop-i-preserved
loop-i-preserved c =
    let l = c.loop-i in
    let a : Pt = pt (to_z w8 l.ax-bits) (to_z w8 l.ay-bits) in
    let b : Pt = handed c.corner_at-b.result in
    let stored : c.if-not-equal.p ≡ pushed l.p a b =
    elim c.if-not-equal.branch [
      | then-not-equal w ↦ w.p-is ∙ pushed_added l.p a b (sym c.equal.ensures ∙ w.if-not-equal.true)
      | else-not-equal w ↦ w.p-is ∙ pushed_skipped l.p a b (sym c.equal.ensures ∙ w.if-not-equal.false)
    ] in
    going_on l.invariant c.loop-i-test.true (kept c.corner_at-b.ensures.corner c.corner_at-b.ensures.small) stored

pub returns-then-not-equal-2 : goal.returns-then-not-equal-2
returns-then-not-equal-2 c =
    let l = c.loop-i in
    let a : Pt = pt (to_z w8 l.ax-bits) (to_z w8 l.ay-bits) in
    let f : Pt = handed c.corner_at-first.result in
    going_ended l.invariant c.loop-i-test.false (kept c.corner_at-first.ensures.corner c.corner_at-first.ensures.small)
    (pushed_added l.p a f (sym c.equal-2.ensures ∙ c.if-not-equal-2.true))

pub returns-else-not-equal-2 : goal.returns-else-not-equal-2
returns-else-not-equal-2 c =
    let l = c.loop-i in
    let a : Pt = pt (to_z w8 l.ax-bits) (to_z w8 l.ay-bits) in
    let f : Pt = handed c.corner_at-first.result in
    going_ended l.invariant c.loop-i-test.false (kept c.corner_at-first.ensures.corner c.corner_at-first.ensures.small)
    (pushed_skipped l.p a f (sym c.equal-2.ensures ∙ c.if-not-equal-2.false))
