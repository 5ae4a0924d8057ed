-- Each place of the loop asks for one of the laws of a moment (Rounds).
use Rattle.std.proofs.Common.{◌≡◌, [], pos, neg_ℤ, refl, sym, ap₂, subst, ◌∙◌, arith}
use Rattle.integers.proofs.Machine.{num, sub_fits}
use Rattle.quarter.specs.Moment.{Moment, start}
use Rattle.cutting.specs.Held.{stored, put_out}
use Rattle.cutting.proofs.Rounds.{begun, put_out_now, kept, across, upwards, low, ended, ready, place_left, room, falls, again}
use Rattle.cutting.proofs.corners.quarter.Goals as goal
use Rattle.cutting.proofs.corners.quarter.Goals.{then-d-eq0, else-d-eq0}

pub loop-top-init : goal.loop-top-init
loop-top-init c = record {
  taken = c.requires;
  long = refl;
  high = omega arith;
  out = [];
  moment = subst (Moment c.args.s []) (sym (begun _ _ c.begin-t.ensures.start c.begin-t.ensures.upright)) start;
  list = c.none-q.ensures;
}

pub amount-d-requires-clause-left : goal.amount-d-requires-clause-left
amount-d-requires-clause-left c = (ready c.loop-top.invariant c.loop-top-test.true).before

pub amount-d-requires-clause-right : goal.amount-d-requires-clause-right
amount-d-requires-clause-right c = (ready c.loop-top.invariant c.loop-top-test.true).after

pub overflow_cast-q : goal.overflow_cast-q
overflow_cast-q c = (across (ready c.loop-top.invariant c.loop-top-test.true).x_small).fits

pub bounds-q-n : goal.bounds-q-n
bounds-q-n c = place_left c.loop-top.invariant c.loop-top-test.true

pub overflow_cast-q-then-d-eq0 : goal.overflow_cast-q-then-d-eq0
overflow_cast-q-then-d-eq0 c = (across (ready c.loop-top.invariant c.loop-top-test.true).y_small).fits

pub overflow_sub-q : goal.overflow_sub-q
overflow_sub-q c = sub_fits (num (pos 0) tt) (across (ready c.loop-top.invariant c.loop-top-test.true).y_small) tt

pub bounds-q-n-then-d-eq0 : goal.bounds-q-n-then-d-eq0
bounds-q-n-then-d-eq0 c = place_left c.loop-top.invariant c.loop-top-test.true

pub overflow_add-q : goal.overflow_add-q
overflow_add-q c = record { fits = omega (arith, place_left c.loop-top.invariant c.loop-top-test.true) }

pub step-t-requires-clause-room : goal.step-t-requires-clause-room
step-t-requires-clause-room c = room c.loop-top.invariant c.loop-top-test.true c.amount-d.ensures

pub overflow_sub-after : goal.overflow_sub-after
overflow_sub-after c = low c.loop-top.invariant

pub overflow_sub-top : goal.overflow_sub-top
overflow_sub-top c = omega (arith, low c.loop-top.invariant, c.step-t.ensures.few)

pub loop-top-smaller : goal.loop-top-smaller
loop-top-smaller c = falls c.loop-top.invariant c.loop-top-test.true c.amount-d.ensures c.step-t.ensures

-- a corner is stored where the amount is 0
pub loop-top-preserved : goal.loop-top-preserved
loop-top-preserved c =
    let l = c.loop-top in
    let r = ready l.invariant c.loop-top-test.true in
    let put : c.if-d-eq0.q ≡ put_out c.amount-d.result l.q (pos l.t.x) (neg_ℤ (pos l.t.y)) =
    elim c.if-d-eq0.branch [
      | then-d-eq0 w ↦
          w.q-is ∙ ap₂ (stored l.q) (across r.x_small).reads (upwards r.y_small)
          ∙ put_out_now l.q (pos l.t.x) (neg_ℤ (pos l.t.y)) c.amount-d.result w.if-d-eq0.true
      | else-d-eq0 w ↦ w.q-is ∙ kept l.q (pos l.t.x) (neg_ℤ (pos l.t.y)) c.amount-d.result w.if-d-eq0.false
    ] in
    again l.invariant c.loop-top-test.true c.amount-d.ensures c.step-t.ensures put

pub returns : goal.returns
returns c = ended c.loop-top.invariant c.loop-top-test.false
