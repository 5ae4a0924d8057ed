-- A turn is answered, or leaves the stream; or the turns are used up.
use Rattle.std.proofs.Common.{of_calls, arith}
use Rattle.inputs.proofs.Stream.{served_more, served_left, served_all}
use Rattle.inputs.proofs.requests.serve.Goals as goal

pub loop-turn-init : goal.loop-turn-init
loop-turn-init g c = record { callable = search of_calls; whole = λ h. h }

pub loop-turn-preserved : goal.loop-turn-preserved
loop-turn-preserved g c = record {
  callable = search of_calls;
  whole = λ h. c.loop-turn.invariant.whole
      (served_more (goal.F-step g) 18446744073709551615 c.loop-turn._turn c.loop-turn.one c.one.new.self c.one.result c.in_default.field-0 (omega arith) c.one.ensures c.in_default.is h);
}

pub returns-in-Err : goal.returns-in-Err
returns-in-Err g c = c.loop-turn.invariant.whole
    (served_left (goal.F-step g) 18446744073709551615 c.loop-turn._turn c.loop-turn.one c.one.new.self c.one.result c.in-Err.why (omega arith) c.one.ensures c.in-Err.is)

pub returns : goal.returns
returns g c = c.loop-turn.invariant.whole (served_all (goal.F-step g) 18446744073709551615 c.loop-turn._turn c.loop-turn.one (omega arith))
