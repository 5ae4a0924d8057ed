-- In every turn, what is served from here on makes up all that is served.
use Rattle.std.proofs.Common.{◌-◌}
use denote.Param.Always.{always_mut}
use Rattle.inputs.specs.Stream.{Served}
use Rattle.inputs.proofs.requests.serve.Given as goal

abbrev pub invariant-loop-turn : goal.invariant-loop-turn
invariant-loop-turn g l = record {
  callable : always_mut g.F.FnMut l.one;
  whole : Served (goal.F-step g) (18446744073709551615 - l._turn) l.one → Served (goal.F-step g) 18446744073709551615 l.fn.one;
}
