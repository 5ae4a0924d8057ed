-- The cuts of the segments passed have made t, and those after them go on from there.
use Rattle.cuts.specs.Cuts.{cuts_of}
use Rattle.cuts.proofs.Passed.{Searched}
use Rattle.cuts.proofs.cut.first_touches.Given as goal

abbrev pub invariant-loop-k : goal.invariant-loop-k
invariant-loop-k l = Searched (cuts_of l.xs l.ys l.count l.path l.columns l.row) l.k-end l.t l.k
