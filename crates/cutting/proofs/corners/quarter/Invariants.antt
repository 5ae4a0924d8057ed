-- At the loop's head the steps are at a moment of theirs; each round lowers what is left of all edges.
use Rattle.quarter.specs.Moment.{total}
use Rattle.cutting.proofs.Rounds.{Held, at}
use Rattle.cutting.proofs.corners.quarter.Given as goal

abbrev pub invariant-loop-top : goal.invariant-loop-top
invariant-loop-top l = Held l.s l.t l.after l.top l.q

abbrev pub decreases-loop-top : goal.decreases-loop-top
decreases-loop-top l = total (at l.t l.after l.top)
