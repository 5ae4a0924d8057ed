-- The cuts of the segments passed are laid over the bytes and between the bounds, and those after them go on from there.
use Rattle.cuts.specs.Cuts.{cuts_of}
use Rattle.cuts.proofs.Passed.{Overlaid}
use Rattle.cuts.proofs.over.lay_cuts.Given as goal

abbrev pub invariant-loop-k : goal.invariant-loop-k
invariant-loop-k l = Overlaid (cuts_of l.xs l.ys l.count l.path l.columns l.row) l.k-end l.fn.bytes l.bytes l.b l.k
