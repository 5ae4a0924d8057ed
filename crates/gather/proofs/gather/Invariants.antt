-- In every turn what is left of the chunk, after what has been gathered, comes to what the whole chunk gives.
use Rattle.std.proofs.Common.{◌≡◌, length}
use Rattle.gather.specs.Gather.{goes_on}
use Rattle.gather.proofs.gather.Given as goal

abbrev pub invariant-loop-rest : goal.invariant-loop-rest
invariant-loop-rest l =
    goes_on l.fn.table (record { gathering = l.gathering; path = l.path; apertures = l.apertures; starts = l.starts }) l.rest ≡
    goes_on l.fn.table (record { gathering = l.initial.gathering; path = l.initial.path; apertures = l.initial.apertures; starts = l.initial.starts }) l.initial.rest

abbrev pub decreases-loop-rest : goal.decreases-loop-rest
decreases-loop-rest l = length l.rest
