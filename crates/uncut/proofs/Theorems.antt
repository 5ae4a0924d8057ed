-- The claims of specs/Theorems.antt, each under its name there.
use Rattle.uncut.specs.Theorems.{ReachIsStart, ReachRefuses, ReachBlack, SpansUnique, ReachBounded, ReachMoved, RowCutsExtent, EngineReaches}
use Rattle.uncut.proofs.Reaching as reaching
use Rattle.uncut.proofs.Refusals as refusals
use Rattle.uncut.proofs.Pixels as pixels
use Rattle.uncut.proofs.Moved as moved
use Rattle.uncut.proofs.Compared as compared

pub reach_is_start : ReachIsStart
reach_is_start = reaching.reach_is_start

pub reach_refuses : ReachRefuses
reach_refuses = refusals.reach_refuses

pub reach_black : ReachBlack
reach_black = pixels.reach_black

pub spans_unique : SpansUnique
spans_unique = pixels.spans_unique

pub reach_bounded : ReachBounded
reach_bounded = pixels.reach_bounded

pub reach_moved : ReachMoved
reach_moved = moved.reach_moved

pub row_cuts_extent : RowCutsExtent
row_cuts_extent = compared.row_cuts_extent

pub engine_reaches : EngineReaches
engine_reaches = compared.engine_reaches
