-- The claims of specs/Theorems.antt, each under its name there.
use mathlib.Core.Path.{refl}
use Rattle.quarter.specs.Tries.{halved}
use Rattle.quarter.specs.Theorems.{NearRootHolds, NearRootUnique, StepsFall, QuarterPuts, PutsUnique, EdgesLie, AtMost33, EndsWithQuarter, NothingBelowZero, QuarterFew, QuarterBox, TryHalves, SixteenTries, SearchEnds, SearchCuts}
use Rattle.quarter.proofs.NearRoot.{near_root_ok, near_root_one}
use Rattle.quarter.proofs.Progress.{falls_put, falls_on, ends_with}
use Rattle.quarter.proofs.Sizes.{corners_at_most, moment_ready}
use Rattle.quarter.proofs.Ranges.{quarter_few_corners, quarter_in_box}
use Rattle.quarter.proofs.Rules.{puts_quarter}
use Rattle.quarter.proofs.Unique.{puts_one}
use Rattle.quarter.proofs.Lines.{comes_lie}
use Rattle.quarter.proofs.Halving.{halved_shrinks}
use Rattle.quarter.proofs.Tries.{ends_between, at_most_sixteen, cut_by_found}

pub near_root_holds : NearRootHolds
near_root_holds = near_root_ok

pub near_root_unique : NearRootUnique
near_root_unique = near_root_one

pub steps_fall : StepsFall
steps_fall σ τ out t m = (λ r e. falls_put σ τ m e, λ r e. falls_on σ τ m e)

pub quarter_puts : QuarterPuts
quarter_puts = puts_quarter

pub puts_unique : PutsUnique
puts_unique σ A L edges cs ds = puts_one

pub edges_lie : EdgesLie
edges_lie σ A L edges = comes_lie

pub at_most_33 : AtMost33
at_most_33 σ τ out t m = corners_at_most σ τ m

pub ends_with_quarter : EndsWithQuarter
ends_with_quarter σ τ out t m e = ends_with σ τ m e

pub nothing_below_zero : NothingBelowZero
nothing_below_zero σ τ out t m R rest e = moment_ready σ τ m e

pub quarter_few : QuarterFew
quarter_few = quarter_few_corners

pub quarter_box : QuarterBox
quarter_box = quarter_in_box

pub try_halves : TryHalves
try_halves f t i h = (halved_shrinks f t i {r = halved f t i} h refl).half

pub sixteen_tries : SixteenTries
sixteen_tries σ τ out t m R rest e tried found = at_most_sixteen τ m e

pub search_ends : SearchEnds
search_ends = ends_between

pub search_cuts : SearchCuts
search_cuts σ τ out t m R rest e n tried found = cut_by_found τ m e n
