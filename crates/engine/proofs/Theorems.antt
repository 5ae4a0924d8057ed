-- The claims of specs/Theorems.antt, each under its name there.
use Rattle.engine.specs.Theorems.{EngineIsRow, EnginesMeet, EngineExtent, RefusedStays, StartRefuses, StartIsCheck, StepRefuses}
use Rattle.engine.proofs.Same as same
use Rattle.engine.proofs.Refusals as refusals

pub engine_is_row : EngineIsRow
engine_is_row = same.engine_is_row

pub engines_meet : EnginesMeet
engines_meet = same.engines_meet

pub engine_extent : EngineExtent
engine_extent = same.engine_extent

pub refused_stays : RefusedStays
refused_stays = refusals.refused_stays

pub start_refuses : StartRefuses
start_refuses = refusals.start_refuses

pub start_is_check : StartIsCheck
start_is_check = refusals.start_is_check

pub step_refuses : StepRefuses
step_refuses = refusals.step_refuses
