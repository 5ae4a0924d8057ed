-- The claims of specs/Theorems.antt, each under its name there.
use Rattle.ties.specs.Theorems.{KeptSays, KeptHas, BelowSays, BelowHas}
use Rattle.ties.proofs.Kept as kept
use Rattle.ties.proofs.Heights as heights

pub kept_says : KeptSays
kept_says = kept.kept_says

pub kept_has : KeptHas
kept_has = kept.kept_laws

pub below_says : BelowSays
below_says = heights.below_says

pub below_has : BelowHas
below_has = heights.below_laws
