-- A store past the last corner of the quarter's arrays is a corner more.
use Prim.Native.Nat.{◌<◌}
use mathlib.Core.Path.{◌≡◌}
use mathlib.Core.List.{List, [], ◌∷◌, ◌++◌}
use lib.ListN.{length}
use Rattle.limits.specs.Sizes.{quarter_max}
use Rattle.quarter.specs.Cutting.{Corner}
use Rattle.quarter.specs.Answer.{across, upwards, quarter_of}
use Rattle.quarter.proofs.Laid.{laid_corner, count_snoc}
use Rattle.cutting.specs.Held.{stored}

pub stored_quarter : (cs : List Corner) (c : Corner) → length cs < quarter_max → stored (quarter_of cs) (across c) (upwards c) ≡ quarter_of (cs ++ (c ∷ []))
stored_quarter cs c h = rw (count_snoc cs c, laid_corner quarter_max across cs c h, laid_corner quarter_max upwards cs c h)
