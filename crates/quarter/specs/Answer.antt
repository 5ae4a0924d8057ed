-- What the code answers: the quarter of a setting as arrays hold it; no corners for a setting outside the limits.
use Rattle.std.specs.Prelude.{ℕ, ◌-◌, true, false, List, [], ◌++◌, map, length, replicate, ℤ, pos, neg_ℤ}
use Rattle.limits.specs.Sizes.{quarter_max}
use Rattle.setting.specs.declared.Setting.{Setting}
use Rattle.setting.specs.Setting.{taken}
use Rattle.quarter.specs.declared.Quarter.{Quarter}
use Rattle.quarter.specs.Cutting.{Corner, quarter}

-- an array of n numbers that holds l from its start, and zeros after it
abbrev pub laid : ℕ → List ℤ → List ℤ
laid n l = l ++ replicate (n - length l) (pos 0)

-- a corner's numbers with y upwards, as in document 01
abbrev pub across : Corner → ℤ
across c = pos c.x

abbrev pub upwards : Corner → ℤ
upwards c = neg_ℤ (pos c.y)

abbrev pub quarter_of : List Corner → Quarter
quarter_of cs = record { count = length cs; x = laid quarter_max (map across cs); y = laid quarter_max (map upwards cs) }

-- the quarter's corners, where the setting is within the limits
unfoldable pub cornered : Setting → Quarter
cornered σ = elim (taken σ) [ true ↦ quarter_of (quarter σ) | false ↦ quarter_of [] ]
