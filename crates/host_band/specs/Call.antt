-- What a call is asked, in one record, and what it answers; inside the crate only.
use Rattle.std.specs.Prelude.{ℕ, List, ℤ}
use Rattle.setting.specs.declared.Setting.{Setting}
use Rattle.band.specs.Band.{band_call}
use Rattle.outcome.specs.Outcome.{Outcome, told}
use Rattle.host_band.specs.declared.answer.Call.{Call}
use Rattle.host_band.specs.HostBand.{host_band}

-- whose pen
abbrev pub setting : Call → Setting
setting c = record { w = c.w; p = c.p; q = c.q }

-- for a path of coordinates
abbrev pub entries_call : Call → List ℤ → List ℕ → Outcome
entries_call c path b = told (band_call (setting c) path c.columns c.rows c.first c.n c.stride b)

-- for a path of bytes
abbrev pub bytes_call : Call → List ℕ → List ℕ → Outcome
bytes_call c path b = host_band (setting c) path c.columns c.rows c.first c.n c.stride b
