-- What gathering promises: for every gathering, table and chunk, and all lists that are lent.
use Rattle.std.specs.Prelude.{ℕ, ◌≤◌, ◌≡◌, List, ◌++◌, length, take, ℤ}
use Rattle.aperture.specs.declared.Table.{Table}
use Rattle.gather.specs.declared.Gathering.{Gathering}
use Rattle.gather.specs.Gather.{Gathered, gathered, goes_on}

-- ---- the chunks change nothing: two calls come to what one comes to that is lent both chunks, also where the first is refused
abbrev pub GatherAnyChunks : Type 0
GatherAnyChunks = (g : Gathering) (t : Table) (a b : List ℕ) (path : List ℤ) (apertures starts : List ℕ) →
    gathered g t (a ++ b) path apertures starts ≡ goes_on t (gathered g t a path apertures starts) b

-- ---- what a call leaves: lists as long as they were, with what was noted in them before
pub record Keeps (g : Gathering) (path : List ℤ) (apertures starts : List ℕ) (h : Gathered) : Type 0 where
  pub path_length : length h.path ≡ length path
  pub apertures_length : length h.apertures ≡ length apertures
  pub starts_length : length h.starts ≡ length starts
  pub earlier_apertures : take g.count h.apertures ≡ take g.count apertures
  pub earlier_starts : take g.count h.starts ≡ take g.count starts
  pub counted : g.count ≤ h.gathering.count

abbrev pub GatherKeeps : Type 0
GatherKeeps = (g : Gathering) (t : Table) (chunk : List ℕ) (path : List ℤ) (apertures starts : List ℕ) →
    Keeps g path apertures starts (gathered g t chunk path apertures starts)
