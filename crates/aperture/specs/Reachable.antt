-- Document 01: "only defining and removing change it. Statements speak of tables so made".
use Rattle.std.specs.Prelude.{ℕ, ◌≡◌, true}
use Rattle.setting.specs.declared.Setting.{Setting}
use Rattle.setting.specs.Setting.{Taken}
use Rattle.aperture.specs.declared.Place.{Place}
use Rattle.aperture.specs.declared.Table.{Table}
use Rattle.aperture.specs.Table.{vacant, holding, is_number, is_held, empty, place_of, defined, removed}

-- the tables that the calls make from the empty one
pub data Reachable : Table → Type 0 where
  starts : Reachable empty
  defines : {t : Table} (n : ℕ) (σ : Setting) → Reachable t → Reachable (defined t n σ).table
  removes : {t : Table} (n : ℕ) → Reachable t → Reachable (removed t n).table

-- a place is vacant, or holds a setting within the limits and exactly that setting's pen
pub data Sound : Place → Type 0 where
  nothing : Sound vacant
  some : {σ : Setting} → Taken σ → Sound (holding σ)

-- aperture n of a table so made holds the setting
pub record Holds (t : Table) (n : ℕ) (σ : Setting) : Type 0 where
  pub reachable : Reachable t
  pub number : is_number n ≡ true
  pub taken : Taken σ
  pub place : place_of t n ≡ holding σ

-- every table so made holds only pens of its settings
abbrev pub ReachableSound : Type 0
ReachableSound = (t : Table) → Reachable t → (n : ℕ) → Sound (place_of t n)

-- what a call does to the apertures: "makes its own aperture hold exactly the setting given and that setting's pen", "makes its own empty", "every other
-- aperture stays as it was", "A removed aperture may be defined again"
abbrev pub DefinedHolds : Type 0
DefinedHolds = (t : Table) → Reachable t → (n : ℕ) (σ : Setting) → (defined t n σ).refusal ≡ 0 → place_of (defined t n σ).table n ≡ holding σ

abbrev pub RemovedVacant : Type 0
RemovedVacant = (t : Table) → Reachable t → (n : ℕ) → (removed t n).refusal ≡ 0 → place_of (removed t n).table n ≡ vacant

abbrev pub OthersKept : Type 0
OthersKept =
    (t : Table) (n m : ℕ) (σ : Setting) → is_number n ≡ true → is_number m ≡ true → ¬ (n ≡ m) →
    (place_of (defined t n σ).table m ≡ place_of t m) × (place_of (removed t n).table m ≡ place_of t m)

abbrev pub RefusalKeeps : Type 0
RefusalKeeps = (t : Table) (n : ℕ) (σ : Setting) → (¬ ((defined t n σ).refusal ≡ 0) → (defined t n σ).table ≡ t) × (¬ ((removed t n).refusal ≡ 0) → (removed t n).table ≡ t)

abbrev pub RemovedAgain : Type 0
RemovedAgain = (t : Table) → Reachable t → (n : ℕ) (σ : Setting) → Taken σ → (removed t n).refusal ≡ 0 → (defined (removed t n).table n σ).refusal ≡ 0

-- So `Holds`, which statements about calls ask for, is delivered: a definition that succeeds gives it, and nothing takes it away but removing that aperture
abbrev pub DefinedGives : Type 0
DefinedGives = (t : Table) → Reachable t → (n : ℕ) (σ : Setting) → (defined t n σ).refusal ≡ 0 → Holds (defined t n σ).table n σ

abbrev pub DefiningKeeps : Type 0
DefiningKeeps = (t : Table) (n m : ℕ) (σ τ : Setting) → Holds t n σ → Holds (defined t m τ).table n σ

abbrev pub RemovingKeeps : Type 0
RemovingKeeps = (t : Table) (n m : ℕ) (σ : Setting) → ¬ (n ≡ m) → Holds t n σ → Holds (removed t m).table n σ

-- and an aperture in use of a table so made holds some setting
abbrev pub UsedHolds : Type 0
UsedHolds = (t : Table) → Reachable t → (n : ℕ) → is_held t n ≡ true → (σ : Setting) × Holds t n σ
