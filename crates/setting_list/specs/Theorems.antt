-- What is promised of the settings, in document 01's words. The claims are types; each is proved in proofs/ under its name in small letters.
--
-- Why it is true: where the settings before it stand in the table no later aperture is in use, so that defining one refuses what is no number or outside the
-- limits, and nothing else.
use Rattle.std.specs.Prelude.{ℕ, ◌+◌, ◌<◌, ◌≡◌, ◌⊎◌, List}
use Rattle.limits.specs.declared.Verdict.{Verdict}
use Rattle.limits.specs.declared.Verdict.TheVariants.{Passed, Refused}
use Rattle.setting.specs.Exactly.{BadSetting}
use Rattle.aperture.specs.Table.{empty}
use Rattle.aperture.specs.Reachable.{Reachable, Holds}
use Rattle.aperture.specs.Refusals.{NoNumber}
use Rattle.setting_list.specs.Settings.{setting_at, setting_count, Tabled, table_of, settings_verdict}

-- setting i can be defined: there is an aperture for it, and it is within the limits
pub record GoodSetting (l : List ℕ) (i : ℕ) : Type 0 where
  pub number : ¬ NoNumber (10 + i)
  pub limits : ¬ BadSetting (setting_at l i)

abbrev pub GoodSettings : List ℕ → Type 0
GoodSettings l = (i : ℕ) → i < setting_count l → GoodSetting l i

-- setting `place` is the first that cannot be defined: those before it can, and it gets 6 as a 33rd, or 1 for being outside the limits
pub record FirstBadSetting (l : List ℕ) (number place : ℕ) : Type 0 where
  pub one : place < setting_count l
  pub earlier : (i : ℕ) → i < place → GoodSetting l i
  pub exactly : (NoNumber (10 + place) × (number ≡ 6)) ⊎ (¬ NoNumber (10 + place) × (BadSetting (setting_at l place) × (number ≡ 1)))

-- "only defining and removing change it. Statements speak of tables so made"; 0 says that every setting stands in the table, the first as aperture 10
pub record MadeTable (l : List ℕ) (r : Tabled) : Type 0 where
  pub reachable : Reachable r.table
  pub holds : r.refusal ≡ 0 → (i : ℕ) → i < setting_count l → Holds r.table (10 + i) (setting_at l i)
  pub refused : ¬ (r.refusal ≡ 0) → FirstBadSetting l r.refusal r.place
  pub none : ¬ (r.refusal ≡ 0) → r.table ≡ empty

abbrev pub TableMade : Type 0
TableMade = (l : List ℕ) → MadeTable l (table_of l)

-- which setting is told: the first that is refused, with its number and its place in the list
pub data SettingTold (l : List ℕ) : Verdict → Type 0 where
  good : GoodSettings l → SettingTold l Passed
  bad : (number place : ℕ) → FirstBadSetting l number place → SettingTold l (Refused number place)

abbrev pub SettingsTold : Type 0
SettingsTold = (l : List ℕ) → SettingTold l (settings_verdict l)
