-- The settings of a drawing as a table: w, p, q of aperture 10, w, p, q of aperture 11, ..
use Rattle.std.specs.Prelude.{ℕ, zero, suc, ◌+◌, ◌-◌, ◌*◌, ◌/◌, Bool, true, false, ◌&&◌, List, eqb, leb, ltb, length, get_or}
use Rattle.limits.specs.Sizes.{aperture_min}
use Rattle.limits.specs.Refusal.{setting, aperture, unless_at, ◌then◌}
use Rattle.limits.specs.declared.Verdict.{Verdict}
use Rattle.limits.specs.declared.Verdict.TheVariants.{Passed, Refused}
use Rattle.setting.specs.declared.Setting.{Setting}
use Rattle.setting.specs.Setting.{taken}
use Rattle.aperture.specs.declared.Table.{Table}
use Rattle.aperture.specs.Table.{is_number, empty, defined}

-- setting i of the list; a number that is missing counts as 0
abbrev pub setting_at : List ℕ → ℕ → Setting
setting_at l i = record { w = get_or l (3 * i) 0; p = get_or l (3 * i + 1) 0; q = get_or l (3 * i + 2) 0 }

-- how many settings the list has. Numbers left over, where its length is no multiple of 3, are a last one, which has a 0 and so is refused with 1
abbrev pub setting_count : List ℕ → ℕ
setting_count l = (length l + 2) / 3

-- what becomes of the settings: document 01's refusal number, the place in the list of the setting that is refused, and the table
pub record Tabled : Type 0 where
  pub refusal : ℕ
  pub place : ℕ
  pub table : Table

-- n settings from the i-th on, defined in a table one after the other. "The first that applies is the answer": the number of the first that is refused, with
-- its place in the list, and a table in which no aperture is defined
unfoldable pub tabled_from : List ℕ → ℕ → ℕ → Table → Tabled
tabled_from l i zero t = record { refusal = 0; place = 0; table = t }
tabled_from l i (suc n) t =
    let c = defined t (aperture_min + i) (setting_at l i) in
    elim (eqb c.refusal 0) [ true ↦ tabled_from l (suc i) n c.table | false ↦ record { refusal = c.refusal; place = i; table = empty } ]

abbrev pub table_of : List ℕ → Tabled
table_of l = tabled_from l 0 (setting_count l) empty

-- what is refused of the settings, among the checks of a call
abbrev pub tabled_verdict : Tabled → Verdict
tabled_verdict r = elim (eqb r.refusal 0) [ true ↦ Passed | false ↦ Refused r.refusal r.place ]

abbrev pub settings_verdict : List ℕ → Verdict
settings_verdict l = tabled_verdict (table_of l)

-- ---- what the code is asked, which makes no table
-- setting i by itself: there are 32 numbers, 6, and a setting is within the limits, 1
abbrev pub setting_verdict : List ℕ → ℕ → Verdict
setting_verdict l i = unless_at i (is_number (aperture_min + i)) aperture then unless_at i (taken (setting_at l i)) setting

-- how many apertures the table holds, from 10 on: as many as there are settings, and none where one is refused
abbrev pub held_where : Verdict → ℕ → ℕ
held_where Passed n = n
held_where (Refused number place) n = 0

abbrev pub held_count : List ℕ → ℕ
held_count l = held_where (settings_verdict l) (setting_count l)

-- whether aperture n is one of so many
abbrev pub is_one_of : ℕ → ℕ → Bool
is_one_of held n = leb aperture_min n && ltb (n - aperture_min) held
