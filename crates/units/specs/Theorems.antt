-- The conversion a second way, without a division: the nearest unit, a half going up; and the range of a unit.
use Rattle.std.specs.Prelude.{ℕ, ◌≤◌, ◌≡◌, true, ◌↔◌, ℤ, pos, neg_ℤ, ◌-ℤ◌, ◌*ℤ◌}
use Rattle.integers.specs.Orders.{◌≼◌, ◌≺◌}
use Rattle.units.specs.Units.{is_nine, is_unit, in_units}

-- n lies from half a unit before it, to half a unit behind it, which is excluded
abbrev pub NearestUnit : Type 0
NearestUnit = (n : ℤ) (unit : ℕ) → is_nine n ≡ true → is_unit unit ≡ true →
    let off = pos 2 *ℤ (n -ℤ pos unit *ℤ in_units n unit) in
    (neg_ℤ (pos unit) ≼ off) × (off ≺ pos unit)

-- "from 1 to 1,000,000"
abbrev pub UnitRange : Type 0
UnitRange = (unit : ℕ) → (is_unit unit ≡ true) ↔ ((1 ≤ unit) × (unit ≤ 1000000))
