-- Document 02, W4: nanometres and units.
use Rattle.std.specs.Prelude.{ℕ, Bool, cond, ◌&&◌, ℤ, pos, neg_ℤ, ◌+ℤ◌, ◌*ℤ◌}
use Rattle.std.specs.Int.Signed.{le_z}
use Rattle.integers.specs.Floor.{floor_div}
use Rattle.limits.specs.Sizes.{within}

-- "One unit of ours is N nanometres, N lent, from 1 to 1,000,000"
abbrev pub is_unit : ℕ → Bool
is_unit unit = within unit 1 1000000

-- "Numbers have 1 to 9 digits, perhaps a sign"
abbrev pub is_nine : ℤ → Bool
is_nine n = le_z (neg_ℤ (pos 999999999)) n && le_z n (pos 999999999)

-- "a coordinate n becomes floor((2n+N)/(2N))"
abbrev pub rounded : ℤ → ℕ → ℤ
rounded n unit = floor_div (pos 2 *ℤ n +ℤ pos unit) (pos 2 *ℤ pos unit)

-- the same of any two numbers: 0 for those that no file has
unfoldable pub in_units : ℤ → ℕ → ℤ
in_units n unit = cond (is_nine n && is_unit unit) (rounded n unit) (pos 0)
