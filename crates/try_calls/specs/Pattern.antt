-- What stands in a list or a buffer that is lent: something else from place to place, so that what has to stay is seen to stay.
use Rattle.std.specs.Prelude.{ℕ, zero, suc, ◌+◌, ◌*◌, ◌%◌, List, [], ◌∷◌, ◌++◌}
use Rattle.records.specs.declared.Run.{Run}

-- of 256 bytes all differ
abbrev pub byte_at : ℕ → ℕ
byte_at i = (37 * (i % 256) + 11) % 256

-- two such bytes as a number, the lowest first
abbrev pub pair_at : ℕ → ℕ
pair_at i = byte_at (2 * (i % 128)) + 256 * byte_at (2 * (i % 128) + 1)

-- two such numbers as a record
abbrev pub run_at : ℕ → Run
run_at i = record { left = pair_at (2 * i); right = pair_at (2 * i + 1) }

-- a whole list
unfoldable pub pattern : {A : Type 0} → (ℕ → A) → ℕ → List A
pattern f zero = []
pattern f (suc n) = pattern f n ++ (f n ∷ [])
