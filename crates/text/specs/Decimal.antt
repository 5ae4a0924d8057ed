-- A number in decimal, as ASCII codes.
use Rattle.std.specs.Prelude.{ℕ, zero, suc, ◌+◌, ◌/◌, ◌%◌, true, false, List, [], ◌∷◌, ◌++◌, ltb}

-- the ASCII code of a digit below 10
abbrev pub digit : ℕ → ℕ
digit d = 48 + d

-- at most k digits of n, ending with its last one
unfoldable pub last_digits : ℕ → ℕ → List ℕ
last_digits zero n = []
last_digits (suc k) n = elim (ltb n 10) [ true ↦ digit n ∷ [] | false ↦ last_digits k (n / 10) ++ (digit (n % 10) ∷ []) ]

-- "decimal without leading zeros"; a number has no more digits than its successor counts
abbrev pub decimal : ℕ → List ℕ
decimal n = last_digits (suc n) n
