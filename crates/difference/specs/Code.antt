-- What only the code speaks of: the count of a part of a row, and words of eight bytes, whose value is `number_at` of wire.
use Rattle.std.specs.Prelude.{ℕ, ◌+◌, Bool, ◌&&◌, List, leb, eqb, length}
use Rattle.wire.specs.Read.{number_at}
use Rattle.difference.specs.Apart.{apart, count_below}

-- how many of the n columns from `first` on are apart
abbrev pub differing_from : List ℕ → List ℕ → ℕ → ℕ → ℕ
differing_from a b first n = count_below (λ j. apart a b (first + j)) n

-- the eight bytes from `at` on are all there
abbrev pub has_word : List ℕ → ℕ → Bool
has_word s at = leb (at + 8) (length s)

-- what `same_word` answers: both have eight bytes from `at` on, and they are the same
abbrev pub same_word : List ℕ → List ℕ → ℕ → Bool
same_word a b at = has_word a at && (has_word b at && eqb (number_at a at) (number_at b at))
