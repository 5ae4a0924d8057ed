-- A number in a word: digits, in ASCII, that read as at most 2^64 - 1.
use Rattle.std.specs.Prelude.{ℕ, ◌+◌, ◌*◌, ◌-◌, ◌&&◌, if◌then◌else◌, List, [], ◌∷◌, take, leb, Result, Ok, Err}
use Rattle.std.specs.declared.env.FillError.{FillError}
use Rattle.inputs.specs.declared.NumberError.{NumberError}
use Rattle.inputs.specs.declared.NumberError.TheVariants.{Empty, Wrong}

abbrev pub greatest : ℕ
greatest = 18446744073709551615

abbrev pub longer : ℕ → ℕ → ℕ
longer n b = 10 * n + (b - 48)

-- one byte more: "0" to "9"
abbrev pub lengthened : ℕ → ℕ → Result ℕ NumberError
lengthened n b = if leb 48 b && (leb b 57 && leb (longer n b) greatest) then Ok (longer n b) else Err Wrong

-- the same of what has been read of a number
abbrev pub grown : Result ℕ NumberError → ℕ → Result ℕ NumberError
grown (Ok n) b = lengthened n b
grown (Err Empty) b = lengthened 0 b
grown (Err Wrong) b = Err Wrong

unfoldable pub read_on : Result ℕ NumberError → List ℕ → Result ℕ NumberError
read_on m [] = m
read_on m (b ∷ l) = read_on (grown m b) l

-- the number that a text is; Empty where the text is
abbrev pub number_of : List ℕ → Result ℕ NumberError
number_of l = read_on (Err Empty) l

-- the number in a buffer for a word, of which so many bytes were filled; none in a word that is missing or too long
abbrev pub number_in : List ℕ → Result ℕ FillError → Result ℕ NumberError
number_in word (Ok n) = number_of (take n word)
number_in word (Err e) = Err Wrong
