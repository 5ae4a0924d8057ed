-- The lines of a report, and their text.
use Rattle.std.specs.Prelude.{ℕ, List, [], ◌∷◌, ◌++◌}
use Rattle.text.specs.Ascii.{ascii}
use Rattle.text.specs.Decimal.{decimal}

-- "reports each differing pixel and no other, as column, row (0 lowest) and which film has it black": 1 is the first film, 2 the second.
-- "For each row it also gives the number of differing pixels"
pub data Line : Type 0 where
  row : (row number : ℕ) → Line
  pixel : (column row film : ℕ) → Line

-- "row ROW NUMBER"
abbrev pub row_text : ℕ → ℕ → List ℕ
row_text j n = ascii "row " ++ decimal j ++ ascii " " ++ decimal n ++ ascii "\n"

-- "COLUMN ROW FILM", here with any digits of the row
abbrev pub film_text : ℕ → List ℕ
film_text film = ascii " " ++ decimal film ++ ascii "\n"

abbrev pub pixel_text : ℕ → List ℕ → ℕ → List ℕ
pixel_text i digits film = decimal i ++ ascii " " ++ digits ++ film_text film

abbrev pub line_text : Line → List ℕ
line_text (row j n) = row_text j n
line_text (pixel i j film) = pixel_text i (decimal j) film

unfoldable pub lines_text : List Line → List ℕ
lines_text [] = []
lines_text (l ∷ ls) = line_text l ++ lines_text ls
