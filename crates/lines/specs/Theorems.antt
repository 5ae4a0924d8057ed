-- What the lines of a row are. The claims are types; proofs/Theorems.antt proves each under its name.
use Rattle.std.specs.Prelude.{ℕ, zero, suc, ◌≤◌, ◌<◌, ◌≡◌, true, false, ◌↔◌, ◌⊎◌, List, [], ◌∷◌, length}
use Rattle.integers.specs.Count.{◌∈◌, Number}
use Rattle.bits.specs.Bits.{bit_at}
use Rattle.difference.specs.Apart.{differing}
use Rattle.text.specs.Ascii.{ascii}
use Rattle.lines.specs.Lines.{Line, row, pixel, lines_text}
use Rattle.lines.specs.Rows.{row_lines}
use Rattle.lines.specs.Put.{text_room}

-- "which film has it black": one has column i black and the other not
abbrev pub OnlyIn : List ℕ → List ℕ → ℕ → ℕ → Type 0
OnlyIn a b i film = ((film ≡ 1) × ((bit_at a i ≡ true) × (bit_at b i ≡ false))) ⊎ ((film ≡ 2) × ((bit_at a i ≡ false) × (bit_at b i ≡ true)))

-- "each differing pixel and no other"
abbrev pub RowPixels : Type 0
RowPixels = (a b : List ℕ) (columns j i k film : ℕ) → (pixel i k film ∈ row_lines a b columns j) ↔ ((k ≡ j) × ((i < columns) × OnlyIn a b i film))

-- one line with the number
abbrev pub RowNumber : Type 0
RowNumber = (a b : List ℕ) (columns j k n : ℕ) → (row k n ∈ row_lines a b columns j) ↔ ((k ≡ j) × (n ≡ differing a b columns))

-- and that is the number of the row's pixel lines
abbrev pub PixelOf : ℕ → Line → Type 0
PixelOf j l = (i : ℕ) × ((film : ℕ) × (l ≡ pixel i j film))

abbrev pub RowEntries : Type 0
RowEntries = (a b : List ℕ) (columns j : ℕ) → Number (λ l. (l ∈ row_lines a b columns j) × PixelOf j l) (differing a b columns)

-- "top row first and left to right", a row's number before its pixels: which row a line is of, and where it stands in it
abbrev pub line_row : Line → ℕ
line_row (row j n) = j
line_row (pixel i j film) = j

abbrev pub line_place : Line → ℕ
line_place (row j n) = zero
line_place (pixel i j film) = suc i

abbrev pub Before : Line → Line → Type 0
Before l m = (line_row m < line_row l) ⊎ ((line_row m ≡ line_row l) × (line_place l < line_place m))

-- each line comes before all that follow it, and so stands there once
abbrev pub Ordered : List Line → Type 0
Ordered [] = Unit
Ordered (l ∷ ls) = ((m : Line) → m ∈ ls → Before l m) × Ordered ls

abbrev pub RowOrdered : Type 0
RowOrdered = (a b : List ℕ) (columns j : ℕ) → Ordered (row_lines a b columns j)

-- "without spare bits": only the pixels count
abbrev pub RowSame : Type 0
RowSame = (a a' b b' : List ℕ) (columns j : ℕ) → ((x : ℕ) → x < columns → bit_at a x ≡ bit_at a' x) → ((x : ℕ) → x < columns → bit_at b x ≡ bit_at b' x) →
    row_lines a b columns j ≡ row_lines a' b' columns j

-- a row laid over itself
abbrev pub RowOverItself : Type 0
RowOverItself = (a : List ℕ) (columns j : ℕ) → row_lines a a columns j ≡ row j 0 ∷ []

-- the room that is asked for is enough for any row's text
abbrev pub RowFits : Type 0
RowFits = (a b : List ℕ) (columns j : ℕ) → columns ≤ 16384 → j < 16384 → length (lines_text (row_lines a b columns j)) ≤ text_room

-- a report's text as it is read, letter by letter: the row before the number; the column, the row and the film
abbrev pub LinesSpelt : Type 0
LinesSpelt = lines_text (row 16383 2 ∷ pixel 7 16383 1 ∷ pixel 250 16383 2 ∷ row 16382 0 ∷ []) ≡ ascii "row 16383 2\n7 16383 1\n250 16383 2\nrow 16382 0\n"
