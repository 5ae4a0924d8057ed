-- What is promised of a report, by places and values, of any two files. The claims are types; each is proved in proofs/ under its name in small letters.
use Rattle.std.specs.Prelude.{ℕ, ◌+◌, ◌-◌, ◌*◌, ◌/◌, ◌%◌, ◌^◌, ◌<◌, ◌≡◌, Bool, true, ◌↔◌, ◌⊎◌, List, [], ◌∷◌, ◌++◌, length, get_or}
use Rattle.integers.specs.Count.{◌∈◌, Number}
use Rattle.limits.specs.Sizes.{Size}
use Rattle.limits.specs.Exactly.{◌when◌else◌, done}
use Rattle.wire.specs.Theorems.{AreBytes}
use Rattle.bits.specs.Bits.{packed_length, packed}
use Rattle.pbm.specs.Pbm.{header, file}
use Rattle.pbm.specs.Theorems.{Headed}
use Rattle.difference.specs.RowOnes.{row_ones}
use Rattle.text.specs.Ascii.{ascii}
use Rattle.lines.specs.Lines.{Line, row, pixel}
use Rattle.lines.specs.Put.{text_room}
use Rattle.lines.specs.Theorems.{PixelOf, Ordered}
use Rattle.compare.specs.declared.Refusal.{Refusal}
use Rattle.compare.specs.declared.Refusal.TheVariants.{BadHeader1, BadHeader2, UnequalSizes, ShortData1, ShortData2, BytesAfter1, BytesAfter2}
use Rattle.compare.specs.Report.{Report, refused, told, row_in, report_of, report_text}
use Rattle.compare.specs.Run.{run}

-- ---- films
-- a film of so many columns and rows: its header, and as many bytes behind it as the rows fill
pub record Film (f : List ℕ) (columns rows : ℕ) : Type 0 where
  pub start : ℕ
  pub head : Headed f columns rows start
  pub size : length f ≡ start + rows * packed_length columns

pub record Films (f g : List ℕ) (columns rows : ℕ) : Type 0 where
  pub first : Film f columns rows
  pub second : Film g columns rows

-- "the leftmost pixel in the highest bit, black is 1", "The top row comes first": pixel (i, j) is black by the bytes of a film's file
abbrev pub BlackIn : List ℕ → ℕ → ℕ → ℕ → ℕ → Type 0
BlackIn f columns rows i j = get_or f (length (header columns rows) + (rows - 1 - j) * packed_length columns + i / 8) 0 / 2 ^ (7 - i % 8) % 2 ≡ 1

-- ---- refusals
-- "The header must have exactly document 01's form, with a size inside its limits"
abbrev pub BadHeader : List ℕ → Type 0
BadHeader f = (columns rows start : ℕ) → ¬ Headed f columns rows start

abbrev pub UnequalHeaders : List ℕ → List ℕ → Type 0
UnequalHeaders f g =
    (columns : ℕ) × ((rows : ℕ) × ((start : ℕ) × ((columns' : ℕ) × ((rows' : ℕ) × ((start' : ℕ) ×
    (Headed f columns rows start × (Headed g columns' rows' start' × ¬ ((columns ≡ columns') × (rows ≡ rows')))))))))

abbrev pub ShortData : List ℕ → Type 0
ShortData f = (columns : ℕ) × ((rows : ℕ) × ((start : ℕ) × (Headed f columns rows start × (length f < start + rows * packed_length columns))))

abbrev pub BytesAfter : List ℕ → Type 0
BytesAfter f = (columns : ℕ) × ((rows : ℕ) × ((start : ℕ) × (Headed f columns rows start × (start + rows * packed_length columns < length f))))

-- which of the seven it is, in their order, and 0 for none
abbrev pub refusal_of : Report → ℕ
refusal_of (told ls) = 0
refusal_of (refused BadHeader1) = 1
refusal_of (refused BadHeader2) = 2
refusal_of (refused UnequalSizes) = 3
refusal_of (refused ShortData1) = 4
refusal_of (refused ShortData2) = 5
refusal_of (refused BytesAfter1) = 6
refusal_of (refused BytesAfter2) = 7

-- each of them exactly when it applies and none before it does
abbrev pub RefusedExactly : Type 0
RefusedExactly = (f g : List ℕ) (k : ℕ) → (refusal_of (report_of f g) ≡ k)
    ↔ (1 when BadHeader f else 2 when BadHeader g else 3 when UnequalHeaders f g else 4 when ShortData f else 5 when ShortData g else 6 when BytesAfter f else 7 when BytesAfter g else done) k

-- "by name": what each of these numbers is called
abbrev pub called : ℕ → List ℕ
called k =
    get_or
    (ascii "bad header, film 1" ∷ ascii "bad header, film 2" ∷ ascii "unequal sizes" ∷ ascii "short data, film 1" ∷ ascii "short data, film 2"
    ∷ ascii "bytes after the last row, film 1" ∷ ascii "bytes after the last row, film 2" ∷ [])
    (k - 1) []

abbrev pub RefusedByName : Type 0
RefusedByName = (r : Refusal) → report_text (refused r) ≡ ascii "refused: " ++ called (refusal_of (refused r)) ++ ascii "\n"

-- none of them: two films of one size
abbrev pub TakenExactly : Type 0
TakenExactly = (f g : List ℕ) → (refusal_of (report_of f g) ≡ 0) ↔ ((columns : ℕ) × ((rows : ℕ) × Films f g columns rows))

-- ---- the lines of a report
abbrev pub lines_of : Report → List Line
lines_of (refused r) = []
lines_of (told ls) = ls

-- which film has pixel (i, j) black, where one has and the other has not
abbrev pub OnlyFilm : List ℕ → List ℕ → ℕ → ℕ → ℕ → ℕ → ℕ → Type 0
OnlyFilm f g columns rows i j film =
    ((film ≡ 1) × (BlackIn f columns rows i j × ¬ BlackIn g columns rows i j)) ⊎ ((film ≡ 2) × (¬ BlackIn f columns rows i j × BlackIn g columns rows i j))

-- "reports each differing pixel and no other, as column, row (0 lowest) and which film has it black"
abbrev pub EachPixel : Type 0
EachPixel = (f g : List ℕ) (columns rows : ℕ) → Films f g columns rows → (i j film : ℕ) →
    (pixel i j film ∈ lines_of (report_of f g)) ↔ ((j < rows) × ((i < columns) × OnlyFilm f g columns rows i j film))

-- "For each row it also gives the number of differing pixels": n is the number of the columns in which one film has row j black and the other has not
abbrev pub EachRow : Type 0
EachRow = (f g : List ℕ) (columns rows : ℕ) → Films f g columns rows → (j n : ℕ) →
    (row j n ∈ lines_of (report_of f g)) ↔ ((j < rows) × Number (λ i. (i < columns) × ((film : ℕ) × OnlyFilm f g columns rows i j film)) n)

-- and so the number of the pixel lines of that row
abbrev pub EachNumber : Type 0
EachNumber = (f g : List ℕ) (j n : ℕ) → row j n ∈ lines_of (report_of f g) → Number (λ l. (l ∈ lines_of (report_of f g)) × PixelOf j l) n

-- "and that is the count of ones in the two rows' difference without spare bits"
abbrev pub EachOnes : Type 0
EachOnes = (f g : List ℕ) → AreBytes f → AreBytes g → (columns rows : ℕ) (films : Films f g columns rows) → (j n : ℕ) → row j n ∈ lines_of (report_of f g) →
    n ≡ row_ones (row_in f columns rows films.first.start j) (row_in g columns rows films.second.start j) columns

-- "top row first and left to right"
abbrev pub InOrder : Type 0
InOrder = (f g : List ℕ) → Ordered (lines_of (report_of f g))

-- "without spare bits": films with the same pixels have the same report
abbrev pub SamePixel : List ℕ → List ℕ → ℕ → ℕ → Type 0
SamePixel f f' columns rows = (i j : ℕ) → i < columns → j < rows → BlackIn f columns rows i j ↔ BlackIn f' columns rows i j

abbrev pub SpareBitsNothing : Type 0
SpareBitsNothing = (f g f' g' : List ℕ) (columns rows : ℕ) → Films f g columns rows → Films f' g' columns rows →
    SamePixel f f' columns rows → SamePixel g g' columns rows → report_of f g ≡ report_of f' g'

-- a film laid over itself has no differing pixels
abbrev pub FilmOverItself : Type 0
FilmOverItself = (f : List ℕ) (columns rows : ℕ) → Film f columns rows → (l : Line) → l ∈ lines_of (report_of f f) → (j : ℕ) × (l ≡ row j 0)

-- what the drawer writes is a film, whose pixels are those that were packed
pub record FilmOf (black : ℕ → ℕ → Bool) (columns rows : ℕ) (f : List ℕ) : Type 0 where
  pub film : Film f columns rows
  pub pixels : (i j : ℕ) → i < columns → j < rows → BlackIn f columns rows i j ↔ (black j i ≡ true)

abbrev pub DrawnFilm : Type 0
DrawnFilm = (black : ℕ → ℕ → Bool) (columns rows : ℕ) → Size columns → Size rows → FilmOf black columns rows (file columns rows (λ j. packed (black j) columns))

-- ---- the program
-- the rows fed one after the other give the report of the files, and a refusal is its only line, whatever the buffer holds at first
abbrev pub RunReports : Type 0
RunReports = (f g space : List ℕ) → length space ≡ text_room → run f g space ≡ report_text (report_of f g)
