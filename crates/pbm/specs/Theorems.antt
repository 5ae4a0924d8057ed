-- What a raw PBM file is, by places and values, what is read as its header, and what a call refuses that puts one. The claims are types; proofs/Theorems.antt,
-- proofs/Headed.antt and proofs/Refusals.antt prove each under its name.
use Rattle.std.specs.Prelude.{ℕ, ◌+◌, ◌-◌, ◌*◌, ◌<◌, ◌≡◌, ◌↔◌, List, [], ◌∷◌, ◌++◌, length, get_or, take}
use Rattle.std.proofs.Math.Seq.{slice}
use Rattle.limits.specs.Exactly.{◌when◌else◌, done, BadRaster, NoRoom}
use Rattle.checks.specs.Answer.{Result}
use Rattle.text.specs.Theorems.{Reads}
use Rattle.pbm.specs.declared.read.Header.TheVariants.{Sound}
use Rattle.pbm.specs.Reading.{header_in}
use Rattle.pbm.specs.Pbm.{header, top_first, header_put}

-- "the characters P4, newline, 5, space, 3, newline"; "Sizes are decimal without leading zeros, columns first": the columns' digits are `wide`, the rows' `high`
pub record HeaderOf (columns rows : ℕ) (l : List ℕ) : Type 0 where
  pub wide : ℕ
  pub high : ℕ
  pub size : length l ≡ 3 + wide + 1 + high + 1
  pub letters : take 3 l ≡ 80 ∷ 52 ∷ 10 ∷ []
  pub first : Reads (slice 3 (3 + wide) l) columns
  pub space : get_or l (3 + wide) 0 ≡ 32
  pub second : Reads (slice (3 + wide + 1) (3 + wide + 1 + high) l) rows
  pub newline : get_or l (3 + wide + 1 + high) 0 ≡ 10

abbrev pub HeaderReads : Type 0
HeaderReads = (columns rows : ℕ) → HeaderOf columns rows (header columns rows)

-- the text starts with document 01's header of so many columns and rows, n bytes long, and the sizes are inside their limits
pub record Headed (s : List ℕ) (columns rows n : ℕ) : Type 0 where
  pub rest : List ℕ
  pub text : s ≡ header columns rows ++ rest
  pub sizes : ¬ BadRaster columns rows
  pub long : n ≡ length (header columns rows)

-- W1: "The header must have exactly document 01's form, with a size inside its limits"
abbrev pub HeaderSound : Type 0
HeaderSound = (s : List ℕ) (columns rows n : ℕ) → (header_in s ≡ Sound columns rows n) ↔ Headed s columns rows n

-- no header is longer than 15 bytes, so that so many of a file are enough
abbrev pub HeaderShort : Type 0
HeaderShort = (s : List ℕ) → header_in (take 15 s) ≡ header_in s

-- "The top row comes first": where each row has `width` bytes, byte k of row j stands behind those of the rows above it, which are rows - 1 - j
pub record Downwards (rows width : ℕ) (row : ℕ → List ℕ) (l : List ℕ) : Type 0 where
  pub size : length l ≡ rows * width
  pub byte : (j k : ℕ) → j < rows → k < width → get_or l ((rows - 1 - j) * width + k) 0 ≡ get_or (row j) k 0

abbrev pub TopFirst : Type 0
TopFirst = (rows width : ℕ) (row : ℕ → List ℕ) → ((j : ℕ) → j < rows → length (row j) ≡ width) → Downwards rows width row (top_first rows row)

-- What a call that puts a file refuses, in the words of the table: "4 | raster size outside 1 to 16,384", and 7 where the file, of `needed` bytes, is longer than
-- the buffer; "The first that applies is the answer, with 0 runs, and nothing lent is changed"
pub record FileRefuses (columns rows needed : ℕ) (before : List ℕ) (r : Result ℕ) : Type 0 where
  pub exactly : (k : ℕ) → (r.answer.refusal ≡ k) ↔ (4 when BadRaster columns rows else 7 when NoRoom needed (length before) else done) k
  pub nowhere : r.answer.place ≡ 0
  pub none : ¬ (r.answer.refusal ≡ 0) → r.answer.count ≡ 0
  pub kept : ¬ (r.answer.refusal ≡ 0) → r.list ≡ before

abbrev pub HeaderRefuses : Type 0
HeaderRefuses = (columns rows : ℕ) (b : List ℕ) → FileRefuses columns rows (length (header columns rows)) b (header_put columns rows b)
