-- Document 02, W1: "The header must have exactly document 01's form, with a size inside its limits". The digits that stand where the sizes stand name the
-- sizes, and the text must then start with the very header of these sizes (Pbm). Where anything else stands there, a zero in front, another space, a comment,
-- the text starts with another header than that, or with none.
use Rattle.std.specs.Prelude.{ℕ, zero, suc, ◌+◌, Bool, true, false, ◌&&◌, List, [], ◌∷◌, eqb, length, drop}
use Rattle.limits.specs.Sizes.{within, is_size}
use Rattle.text.specs.Theorems.{reads_as}
use Rattle.pbm.specs.declared.read.Header.{Header}
use Rattle.pbm.specs.declared.read.Header.TheVariants.{Sound, Unsound}
use Rattle.pbm.specs.declared.read.Number.{Number}
use Rattle.pbm.specs.Pbm.{header}

-- the ASCII code of a digit
abbrev pub is_digit : ℕ → Bool
is_digit x = within x 48 57

-- the digits at the start of a text, at most k of them
unfoldable pub leading : ℕ → List ℕ → List ℕ
leading zero s = []
leading (suc k) [] = []
leading (suc k) (x ∷ s) = elim (is_digit x) [ true ↦ x ∷ leading k s | false ↦ [] ]

-- the digits from index `at` on, as many as a size can have, and what they read as
abbrev pub digits_at : ℕ → List ℕ → List ℕ
digits_at at s = leading 5 (drop at s)

abbrev pub size_at : ℕ → List ℕ → Number
size_at at s = record { value = reads_as (digits_at at s); end = at + length (digits_at at s) }

-- "columns first": they stand behind "P4, newline", and the rows behind them and a space
abbrev pub columns_in : List ℕ → Number
columns_in s = size_at 3 s

abbrev pub rows_in : List ℕ → Number
rows_in s = size_at ((columns_in s).end + 1) s

-- whether these bytes stand at the start of a text
unfoldable pub starts_with : List ℕ → List ℕ → Bool
starts_with [] s = true
starts_with (x ∷ h) [] = false
starts_with (x ∷ h) (y ∷ s) = eqb y x && starts_with h s

-- the header of so many columns and rows, where they are sizes and the text starts with it
abbrev pub header_of : ℕ → ℕ → List ℕ → Header
header_of columns rows s = elim ((is_size columns && is_size rows) && starts_with (header columns rows) s) [ true ↦ Sound columns rows (length (header columns rows)) | false ↦ Unsound ]

-- the header that a text starts with
abbrev pub header_in : List ℕ → Header
header_in s = header_of (columns_in s).value (rows_in s).value s
