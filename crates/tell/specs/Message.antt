-- The message in the text of an error of the system, as std writes it: "Is a directory (os error 21)".
use Rattle.std.specs.Prelude.{ℕ, Bool, if◌then◌else◌, List, [], ◌∷◌, nat_eq, codes}
use Rattle.std.specs.List.{starts_with}

-- whether the error's number stands here
abbrev pub is_number : List ℕ → Bool
is_number text = starts_with nat_eq text (codes " (os error ")

-- the text up to the error's number, or all of a text that has none
unfoldable pub message_of : List ℕ → List ℕ
message_of [] = []
message_of (b ∷ text) = if is_number (b ∷ text) then [] else b ∷ message_of text
