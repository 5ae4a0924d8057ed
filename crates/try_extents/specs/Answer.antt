-- An answer with columns: the byte 1, and the first and the last column, each of eight bytes, lowest byte first.
use Rattle.std.specs.Prelude.{ℕ, List, ◌∷◌, ◌++◌, ℤ}
use Rattle.wire.specs.Write.{eight_of}

abbrev pub bytes_of : ℤ → ℤ → List ℕ
bytes_of first last = 1 ∷ eight_of first ++ eight_of last
