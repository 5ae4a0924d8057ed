-- How far a segment reaches, in an answer: 1 and the first and the last black column, in two's complement, or three zeros for none, of eight bytes each.
use Rattle.std.specs.Prelude.{ℕ, ℤ, pos, List, ◌++◌, Option, Some, None}
use Rattle.wire.specs.Write.{number_bytes, eight_of}
use Rattle.extent.specs.declared.Extent.{Extent}

abbrev pub three_bytes : ℕ → ℤ → ℤ → List ℕ
three_bytes some first last = number_bytes some ++ eight_of first ++ eight_of last

abbrev pub extent_bytes : Option Extent → List ℕ
extent_bytes None = three_bytes 0 (pos 0) (pos 0)
extent_bytes (Some e) = three_bytes 1 e.first e.last
