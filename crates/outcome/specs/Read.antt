-- How many bytes the code reads as a path. What is longer is refused before it is read: it has "more than 8,192" entries, or no whole number of them.
use Rattle.std.specs.Prelude.{ℕ, ◌*◌, ◌%◌, Bool, ◌&&◌, leb, eqb}
use Rattle.limits.specs.Sizes.{entries_max}

abbrev pub is_path : ℕ → Bool
is_path n = eqb (n % 4) 0 && leb n (4 * entries_max)
