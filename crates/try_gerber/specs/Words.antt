-- How much is lent.
use Rattle.std.specs.Prelude.{ℕ}

-- how many entries of a path are lent at most
abbrev pub room_max : ℕ
room_max = 65536
