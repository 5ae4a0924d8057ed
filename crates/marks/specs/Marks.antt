-- Where a byte of a file stands: its place, its line and its column; and what is kept of it while the file is read in chunks.
use Rattle.std.specs.Prelude.{ℕ, ◌+◌, ◌-◌, ◌%◌, ◌^◌, Bool, cond, ◌&&◌, List, fold, length, take, ◌==◌, nat_le, nat_lt}
use Rattle.marks.specs.declared.Mark.{Mark}
use Rattle.marks.specs.declared.Marks.{Marks}

-- one more, among numbers of 64 bits: no file is so long that one wraps
abbrev pub next : ℕ → ℕ
next n = (n + 1) % 2 ^ 64

-- the file's first byte
abbrev pub first_mark : Mark
first_mark = record { at = 0; line = 1; column = 1 }

-- behind a byte: LF ends a line, and the columns of the next one count from 1
abbrev pub behind : Mark → ℕ → Mark
behind m b =
    cond (b == 10) (record { at = next m.at; line = next m.line; column = 1 })
    (record { at = next m.at; line = m.line; column = next m.column })

-- behind bytes
abbrev pub past : Mark → List ℕ → Mark
past m l = fold behind m l

-- ---- in chunks
-- byte `start` of the file is one of the n bytes from `from` on
abbrev pub is_of : ℕ → ℕ → ℕ → Bool
is_of from n start = nat_le from start && nat_lt start (from + n)

-- how many of those bytes come before it: all where it is none of them
abbrev pub front_of : ℕ → ℕ → ℕ → ℕ
front_of from n start = cond (is_of from n start) (start - from) n

-- before the first byte
abbrev pub begun : Marks
begun = record { command = first_mark; end = first_mark }

-- a chunk more, where the last command that was begun starts at byte `start`: the mark of its first byte, where that is in the chunk, and else the one that was
-- kept; and the mark behind the chunk
abbrev pub advanced : Marks → List ℕ → ℕ → Marks
advanced m chunk start =
    let from = m.end.at in
    record {
      command = cond (is_of from (length chunk) start) (past m.end (take (start - from) chunk)) m.command;
      end = past m.end chunk;
    }

-- the mark of a refusal's place: the end's, or else the last command's
abbrev pub mark_of : Marks → ℕ → Mark
mark_of m place = cond (place == m.end.at) m.end m.command
