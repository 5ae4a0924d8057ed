-- What is proved of the marks that are kept. The claims are types; proofs/Kept.antt proves each under its name in small letters.
--
-- Why it is true: a mark behind bytes goes on behind more of them. So the mark behind a chunk is that behind all bytes so far, and a command's first byte has
-- the mark behind all bytes before it, whichever chunk it came with.
use Rattle.std.specs.Prelude.{◌≡◌, ℕ, ◌^◌, ◌<◌, ◌≤◌, ◌⊎◌, List, [], ◌++◌, length, take}
use Rattle.marks.specs.declared.Mark.{Mark}
use Rattle.marks.specs.declared.Marks.{Marks}
use Rattle.marks.specs.Marks.{first_mark, past, begun, advanced, mark_of}

-- byte i of a file, or its end: the mark behind all bytes before it
abbrev pub mark_at : List ℕ → ℕ → Mark
mark_at bytes i = past first_mark (take i bytes)

-- bytes read in chunks of any lengths, the last command that was begun starting at byte `start`: with each chunk a command begins that starts no earlier than the
-- chunk, or the last one is the same as before
pub data Read : List ℕ → ℕ → Marks → Type 0 where
  none : (start : ℕ) → Read [] start begun
  more : {bytes : List ℕ} {start : ℕ} {m : Marks} → Read bytes start m → (chunk : List ℕ) (new : ℕ) → (length bytes ≤ new) ⊎ (new ≡ start) → Read (bytes ++ chunk) new (advanced m chunk new)

-- fewer than 2^64 bytes: the end's mark is behind all of them, and the command's is that of byte `start`
pub record Kept (bytes : List ℕ) (start : ℕ) (m : Marks) : Type 0 where
  pub end : m.end ≡ past first_mark bytes
  pub command : start < length bytes → m.command ≡ mark_at bytes start

abbrev pub MarksKept : Type 0
MarksKept = (bytes : List ℕ) (start : ℕ) (m : Marks) → Read bytes start m → length bytes < 2 ^ 64 → Kept bytes start m

-- the chunks change nothing
abbrev pub MarksAnyChunks : Type 0
MarksAnyChunks = (bytes : List ℕ) (start : ℕ) (m n : Marks) → Read bytes start m → Read bytes start n → length bytes < 2 ^ 64 → start < length bytes → m ≡ n

-- what is told of a place, which is the file's end or the last command's start, is the mark of that place
abbrev pub MarkTold : Type 0
MarkTold =
    (bytes : List ℕ) (start : ℕ) (m : Marks) → Read bytes start m → length bytes < 2 ^ 64 → (place : ℕ) →
    (place ≡ length bytes) ⊎ ((place ≡ start) × (start < length bytes)) → mark_of m place ≡ mark_at bytes place
