-- The scanner hears exactly the language of Grammar, for files of fewer than 2^64 bytes.
use Rattle.std.specs.Prelude.{ℕ, ◌<◌, ◌^◌, ◌≡◌, List, length, pos}
use Rattle.std.proofs.Math.Option.{Option}
use Rattle.scan.specs.Scanner.{begun, heard}
use Rattle.language.specs.Grammar.{first, Placed, Reads, said}

-- every file is read in some way: its commands, and well or with a refusal 14 at some place
abbrev pub EachFile : Type 0
EachFile = (l : List ℕ) → (fs : List Placed) × ((bad : Option ℕ) × Reads first 0 l fs bad)

-- .. and in one way only
abbrev pub OneWay : Type 0
OneWay = (l : List ℕ) (fs gs : List Placed) (bad worse : Option ℕ) → Reads first 0 l fs bad → Reads first 0 l gs worse → (fs ≡ gs) × (bad ≡ worse)

-- what it says is what the scanner hears, and so is its refusal
abbrev pub HeardExactly : Type 0
HeardExactly = (l : List ℕ) (fs : List Placed) (bad : Option ℕ) → length l < 2 ^ 64 → Reads first 0 l fs bad →
    heard begun l ≡ record { said = said (pos 0) (pos 0) fs; bad = bad }
