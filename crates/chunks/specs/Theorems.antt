-- "The file arrives in chunks of any length, and the chunking changes no stroke or refusal"
use Rattle.std.specs.Prelude.{ℕ, ◌≡◌, List}
use Rattle.std.proofs.Math.Option.{Option}
use Rattle.chunks.specs.Machine.{Stepped, Given, read, Session}

-- whatever the chunks, the calls give what all symbols give
abbrev pub AnyChunks : (A S E F : Type 0) → (S → A → Stepped S E F) → Type 0
AnyChunks A S E F step = (k : ℕ) (s u : S) (l : List A) (given : List (Given E)) (failure : Option F) → Session step k s l given failure u →
    read step k s l ≡ record { given = given; failure = failure; state = u }
