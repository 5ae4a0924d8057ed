-- Requests in a stream of bytes, as far as a reader's bytes and a writer's are known, and why the stream is left.
use Rattle.std.specs.Prelude.{ℕ, zero, suc, ⊤, Result, Ok, Err, ◌≡◌, ◌==◌, ◌⊎◌, ◌++◌, if◌then◌else◌, List, length, Option, IfSome}
use Rattle.std.specs.Io.KnownBytes.{IsAtEnd}
use Rattle.checks.specs.declared.Answer.{Answer}
use Rattle.wire.specs.Write.{number_bytes}
use Rattle.inputs.specs.declared.requests.Leave.{Leave}
use Rattle.inputs.specs.declared.requests.Leave.TheVariants.{Unread, End}

-- requests are answered one after another, each by a step from a state to the next, until one leaves the stream; or so many of them
unfoldable pub Served : {F : Type 0} → (F → Result Unit Leave → F → Type 0) → ℕ → F → Type 0
Served step zero f = ⊤
Served step (suc n) f = ((g : _) × (step f (Ok tt) g × Served step n g)) ⊎ ((why : Leave) × ((g : _) × step f (Err why) g))

-- a read failed
abbrev pub IsUnread : Leave → Type 0
IsUnread why = (e : _) × (why ≡ Unread e)

-- what follows a head isn't whole: a read failed; or the stream breaks off, and all of it is read
abbrev pub NoRest : Leave → Leave → Option (List ℕ) → Type 0
NoRest broken why left = IsUnread why ⊎ ((why ≡ broken) × IsAtEnd left)

-- what so many bytes of a head, and no more, tell of the stream: it has ended, or it breaks off
abbrev pub begun : ℕ → Leave → Leave
begun n broken = if n == 0 then End else broken

-- a head isn't whole: a read failed; or there were only so many bytes, and all are read
abbrev pub NoHead : Leave → Leave → Option (List ℕ) → Option (List ℕ) → Type 0
NoHead broken why was left = IsUnread why ⊎ ((n : ℕ) × ((why ≡ begun n broken) × IfSome was (λ bytes. length bytes ≡ n) × IsAtEnd left))

-- an answer: refusal, place and count
abbrev pub answer_bytes : Answer → List ℕ
answer_bytes a = number_bytes a.refusal ++ number_bytes a.place ++ number_bytes a.count
