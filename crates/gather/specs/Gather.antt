-- All strokes of a file kept in lent lists: what is noted of a stroke, what comes of a chunk, and of the file's end.
use Rattle.std.specs.Prelude.{ℕ, ◌+◌, Bool, true, false, cond, not, ◌&&◌, List, [], ◌∷◌, eqb, ltb, length, set, ℤ}
use Rattle.limits.specs.Refusal.{number, room}
use Rattle.limits.specs.declared.Verdict.{Verdict}
use Rattle.limits.specs.declared.Verdict.TheVariants as verdict·
use Rattle.aperture.specs.declared.Table.{Table}
use Rattle.chunks.specs.Machine as chunks·
use Rattle.gerber.specs.declared.Given as gerber·
use Rattle.gerber.specs.declared.Given.TheVariants as given·
use Rattle.gerber.specs.Reader.{State, Stroke, Fault, started, step_of, finished}
use Rattle.gather.specs.declared.Gathering.{Gathering}
use Rattle.gather.specs.declared.Finished.{Finished}
use Rattle.gather.specs.declared.Finished.TheVariants.{Done, Refused}

-- before the first byte: nothing has been noted
abbrev pub begun : ℕ → Gathering
begun unit = record { reader = started unit; count = 0; lost = false }

-- ---- a stroke
-- the lists, how many strokes stand in them, and whether a stroke found no place
pub record Notes : Type 0 where
  pub apertures : List ℕ
  pub starts : List ℕ
  pub count : ℕ
  pub lost : Bool

-- both lists have a place for one more
abbrev pub has_place : Notes → Bool
has_place n = ltb n.count (length n.apertures) && ltb n.count (length n.starts)

-- its aperture and its first entry behind those noted before; without a place it is lost
unfoldable pub noted : Notes → Stroke → Notes
noted n e =
    cond (has_place n)
    (record { apertures = set n.apertures n.count e.aperture; starts = set n.starts n.count e.first; count = n.count + 1; lost = n.lost })
    (record { apertures = n.apertures; starts = n.starts; count = n.count; lost = true })

-- strokes in their order
unfoldable pub all_noted : Notes → List (chunks·.Given Stroke) → Notes
all_noted n [] = n
all_noted n (e ∷ es) = all_noted (noted n e.thing) es

-- ---- a chunk
-- what a call leaves: its answer, and the lists that it was lent
pub record Gathered : Type 0 where
  pub gathering : Gathering
  pub path : List ℤ
  pub apertures : List ℕ
  pub starts : List ℕ

-- the notes of a gathering and the lists that it is lent
abbrev pub notes_of : Gathering → List ℕ → List ℕ → Notes
notes_of g apertures starts = record { apertures = apertures; starts = starts; count = g.count; lost = g.lost }

-- and back: a reader and its path, with notes
abbrev pub together : State → Notes → Gathered
together s n = record { gathering = record { reader = s.reader; count = n.count; lost = n.lost }; path = s.path; apertures = n.apertures; starts = n.starts }

-- what reading all bytes gives, its strokes noted
abbrev pub kept_of : Notes → chunks·.Read State Stroke Fault → Gathered
kept_of n r = together r.state (all_noted n r.given)

-- a chunk: all its bytes are read, up to a refusal; after one nothing is read
unfoldable pub gathered : Gathering → Table → List ℕ → List ℤ → List ℕ → List ℕ → Gathered
gathered g t chunk path apertures starts =
    let s : State = record { reader = g.reader; path = path } in
    let n = notes_of g apertures starts in
    cond (eqb g.reader.refusal 0) (kept_of n (chunks·.read (step_of t) 0 s chunk)) (together s n)

-- one call more, with what the call before left
abbrev pub goes_on : Table → Gathered → List ℕ → Gathered
goes_on t h chunk = gathered h.gathering t chunk h.path h.apertures h.starts

-- ---- the end of the file
-- the answer, and the list that was lent
pub record Ended : Type 0 where
  pub answer : Finished
  pub starts : List ℕ

-- every stroke is noted, and so many starts have a place for one more
abbrev pub is_complete : Gathering → ℕ → Bool
is_complete g starts = not g.lost && ltb g.count starts

-- behind the starts the end of the last stroke; or refusal 7, at the file's length
abbrev pub closed : Gathering → List ℕ → Ended
closed g starts =
    cond (is_complete g (length starts)) (record { answer = Done; starts = set starts g.count g.reader.trace.first })
    (record { answer = Refused (number room) g.reader.scanner.at; starts = starts })

-- what the reader has against the file
abbrev pub verdict_of : gerber·.Given → Verdict
verdict_of given·.More = verdict·.Passed
verdict_of (given·.Stroke a first n) = verdict·.Passed
verdict_of given·.Done = verdict·.Passed
verdict_of (given·.Refused n place) = verdict·.Refused n place

-- its refusal comes first
abbrev pub finishing_by : Verdict → Gathering → List ℕ → Ended
finishing_by verdict·.Passed g starts = closed g starts
finishing_by (verdict·.Refused n place) g starts = record { answer = Refused n place; starts = starts }

-- the end of the file
unfoldable pub finishing : Gathering → List ℕ → Ended
finishing g starts = finishing_by (verdict_of (finished g.reader).given) g starts
