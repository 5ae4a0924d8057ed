-- Document 02, W4: what a reader does with a command, with a byte, with a chunk, and at the end of the file.
use Rattle.std.specs.Prelude.{ℕ, ◌-◌, Bool, true, false, cond, List, eqb, length, ℤ}
use Rattle.std.proofs.Math.Option.{Option, none, some}
use Rattle.limits.specs.Refusal.{Refusal, number, setting, aperture, command}
use Rattle.limits.specs.declared.Verdict.{Verdict}
use Rattle.limits.specs.declared.Verdict.TheVariants.{Passed, Refused}
use Rattle.aperture.specs.declared.Table.{Table}
use Rattle.aperture.specs.Table.{is_held}
use Rattle.trace.specs.declared.Trace.{Trace}
use Rattle.trace.specs.Trace.{nowhere, is_open, line_verdict, move_verdict, lined, ended, moved}
use Rattle.units.specs.Units.{is_unit, in_units}
use Rattle.scan.specs.declared.Mode.{Mode}
use Rattle.scan.specs.declared.Mode.TheVariants.{Bad, Outside, Whole, Number, Inside}
use Rattle.scan.specs.declared.Scanner.{Scanner}
use Rattle.scan.specs.Scanner.{begun, stepped, is_ended, Word, choose, move, line, end, word_of}
use Rattle.chunks.specs.Machine.{Stepped, goes, gives, fails, Called, more, gave, failed, call}
use Rattle.gerber.specs.declared.Reader.{Reader}
use Rattle.gerber.specs.declared.Given.{Given}
use Rattle.gerber.specs.declared.Given.TheVariants as given·
use Rattle.gerber.specs.declared.Obeyed.{Obeyed}
use Rattle.gerber.specs.declared.Fed.{Fed}

-- a reader, and the path that it is lent
pub record State : Type 0 where
  pub reader : Reader
  pub path : List ℤ

-- "gives aperture, first entry, length"
pub record Stroke : Type 0 where
  pub aperture : ℕ
  pub first : ℕ
  pub length : ℕ

pub record Fault : Type 0 where
  pub number : ℕ
  pub place : ℕ

abbrev pub Step : Type 0  -- a type, and no claim
Step = Stepped State Stroke Fault

-- ---- a reader with another part
abbrev pub with_scanner : Reader → Scanner → Reader
with_scanner r s = record { unit = r.unit; refusal = r.refusal; place = r.place; scanner = s; aperture = r.aperture; trace = r.trace }

abbrev pub with_trace : Reader → ℕ → Trace → Reader
with_trace r n t = record { unit = r.unit; refusal = r.refusal; place = r.place; scanner = r.scanner; aperture = n; trace = t }

-- "After a refusal .. every call repeats it"
abbrev pub latched : Reader → ℕ → ℕ → Reader
latched r n place = record { unit = r.unit; refusal = n; place = place; scanner = r.scanner; aperture = r.aperture; trace = r.trace }

-- "One unit of ours is N nanometres, N lent, from 1 to 1,000,000 (else refusal 1, place 0)"
abbrev pub fresh : ℕ → Reader
fresh unit = record { unit = unit; refusal = 0; place = 0; scanner = begun; aperture = 0; trace = nowhere }

unfoldable pub started : ℕ → Reader
started unit = cond (is_unit unit) (fresh unit) (latched (fresh unit) (number setting) 0)

-- ---- a command
abbrev pub stops : ℕ → ℕ → State → Step
stops n place s = fails (record { number = n; place = place }) (record { reader = latched s.reader n place; path = s.path })

-- a refusal, "with its byte place"
abbrev pub refuses : Refusal → ℕ → State → Step
refuses k place s = stops (number k) place s

abbrev pub judged : Verdict → State → Step → Step
judged Passed s next = next
judged (Refused n place) s next = stops n place s

-- "D02, M02 and an aperture choice, unless refused, each end an open stroke, and with it the call": r is the reader before, s the state after
abbrev pub closes : Reader → State → Step
closes r s =
    cond (is_open r.trace) (gives (record { aperture = r.aperture; first = r.trace.first; length = r.trace.filled - r.trace.first }) s) (goes s)

abbrev pub none_chosen : Reader → Bool
none_chosen r = eqb r.aperture 0

-- "aperture checks (at the choice)"
abbrev pub chooses : Table → ℕ → ℕ → State → Step
chooses t place n s =
    cond (is_held t n) (closes s.reader (record { reader = with_trace s.reader n (ended s.reader.trace).trace; path = s.path })) (refuses aperture place s)

abbrev pub moves : ℕ → ℤ → ℤ → State → Step
moves place x y s =
    judged (move_verdict x y place) s
    (closes s.reader (record { reader = with_trace s.reader s.reader.aperture (moved s.reader.trace x y); path = s.path }))

-- a line is added
abbrev pub joins : ℤ → ℤ → State → Step
joins x y s =
    let q = lined s.reader.trace x y s.path in
    goes (record { reader = with_trace s.reader s.reader.aperture q.trace; path = q.entries })

-- "A D01 with no point yet .. is refused first, with a new number 14 .., and a D01 with a point but no aperture chosen is refusal 6."
abbrev pub draws : ℕ → ℤ → ℤ → State → Step
draws place x y s =
    cond s.reader.trace.placed
    (cond (none_chosen s.reader) (refuses aperture place s) (judged (line_verdict s.reader.trace x y (length s.path) place) s (joins x y s)))
    (refuses command place s)

abbrev pub in_unit : State → ℤ → ℤ
in_unit s n = in_units n s.reader.unit

unfoldable pub obeyed : Table → State → ℕ → Word → Step
obeyed t s place (choose n) = chooses t place n s
obeyed t s place (move x y) = moves place (in_unit s x) (in_unit s y) s
obeyed t s place (line x y) = draws place (in_unit s x) (in_unit s y) s
obeyed t s place end = closes s.reader (record { reader = with_trace s.reader s.reader.aperture (ended s.reader.trace).trace; path = s.path })

-- ---- a byte
abbrev pub obeyed_word : Table → State → Option Word → Step
obeyed_word t s none = goes s
obeyed_word t s (some w) = obeyed t s s.reader.scanner.start w

-- what the last byte asks for
abbrev pub acted_by : Mode → Table → State → Step
acted_by Bad t s = refuses command s.reader.scanner.start s
acted_by (Outside g) t s = goes s
acted_by (Whole c) t s = obeyed_word t s (word_of c s.reader.scanner.x s.reader.scanner.y)
acted_by (Number a sign n v) t s = goes s
acted_by (Inside p) t s = goes s

unfoldable pub acted : Table → State → Step
acted t s = acted_by s.reader.scanner.mode t s

unfoldable pub step_of : Table → State → ℕ → Step
step_of t s b = acted t (record { reader = with_scanner s.reader (stepped s.reader.scanner b); path = s.path })

-- ---- as the code answers it
pub record Told : Type 0 where
  pub told : Obeyed
  pub entries : List ℤ

abbrev pub shown : Step → Told
shown (goes s) = record { told = record { reader = s.reader; given = given·.More }; entries = s.path }
shown (gives e s) = record { told = record { reader = s.reader; given = given·.Stroke e.aperture e.first e.length }; entries = s.path }
shown (fails f s) = record { told = record { reader = s.reader; given = given·.Refused f.number f.place }; entries = s.path }

abbrev pub is_end : Given → Bool
is_end given·.More = false
is_end (given·.Stroke a first n) = true
is_end given·.Done = true
is_end (given·.Refused n place) = true

abbrev pub used_of : Given → ℕ → ℕ
used_of given·.More read = read
used_of (given·.Stroke a first n) read = read
used_of given·.Done read = read
used_of (given·.Refused n place) read = 0

-- ---- a chunk
pub record Answered : Type 0 where
  pub fed : Fed
  pub entries : List ℤ

-- "bytes used": all n of the chunk where nothing is given, none for a refusal
abbrev pub answer : ℕ → Called State Stroke Fault → Answered
answer n (more s) = record { fed = record { reader = s.reader; given = given·.More; used = n }; entries = s.path }
answer n (gave e s k) = record { fed = record { reader = s.reader; given = given·.Stroke e.aperture e.first e.length; used = k }; entries = s.path }
answer n (failed f s) = record { fed = record { reader = s.reader; given = given·.Refused f.number f.place; used = 0 }; entries = s.path }

abbrev pub repeated : Reader → Fed
repeated r = record { reader = r; given = given·.Refused r.refusal r.place; used = 0 }

-- "After a refusal .. every call repeats it": nothing is read or written
unfoldable pub feeds : Reader → Table → List ℕ → List ℤ → Answered
feeds r t chunk path =
    cond (eqb r.refusal 0) (answer (length chunk) (call (step_of t) (record { reader = r; path = path }) chunk)) (record { fed = repeated r; entries = path })

-- ---- the end of the file: "a missing M02 is refused .. (of the end ..)"
abbrev pub finished_on : Reader → Fed
finished_on r =
    cond (is_ended r.scanner.mode) (record { reader = r; given = given·.Done; used = 0 })
    (repeated (latched r (number command) r.scanner.at))

unfoldable pub finished : Reader → Fed
finished r = cond (eqb r.refusal 0) (finished_on r) (repeated r)
