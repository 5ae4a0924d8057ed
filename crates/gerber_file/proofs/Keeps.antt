-- What a command, a byte and a call leave of a reader's refusal and of its scanner: both stay as they were, unless there is a refusal, and then the reader holds
-- it, with a number that is not 0.
use Prim.Native.Nat.{ℕ, ◌≤◌}
use mathlib.Core.Path.{◌≡◌, refl, ◌∙◌}
use mathlib.Core.Bool.{Bool, true, false, not, cond}
use mathlib.Core.List.{List, [], ◌∷◌}
use mathlib.Core.Option.{Option, none, some}
use lib.ListN.{length}
use lib.IntN.{ℤ}
use Rattle.limits.specs.Refusal.{Refusal, path, coordinate, room, aperture, command, unless_at, ◌then◌}
use Rattle.limits.specs.declared.Verdict.{Verdict}
use Rattle.limits.specs.declared.Verdict.TheVariants.{Passed, Refused}
use Rattle.limits.proofs.Verdicts.{NotZero, number_not_zero, unless_at_not_zero, then_not_zero}
use Rattle.aperture.specs.declared.Table.{Table}
use Rattle.aperture.specs.Table.{is_held}
use Rattle.trace.specs.declared.Trace.{Trace}
use Rattle.trace.specs.Trace.{is_open, is_longer, is_inside, is_fit, line_verdict, move_verdict, moved, ended}
use Rattle.scan.specs.declared.Mode.{Mode}
use Rattle.scan.specs.declared.Mode.TheVariants.{Bad, Outside, Whole, Number, Inside}
use Rattle.scan.specs.Scanner.{Word, choose, move, line, end, stepped, word_of}
use Rattle.chunks.specs.Machine.{goes, gives, fails, Called, more, gave, failed, call, one_more}
use Rattle.gerber.specs.Reader.{
  State,
  Stroke,
  Fault,
  Step,
  with_scanner,
  with_trace,
  refuses,
  judged,
  closes,
  none_chosen,
  chooses,
  moves,
  joins,
  draws,
  in_unit,
  obeyed,
  obeyed_word,
  acted_by,
  acted,
  step_of,
}

-- ---- what is kept
pub record Kept (s u : State) : Type 0 where
  pub refusal : u.reader.refusal ≡ s.reader.refusal
  pub scanner : u.reader.scanner ≡ s.reader.scanner

pub record Held (f : Fault) (u : State) : Type 0 where
  pub refusal : u.reader.refusal ≡ f.number
  pub place : u.reader.place ≡ f.place
  pub not_zero : 1 ≤ f.number

abbrev pub Keeps : State → Step → Type 0
Keeps s (goes u) = Kept s u
Keeps s (gives e u) = Kept s u
Keeps s (fails f u) = Held f u

unchanged : (s : State) → Kept s s
unchanged s = record { refusal = refl; scanner = refl }

-- ---- a command
either : (s : State) (b : Bool) (x y : Step) → Keeps s x → Keeps s y → Keeps s (cond b x y)
either s true x y h k = h
either s false x y h k = k

refusing : (r : Refusal) (place : ℕ) (s : State) → Keeps s (refuses r place s)
refusing r place s = record { refusal = refl; place = refl; not_zero = number_not_zero r }

judging : (v : Verdict) (s : State) (next : Step) → NotZero v → Keeps s next → Keeps s (judged v s next)
judging Passed s next h k = k
judging (Refused n place) s next h k = record { refusal = refl; place = refl; not_zero = h }

-- another aperture and another trace: both are kept, whether a stroke ends or not
closing : (s : State) (n : ℕ) (t : Trace) → Keeps s (closes s.reader (record { reader = with_trace s.reader n t; path = s.path }))
closing s n t = either s (is_open s.reader.trace) _ _ (record { refusal = refl; scanner = refl }) (record { refusal = refl; scanner = refl })

choosing : (t : Table) (place n : ℕ) (s : State) → Keeps s (chooses t place n s)
choosing t place n s = either s (is_held t n) _ _ (closing s n (ended s.reader.trace).trace) (refusing aperture place s)

moving : (place : ℕ) (x y : ℤ) (s : State) → Keeps s (moves place x y s)
moving place x y s = judging (move_verdict x y place) s _ (unless_at_not_zero place (is_inside x y) coordinate) (closing s s.reader.aperture (moved s.reader.trace x y))

line_not_zero : (t : Trace) (x y : ℤ) (space place : ℕ) → NotZero (line_verdict t x y space place)
line_not_zero t x y space place =
    let long = unless_at place (not (is_longer t)) path in
    let outside = unless_at place (is_inside x y) coordinate in
    let full = unless_at place (is_fit t space) room in
    then_not_zero long (outside then full) (unless_at_not_zero place (not (is_longer t)) path)
    (then_not_zero outside full (unless_at_not_zero place (is_inside x y) coordinate) (unless_at_not_zero place (is_fit t space) room))

drawing : (place : ℕ) (x y : ℤ) (s : State) → Keeps s (draws place x y s)
drawing place x y s =
    let t = s.reader.trace in
    let judges = judging (line_verdict t x y (length s.path) place) s (joins x y s) (line_not_zero t x y (length s.path) place) (record { refusal = refl; scanner = refl }) in
    either s t.placed _ _ (either s (none_chosen s.reader) _ _ (refusing aperture place s) judges) (refusing command place s)

pub obeyed_keeps : (t : Table) (s : State) (place : ℕ) (w : Word) → Keeps s (obeyed t s place w)
unfolding obeyed
obeyed_keeps t s place (choose n) = choosing t place n s
obeyed_keeps t s place (move x y) = moving place (in_unit s x) (in_unit s y) s
obeyed_keeps t s place (line x y) = drawing place (in_unit s x) (in_unit s y) s
obeyed_keeps t s place end = closing s s.reader.aperture (ended s.reader.trace).trace

-- ---- a byte
word_keeps : (t : Table) (s : State) (w : Option Word) → Keeps s (obeyed_word t s w)
word_keeps t s none = unchanged s
word_keeps t s (some w) = obeyed_keeps t s s.reader.scanner.start w

acted_by_keeps : (m : Mode) (t : Table) (s : State) → Keeps s (acted_by m t s)
acted_by_keeps Bad t s = refusing command s.reader.scanner.start s
acted_by_keeps (Outside g) t s = unchanged s
acted_by_keeps (Whole c) t s = word_keeps t s (word_of c s.reader.scanner.x s.reader.scanner.y)
acted_by_keeps (Number a sign n v) t s = unchanged s
acted_by_keeps (Inside p) t s = unchanged s

-- the state in which a byte is acted on
abbrev pub reading : State → ℕ → State
reading s b = record { reader = with_scanner s.reader (stepped s.reader.scanner b); path = s.path }

pub step_keeps : (t : Table) (s : State) (b : ℕ) → Keeps (reading s b) (step_of t s b)
unfolding step_of acted
step_keeps t s b = acted_by_keeps (stepped s.reader.scanner b).mode t (reading s b)

-- ---- a call
abbrev pub CallKeeps : Called State Stroke Fault → Type 0
CallKeeps (more u) = u.reader.refusal ≡ 0
CallKeeps (gave e u n) = u.reader.refusal ≡ 0
CallKeeps (failed f u) = Held f u

one_more_keeps : (c : Called State Stroke Fault) → CallKeeps c → CallKeeps (one_more c)
one_more_keeps (more u) h = h
one_more_keeps (gave e u n) h = h
one_more_keeps (failed f u) h = h

-- a reader with no refusal has none after a call, or it holds the one that the call fails with
pub call_keeps : (t : Table) (s : State) (l : List ℕ) → s.reader.refusal ≡ 0 → CallKeeps (call (step_of t) s l)
unfolding call
call_keeps t s [] h = h
call_keeps t s (b ∷ l) h = go (step_of t s b) (step_keeps t s b) (λ u k. one_more_keeps (call (step_of t) u l) (call_keeps t u l k))
  where
    go : (r : Step) → Keeps (reading s b) r → ((u : State) → u.reader.refusal ≡ 0 → CallKeeps (one_more (call (step_of t) u l))) →
        CallKeeps (elim r as (λ _. Called State Stroke Fault) [ goes u ↦ one_more (call (step_of t) u l) | gives e u ↦ gave e u 1 | fails f u ↦ failed f u ])
    go (goes u) k f = f u (k.refusal ∙ h)
    go (gives e u) k f = k.refusal ∙ h
    go (fails e u) k f = k
