-- A path stays as long as it was: a line puts entries into it, and nothing else touches it.
use Prim.Native.Nat.{ℕ, suc, ◌+◌}
use mathlib.Core.Path.{◌≡◌, refl, ◌∙◌}
use mathlib.Core.Bool.{Bool, true, false, cond}
use mathlib.Core.List.{List, [], ◌∷◌}
use mathlib.Core.Option.{Option, none, some}
use lib.ListN.{length}
use lib.IntN.{ℤ}
use Rattle.limits.specs.declared.Verdict.{Verdict}
use Rattle.limits.specs.declared.Verdict.TheVariants.{Passed, Refused}
use Rattle.aperture.specs.declared.Table.{Table}
use Rattle.aperture.specs.Table.{is_held}
use Rattle.trace.specs.declared.Trace.{Trace}
use Rattle.trace.specs.Trace.{is_open, is_fit, line_verdict, move_verdict, put2, lined_by, lined}
use Rattle.scan.specs.declared.Mode.{Mode}
use Rattle.scan.specs.declared.Mode.TheVariants.{Bad, Outside, Whole, Number, Inside}
use Rattle.scan.specs.Scanner.{Word, choose, move, line, end, stepped, word_of}
use Rattle.chunks.specs.Machine.{goes, gives, fails, Read, ahead, read}
use Rattle.gerber.specs.declared.Reader.{Reader}
use Rattle.gerber.specs.Reader.{State, Stroke, Fault, Step, judged, closes, none_chosen, chooses, moves, joins, draws, in_unit, obeyed, obeyed_word, acted_by, acted, step_of}
use Rattle.gerber_file.proofs.Entries.{length_put2}
use Rattle.gerber_file.proofs.Keeps.{reading}

-- ---- a line
length_by : (b : Bool) (t : Trace) (x y : ℤ) (l : List ℤ) → length (lined_by b t x y l).entries ≡ length l
length_by true t x y l = length_put2 l t.filled x y
length_by false t x y l = length_put2 (put2 l t.filled t.x t.y) (t.filled + 2) x y ∙ length_put2 l t.filled t.x t.y

length_lined : (t : Trace) (x y : ℤ) (l : List ℤ) → length (lined t x y l).entries ≡ length l
unfolding lined
length_lined t x y l = go (is_fit t (length l))
  where
    go : (b : Bool) → length (cond b (lined_by (is_open t) t x y l) (record { trace = t; entries = l })).entries ≡ length l
    go true = length_by (is_open t) t x y l
    go false = refl

-- ---- a command
abbrev AsLong : State → Step → Type 0
AsLong s (goes u) = length u.path ≡ length s.path
AsLong s (gives e u) = length u.path ≡ length s.path
AsLong s (fails f u) = length u.path ≡ length s.path

either : (s : State) (b : Bool) (x y : Step) → AsLong s x → AsLong s y → AsLong s (cond b x y)
either s true x y h k = h
either s false x y h k = k

judging : (v : Verdict) (s : State) (next : Step) → AsLong s next → AsLong s (judged v s next)
judging Passed s next h = h
judging (Refused n place) s next h = refl

closing : (s : State) (r : Reader) → AsLong s (closes s.reader (record { reader = r; path = s.path }))
closing s r = either s (is_open s.reader.trace) _ _ refl refl

choosing : (t : Table) (place n : ℕ) (s : State) → AsLong s (chooses t place n s)
choosing t place n s = either s (is_held t n) _ _ (closing s _) refl

moving : (place : ℕ) (x y : ℤ) (s : State) → AsLong s (moves place x y s)
moving place x y s = judging (move_verdict x y place) s _ (closing s _)

drawing : (place : ℕ) (x y : ℤ) (s : State) → AsLong s (draws place x y s)
drawing place x y s =
    let t = s.reader.trace in
    let judges = judging (line_verdict t x y (length s.path) place) s (joins x y s) (length_lined t x y s.path) in
    either s t.placed _ _ (either s (none_chosen s.reader) _ _ refl judges) refl

obeying : (t : Table) (s : State) (place : ℕ) (w : Word) → AsLong s (obeyed t s place w)
unfolding obeyed
obeying t s place (choose n) = choosing t place n s
obeying t s place (move x y) = moving place (in_unit s x) (in_unit s y) s
obeying t s place (line x y) = drawing place (in_unit s x) (in_unit s y) s
obeying t s place end = closing s _

-- ---- a byte
obeying_word : (t : Table) (s : State) (w : Option Word) → AsLong s (obeyed_word t s w)
obeying_word t s none = refl
obeying_word t s (some w) = obeying t s s.reader.scanner.start w

acting : (m : Mode) (t : Table) (s : State) → AsLong s (acted_by m t s)
acting Bad t s = refl
acting (Outside g) t s = refl
acting (Whole c) t s = obeying_word t s (word_of c s.reader.scanner.x s.reader.scanner.y)
acting (Number a sign n v) t s = refl
acting (Inside p) t s = refl

step_as_long : (t : Table) (s : State) (b : ℕ) → AsLong (reading s b) (step_of t s b)
unfolding step_of acted
step_as_long t s b = acting (stepped s.reader.scanner b).mode t (reading s b)

-- ---- all bytes
pub read_as_long : (t : Table) (l : List ℕ) (k : ℕ) (s : State) → length (read (step_of t) k s l).state.path ≡ length s.path
unfolding read
read_as_long t [] k s = refl
read_as_long t (b ∷ l) k s = go (step_of t s b) (step_as_long t s b) (read_as_long t l (suc k))
  where
    go : (x : Step) → AsLong (reading s b) x → ((u : State) → length (read (step_of t) (suc k) u l).state.path ≡ length u.path) →
        length (elim x as (λ _. Read State Stroke Fault) [
          | goes u ↦ read (step_of t) (suc k) u l
          | gives e u ↦ ahead (record { thing = e; used = suc k }) (read (step_of t) (suc k) u l)
          | fails f u ↦ record { given = []; failure = some f; state = u }
        ]).state.path ≡ length s.path
    go (goes u) h f = f u ∙ h
    go (gives e u) h f = f u ∙ h
    go (fails e u) h f = h
