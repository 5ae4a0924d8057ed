-- Strokes handed out stay valid: a call writes only behind what is filled, and what is handed out only grows.
use Prim.Native.Nat.{ℕ, ◌+◌, ◌≤◌}
use native.Mathlib.Omega.{arith}
use mathlib.Core.Path.{◌≡◌, refl, sym, ap, ◌∙◌}
use mathlib.Core.Bool.{Bool, true, false, cond}
use mathlib.Core.List.{List, [], ◌∷◌}
use mathlib.Core.Option.{Option, none, some}
use lib.Dec.{eqb}
use lib.ListN.{length, take}
use lib.Seq.{take-take}
use lib.IntN.{ℤ}
use Rattle.limits.specs.Refusal.{number, aperture, command}
use Rattle.limits.specs.declared.Verdict.{Verdict}
use Rattle.limits.specs.declared.Verdict.TheVariants.{Passed, Refused}
use Rattle.aperture.specs.declared.Table.{Table}
use Rattle.aperture.specs.Table.{is_held}
use Rattle.trace.specs.declared.Trace.{Trace}
use Rattle.trace.specs.Trace.{is_open, is_fit, line_verdict, move_verdict, put2, Lined, lined_by, lined, ended, moved}
use Rattle.scan.specs.declared.Mode.{Mode}
use Rattle.scan.specs.declared.Mode.TheVariants.{Bad, Outside, Whole, Number, Inside}
use Rattle.scan.specs.Scanner.{Word, choose, move, line, end, stepped, word_of}
use Rattle.chunks.specs.Machine.{goes, gives, fails, Called, more, gave, failed, one_more, call}
use Rattle.gerber.specs.declared.Reader.{Reader}
use Rattle.gerber.specs.Reader.{State, Stroke, Fault, Step, with_scanner, with_trace, stops, judged, closes, none_chosen, joins, draws, in_unit}
use Rattle.gerber.specs.Reader.{obeyed, obeyed_word, acted_by, acted, step_of, Answered, answer, repeated, feeds}
use Rattle.gerber_file.specs.Calls as calls·
use Rattle.gerber_file.specs.Calls.{Handed, Calls}
use Rattle.gerber_file.specs.Theorems.{StillValid, StaysValid}
use Rattle.gerber_file.proofs.Entries.{take_before}

module _ (n : ℕ) (before : List ℤ) where
  -- the first n entries are handed out, and are these
  record Keeps (s : State) : Type 0 where
    handed : n ≤ s.reader.trace.first
    ordered : s.reader.trace.first ≤ s.reader.trace.filled
    entries : take n s.path ≡ before

  -- so in the state after a step, and after a call
  data StepKeeps : Step → Type 0 where
    still_goes : {s : State} → Keeps s → StepKeeps (goes s)
    still_gives : {e : Stroke} {s : State} → Keeps s → StepKeeps (gives e s)
    still_fails : {f : Fault} {s : State} → Keeps s → StepKeeps (fails f s)

  data CallKeeps : Called State Stroke Fault → Type 0 where
    still_more : {s : State} → Keeps s → CallKeeps (more s)
    still_gave : {e : Stroke} {s : State} {k : ℕ} → Keeps s → CallKeeps (gave e s k)
    still_failed : {f : Fault} {s : State} → Keeps s → CallKeeps (failed f s)

  keeps_cond : {a b : Step} (c : Bool) → StepKeeps a → StepKeeps b → StepKeeps (cond c a b)
  keeps_cond true h k = h
  keeps_cond false h k = k

  -- ---- another reader over the same path
  keeps_with : {s : State} (r : Reader) → Keeps s → s.reader.trace.first ≤ r.trace.first → r.trace.first ≤ r.trace.filled → Keeps (record { reader = r; path = s.path })
  keeps_with r k f o = record { handed = omega (arith, k.handed); ordered = o; entries = k.entries }

  refuses_keeps : {s : State} (number place : ℕ) → Keeps s → StepKeeps (stops number place s)
  refuses_keeps number place k = still_fails (record { handed = k.handed; ordered = k.ordered; entries = k.entries })

  judged_keeps : (v : Verdict) {s : State} {next : Step} → Keeps s → StepKeeps next → StepKeeps (judged v s next)
  judged_keeps Passed k h = h
  judged_keeps (Refused number place) k h = refuses_keeps number place k

  closes_keeps : (r : Reader) {s : State} → Keeps s → StepKeeps (closes r s)
  closes_keeps r k = keeps_cond (is_open r.trace) (still_gives k) (still_goes k)

  -- ---- a line is written behind what is filled
  module _ (t : Table) (s : State) (k : Keeps s) where
    abbrev farther : Lined → State
    farther l = record { reader = with_trace s.reader s.reader.aperture l.trace; path = l.entries }

    written : (b : Bool) (x y : ℤ) → Keeps (farther (lined_by b s.reader.trace x y s.path))
    written true x y =
        record {
          handed = k.handed;
          ordered = omega (arith, k.ordered);
          entries = take_before n s.path s.reader.trace.filled x y (omega (arith, k.handed, k.ordered)) ∙ k.entries;
        }
    written false x y =
        let m = s.reader.trace.filled in
        let first = put2 s.path m s.reader.trace.x s.reader.trace.y in record {
          handed = omega (arith, k.handed, k.ordered);
          ordered = omega arith;
          entries =
              take_before n first (m + 2) x y (omega (arith, k.handed, k.ordered)) ∙
              take_before n s.path m s.reader.trace.x s.reader.trace.y (omega (arith, k.handed, k.ordered)) ∙
              k.entries;
        }

    -- or not at all
    written_or_not : (c b : Bool) (x y : ℤ) → Keeps (farther (cond c (lined_by b s.reader.trace x y s.path) (record { trace = s.reader.trace; entries = s.path })))
    written_or_not true b x y = written b x y
    written_or_not false b x y = record { handed = k.handed; ordered = k.ordered; entries = k.entries }

    joins_keeps : (x y : ℤ) → StepKeeps (joins x y s)
    unfolding lined
    joins_keeps x y = still_goes (written_or_not (is_fit s.reader.trace (length s.path)) (is_open s.reader.trace) x y)

    -- ---- a command
    draws_keeps : (place : ℕ) (x y : ℤ) → StepKeeps (draws place x y s)
    draws_keeps place x y =
        keeps_cond s.reader.trace.placed
        (keeps_cond (none_chosen s.reader) (refuses_keeps (number aperture) place k)
        (judged_keeps (line_verdict s.reader.trace x y (length s.path) place) k (joins_keeps x y))) (refuses_keeps (number command) place k)

    -- where a stroke ends, all that is filled is handed out
    ends_keeps : (m : ℕ) (u : Trace) → u.first ≡ s.reader.trace.filled → u.filled ≡ s.reader.trace.filled →
        StepKeeps (closes s.reader (record { reader = with_trace s.reader m u; path = s.path }))
    ends_keeps m u e f = closes_keeps s.reader (keeps_with (with_trace s.reader m u) k (omega (arith, k.ordered)) (omega arith))

    obeyed_keeps : (place : ℕ) (w : Word) → StepKeeps (obeyed t s place w)
    unfolding obeyed
    obeyed_keeps place (choose m) = keeps_cond (is_held t m) (ends_keeps m (ended s.reader.trace).trace refl refl) (refuses_keeps (number aperture) place k)
    obeyed_keeps place (move x y) =
        judged_keeps (move_verdict (in_unit s x) (in_unit s y) place) k (ends_keeps s.reader.aperture (moved s.reader.trace (in_unit s x) (in_unit s y)) refl refl)
    obeyed_keeps place (line x y) = draws_keeps place (in_unit s x) (in_unit s y)
    obeyed_keeps place end = ends_keeps s.reader.aperture (ended s.reader.trace).trace refl refl

    -- ---- a byte
    word_keeps : (w : Option Word) → StepKeeps (obeyed_word t s w)
    word_keeps none = still_goes k
    word_keeps (some w) = obeyed_keeps s.reader.scanner.start w

    acted_by_keeps : (m : Mode) → StepKeeps (acted_by m t s)
    acted_by_keeps Bad = refuses_keeps (number command) s.reader.scanner.start k
    acted_by_keeps (Outside g) = still_goes k
    acted_by_keeps (Whole c) = word_keeps (word_of c s.reader.scanner.x s.reader.scanner.y)
    acted_by_keeps (Number a sign d v) = still_goes k
    acted_by_keeps (Inside p) = still_goes k

  step_keeps : (t : Table) (s : State) (b : ℕ) → Keeps s → StepKeeps (step_of t s b)
  unfolding step_of acted
  step_keeps t s b k =
      let r = with_scanner s.reader (stepped s.reader.scanner b) in
      acted_by_keeps t (record { reader = r; path = s.path }) (keeps_with r k (omega arith) k.ordered) r.scanner.mode

  -- ---- a chunk
  one_more_keeps : {c : Called State Stroke Fault} → CallKeeps c → CallKeeps (one_more c)
  one_more_keeps (still_more k) = still_more k
  one_more_keeps (still_gave k) = still_gave k
  one_more_keeps (still_failed k) = still_failed k

  -- the bytes behind one, which give f
  behind : {p : Step} (f : State → Called State Stroke Fault) → ((s : State) → Keeps s → CallKeeps (f s)) → StepKeeps p →
      CallKeeps (elim p as (λ _. Called State Stroke Fault) [ goes s ↦ one_more (f s) | gives e s ↦ gave e s 1 | fails e s ↦ failed e s ])
  behind f keeps (still_goes {s} k) = one_more_keeps (keeps s k)
  behind f keeps (still_gives k) = still_gave k
  behind f keeps (still_fails k) = still_failed k

  call_keeps : (t : Table) (chunk : List ℕ) (s : State) → Keeps s → CallKeeps (call (step_of t) s chunk)
  unfolding call
  call_keeps t [] s k = still_more k
  call_keeps t (b ∷ l) s k = behind (λ s. call (step_of t) s l) (λ s k. call_keeps t l s k) (step_keeps t s b k)

-- ---- a call
valid_state : (r : Reader) (p : List ℤ) {s : State} → Keeps r.trace.first (take r.trace.first p) s → StillValid r p s.reader s.path
valid_state r p k = record { entries = k.entries; later = k.handed; ordered = k.ordered }

valid_answer : (r : Reader) (p : List ℤ) (m : ℕ) {c : Called State Stroke Fault} → CallKeeps r.trace.first (take r.trace.first p) c →
    StillValid r p (answer m c).fed.reader (answer m c).entries
valid_answer r p m (still_more k) = valid_state r p k
valid_answer r p m (still_gave k) = valid_state r p k
valid_answer r p m (still_failed k) = valid_state r p k

-- one that repeats a refusal writes nothing
valid_cond : (r : Reader) (p : List ℤ) (c : Bool) (a : Answered) → r.trace.first ≤ r.trace.filled → StillValid r p a.fed.reader a.entries →
    StillValid r p (cond c a (record { fed = repeated r; entries = p })).fed.reader (cond c a (record { fed = repeated r; entries = p })).entries
valid_cond r p true a o h = h
valid_cond r p false a o h = record { entries = refl; later = omega arith; ordered = o }

pub stays_valid : StaysValid
unfolding feeds
stays_valid r t chunk p o =
    let n = r.trace.first in
    let s : State = record { reader = r; path = p } in
    let k : Keeps n (take n p) s = record { handed = omega arith; ordered = o; entries = refl } in
    valid_cond r p (eqb r.refusal 0) (answer (length chunk) (call (step_of t) s chunk)) o (valid_answer r p (length chunk) (call_keeps n (take n p) t chunk s k))

-- ---- all calls of a host
valid_both : {r u v : Reader} {p q w : List ℤ} → StillValid r p u q → StillValid u q v w → StillValid r p v w
valid_both {r} {u} {v} {p} {q} {w} a b = record {
  entries =
      sym (take-take r.trace.first u.trace.first w a.later) ∙
      ap (take r.trace.first) b.entries ∙
      take-take r.trace.first u.trace.first q a.later ∙
      a.entries;
  later = omega (arith, a.later, b.later);
  ordered = b.ordered;
}

pub stay_valid : (t : Table) {k : ℕ} {r u : Reader} {p q : List ℤ} {l : List ℕ} {given : List Handed} {fault : Option Fault} → r.trace.first ≤ r.trace.filled →
    Calls t k r p l given fault u q → StillValid r p u q
stay_valid t o calls·.no_call = record { entries = refl; later = omega arith; ordered = o }
stay_valid t {r = r} {p = p} o (calls·.more chunk rest e c) = let a = stays_valid r t chunk p o in valid_both a (stay_valid t a.ordered c)
stay_valid t {r = r} {p = p} o (calls·.stroke chunk rest e c) = let a = stays_valid r t chunk p o in valid_both a (stay_valid t a.ordered c)
stay_valid t {r = r} {p = p} o (calls·.refused chunk rest e) = stays_valid r t chunk p o
