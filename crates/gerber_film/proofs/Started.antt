-- Where the scanner's last command starts, byte by byte: where it started before, or no earlier than the chunk. And what is refused is refused at its start.
use Prim.Native.Nat.{ℕ, suc, ◌+◌, ◌≤◌, ◌<◌}
use native.Mathlib.Omega.{arith}
use mathlib.Core.Path.{◌≡◌, refl, sym, ap, ◌∙◌}
use mathlib.Core.Logic.{◌⊎◌, inl, inr}
use mathlib.Core.Bool.{Bool, true, false, cond, not}
use mathlib.Core.List.{List, [], ◌∷◌}
use mathlib.Core.Option.{Option, none, some}
use lib.ListN.{length}
use lib.IntN.{ℤ}
use Rattle.limits.specs.Refusal.{Refusal, path, coordinate, room, unless_at, ◌then◌}
use Rattle.limits.specs.declared.Verdict.{Verdict}
use Rattle.limits.specs.declared.Verdict.TheVariants.{Passed, Refused}
use Rattle.aperture.specs.declared.Table.{Table}
use Rattle.aperture.specs.Table.{is_held}
use Rattle.trace.specs.declared.Trace.{Trace}
use Rattle.trace.specs.Trace.{is_open, is_longer, is_inside, is_fit, line_verdict, move_verdict, moved, ended}
use Rattle.scan.specs.declared.Mode.{Mode}
use Rattle.scan.specs.declared.Mode.TheVariants.{Bad, Outside, Whole, Number, Inside}
use Rattle.scan.specs.declared.Scanner.{Scanner}
use Rattle.scan.specs.Scanner.{Word, choose, move, line, end, start_of, stepped, word_of}
use Rattle.chunks.specs.Machine.{goes, gives, fails, ahead, Read, read}
use Rattle.gerber.specs.declared.Reader.{Reader}
use Rattle.gerber.specs.Reader.{State, Stroke, Fault, Step, with_trace, judged, closes, none_chosen, joins, draws, in_unit, obeyed, obeyed_word, acted_by, acted, step_of}
use Rattle.gerber_file.proofs.Keeps.{Keeps, reading, step_keeps}

-- ---- a refusal has this place, and the scanner stays
abbrev At : ℕ → State → Step → Type 0
At place s (goes u) = Unit
At place s (gives e u) = Unit
At place s (fails f u) = (f.place ≡ place) × (u.reader.scanner ≡ s.reader.scanner)

abbrev Told : ℕ → Verdict → Type 0
Told place Passed = Unit
Told place (Refused n p) = p ≡ place

told_at : (place : ℕ) (b : Bool) (r : Refusal) → Told place (unless_at place b r)
told_at place true r = tt
told_at place false r = refl

told_then : (place : ℕ) (v w : Verdict) → Told place v → Told place w → Told place (v then w)
told_then place Passed w h k = k
told_then place (Refused n p) w h k = h

either : (place : ℕ) (s : State) (b : Bool) (x y : Step) → At place s x → At place s y → At place s (cond b x y)
either place s true x y h k = h
either place s false x y h k = k

judging : (place : ℕ) (v : Verdict) (s : State) (x : Step) → Told place v → At place s x → At place s (judged v s x)
judging place Passed s x h k = k
judging place (Refused n p) s x h k = (h, refl)

closing : (place : ℕ) (s : State) (n : ℕ) (t : Trace) → At place s (closes s.reader (record { reader = with_trace s.reader n t; path = s.path }))
closing place s n t = either place s (is_open s.reader.trace) _ _ tt tt

line_told : (t : Trace) (x y : ℤ) (space place : ℕ) → Told place (line_verdict t x y space place)
line_told t x y space place =
    let long = unless_at place (not (is_longer t)) path in
    let outside = unless_at place (is_inside x y) coordinate in
    let full = unless_at place (is_fit t space) room in
    told_then place long (outside then full) (told_at place (not (is_longer t)) path)
    (told_then place outside full (told_at place (is_inside x y) coordinate) (told_at place (is_fit t space) room))

drawing : (place : ℕ) (x y : ℤ) (s : State) → At place s (draws place x y s)
drawing place x y s =
    let t = s.reader.trace in
    let judges = judging place (line_verdict t x y (length s.path) place) s (joins x y s) (line_told t x y (length s.path) place) tt in
    either place s t.placed _ _ (either place s (none_chosen s.reader) _ _ (refl, refl) judges) (refl, refl)

obeyed_at : (t : Table) (s : State) (place : ℕ) (w : Word) → At place s (obeyed t s place w)
unfolding obeyed
obeyed_at t s place (choose n) = either place s (is_held t n) _ _ (closing place s n (ended s.reader.trace).trace) (refl, refl)
obeyed_at t s place (move x y) =
    let i = in_unit s x in
    let j = in_unit s y in
    judging place (move_verdict i j place) s _ (told_at place (is_inside i j) coordinate) (closing place s s.reader.aperture (moved s.reader.trace i j))
obeyed_at t s place (line x y) = drawing place (in_unit s x) (in_unit s y) s
obeyed_at t s place end = closing place s s.reader.aperture (ended s.reader.trace).trace

word_at : (t : Table) (s : State) (w : Option Word) → At s.reader.scanner.start s (obeyed_word t s w)
word_at t s none = tt
word_at t s (some w) = obeyed_at t s s.reader.scanner.start w

acted_at : (m : Mode) (t : Table) (s : State) → At s.reader.scanner.start s (acted_by m t s)
acted_at Bad t s = (refl, refl)
acted_at (Outside g) t s = tt
acted_at (Whole c) t s = word_at t s (word_of c s.reader.scanner.x s.reader.scanner.y)
acted_at (Number a sign n v) t s = tt
acted_at (Inside p) t s = tt

step_at_lem : (t : Table) (s : State) (b : ℕ) → At (reading s b).reader.scanner.start (reading s b) (step_of t s b)
unfolding step_of acted
step_at_lem t s b = acted_at (stepped s.reader.scanner b).mode t (reading s b)

-- ---- the scanner, by a byte
start_of_lem : (m : Mode) (at start : ℕ) → (start_of m at start ≡ start) ⊎ (start_of m at start ≡ at)
start_of_lem Bad at start = inl refl
start_of_lem (Outside g) at start = inr refl
start_of_lem (Whole c) at start = inr refl
start_of_lem (Number a sign n v) at start = inl refl
start_of_lem (Inside p) at start = inl refl

stepped_start : (z : Scanner) (b : ℕ) → ((stepped z b).start ≡ z.start) ⊎ ((stepped z b).start ≡ z.at)
unfolding stepped
stepped_start z b = start_of_lem z.mode z.at z.start

stepped_count : (z : Scanner) (b : ℕ) → z.at < 18446744073709551615 → (stepped z b).at ≡ z.at + 1
unfolding stepped
stepped_count z b h = omega arith

-- ---- by n bytes: u is the reader that they lead to
pub record Moved (z : Scanner) (n : ℕ) (u : Reader) : Type 0 where
  pub start : (u.scanner.start ≡ z.start) ⊎ (z.at ≤ u.scanner.start)
  pub count : u.refusal ≡ 0 → u.scanner.at ≡ z.at + n
  pub low : u.refusal ≡ 0 → u.scanner.start ≤ z.at + n
  pub place : ¬ (u.refusal ≡ 0) → (u.place ≡ u.scanner.start) × (u.scanner.start < z.at + n)

-- one byte, and then n
moved_on : (z y : Scanner) (n : ℕ) (u : Reader) → y.at ≡ z.at + 1 → (y.start ≡ z.start) ⊎ (y.start ≡ z.at) → Moved y n u → Moved z (suc n) u
moved_on z y n u e f m = record {
  start = go f m.start;
  count = λ h. let k = m.count h in omega arith;
  low = λ h. let k = m.low h in omega arith;
  place = λ h. let k = m.place h in (k.0, omega arith);
}
  where
    go : (y.start ≡ z.start) ⊎ (y.start ≡ z.at) → (u.scanner.start ≡ y.start) ⊎ (y.at ≤ u.scanner.start) → (u.scanner.start ≡ z.start) ⊎ (z.at ≤ u.scanner.start)
    go (inl p) (inl q) = inl (q ∙ p)
    go (inr p) (inl q) = inr (omega arith)
    go p (inr q) = inr (omega arith)

module _ (t : Table) where
  -- a byte's step, and then the others, which come to f
  abbrev then_read : ℕ → (State → Read State Stroke Fault) → Step → Read State Stroke Fault
  then_read k f x =
      elim x as (λ _. Read State Stroke Fault) [
        | goes u ↦ f u
        | gives e u ↦ ahead (record { thing = e; used = suc k }) (f u)
        | fails e u ↦ record { given = []; failure = some e; state = u }
      ]

  -- what is to be shown of the bytes l, read from a state
  abbrev Reads : List ℕ → ℕ → State → Type 0
  Reads l k s = s.reader.refusal ≡ 0 → s.reader.scanner.start ≤ s.reader.scanner.at → s.reader.scanner.at + length l < 18446744073709551616 →
      Moved s.reader.scanner (length l) (read (step_of t) k s l).state.reader

  byte_moved : (b : ℕ) (l : List ℕ) (k : ℕ) (s : State) → ((u : State) → Reads l (suc k) u) → Reads (b ∷ l) k s
  unfolding read
  byte_moved b l k s f h i j = go (step_of t s b) (step_keeps t s b) (step_at_lem t s b)
    where
      z : Scanner
      z = s.reader.scanner

      counts : (stepped z b).at ≡ z.at + 1
      counts = stepped_count z b (omega arith)

      low : (stepped z b).start ≤ z.at
      low = elim (stepped_start z b) [ inl e ↦ omega arith | inr e ↦ omega arith ]

      -- the others, from a state with this scanner
      on : (u : State) → u.reader.refusal ≡ 0 → u.reader.scanner ≡ stepped z b → Moved z (suc (length l)) (read (step_of t) (suc k) u l).state.reader
      on u r e =
          let at : u.reader.scanner.at ≡ z.at + 1 = ap (λ (y : Scanner). y.at) e ∙ counts in
          let start : u.reader.scanner.start ≡ (stepped z b).start = ap (λ (y : Scanner). y.start) e in
          let below : u.reader.scanner.start ≤ u.reader.scanner.at = omega (arith, low) in
          moved_on z u.reader.scanner (length l) (read (step_of t) (suc k) u l).state.reader at
          (elim (stepped_start z b) [ inl q ↦ inl (start ∙ q) | inr q ↦ inr (start ∙ q) ]) (f u r below (omega arith))

      go : (x : Step) → Keeps (reading s b) x → At (stepped z b).start (reading s b) x → Moved z (suc (length l)) (then_read k (λ u. read (step_of t) (suc k) u l) x).state.reader
      go (goes u) p q = on u (p.refusal ∙ h) p.scanner
      go (gives e u) p q = on u (p.refusal ∙ h) p.scanner
      go (fails f u) p q =
          let start : u.reader.scanner.start ≡ (stepped z b).start = ap (λ (y : Scanner). y.start) q.1 in
          record {
            start = elim (stepped_start z b) [ inl e ↦ inl (start ∙ e) | inr e ↦ inr (omega arith) ];
            count = λ e. absurd (omega (arith, p.refusal, p.not_zero));
            low = λ e. absurd (omega (arith, p.refusal, p.not_zero));
            place = λ _. (p.place ∙ q.0 ∙ sym start, omega (arith, low));
          }

  pub read_moved : (l : List ℕ) (k : ℕ) (s : State) → Reads l k s
  unfolding read
  read_moved [] k s h i j = record { start = inl refl; count = λ _. omega arith; low = λ _. omega arith; place = λ p. absurd (p h) }
  read_moved (b ∷ l) k s h i j = byte_moved b l k s (λ u. read_moved l (suc k) u) h i j
