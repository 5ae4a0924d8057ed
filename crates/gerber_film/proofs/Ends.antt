-- The open stroke begins where the last stroke given ends: a stroke that ends leaves the path filled up to its end, and nothing else moves the first entry.
use Prim.Native.Nat.{ℕ, suc, ◌+◌, ◌-◌, ◌≤◌}
use native.Mathlib.Omega.{arith}
use mathlib.Core.Path.{◌≡◌, refl, ap, ◌∙◌}
use mathlib.Core.Bool.{Bool, true, false, cond}
use mathlib.Core.List.{List, [], ◌∷◌}
use mathlib.Core.Option.{Option, none, some}
use borrow.Author.Tests.{ltb-false}
use lib.ListN.{length}
use lib.IntN.{ℤ}
use Rattle.limits.specs.declared.Verdict.{Verdict}
use Rattle.limits.specs.declared.Verdict.TheVariants.{Passed, Refused}
use Rattle.aperture.specs.declared.Table.{Table}
use Rattle.aperture.specs.Table.{is_held}
use Rattle.trace.specs.declared.Trace.{Trace}
use Rattle.trace.specs.Trace.{is_open, is_fit, line_verdict, move_verdict, Lined, lined_by, lined, ended, moved}
use Rattle.scan.specs.declared.Mode.{Mode}
use Rattle.scan.specs.declared.Mode.TheVariants.{Bad, Outside, Whole, Number, Inside}
use Rattle.scan.specs.Scanner.{Word, choose, move, line, end, stepped, word_of}
use Rattle.chunks.specs.Machine.{goes, gives, fails, Read, ahead, read}
use Rattle.gerber.specs.Reader.{State, Stroke, Fault, Step, with_trace, judged, closes, none_chosen, chooses, moves, joins, draws, in_unit, obeyed, obeyed_word, acted_by, acted, step_of}
use Rattle.gerber_file.specs.Calls.{Handed}
use Rattle.gerber_file.proofs.Keeps.{reading}

-- the end of the last of these strokes, n where there is none
abbrev pub last_end : ℕ → List Handed → ℕ
last_end n [] = n
last_end n (e ∷ es) = last_end (e.thing.first + e.thing.length) es

abbrev Ordered : Trace → Type 0
Ordered t = t.first ≤ t.filled

-- from the trace t a step leaves the first entry, or moves it to the end of the stroke that it gives
abbrev Follows : Trace → Step → Type 0
Follows t (goes u) = (u.reader.trace.first ≡ t.first) × Ordered u.reader.trace
Follows t (gives e u) = (u.reader.trace.first ≡ e.first + e.length) × Ordered u.reader.trace
Follows t (fails f u) = u.reader.trace.first ≡ t.first

-- ---- a line
-- one that begins a stroke begins it where the path is filled, and that is its first entry already
line_by : (b : Bool) (t : Trace) (x y : ℤ) (l : List ℤ) → is_open t ≡ b → Ordered t → ((lined_by b t x y l).trace.first ≡ t.first) × Ordered (lined_by b t x y l).trace
line_by true t x y l e h = (refl, omega (arith, h))
line_by false t x y l e h = (omega (arith, h, ltb-false t.first t.filled e), omega arith)

-- or not at all
abbrev lined_if : Bool → Trace → ℤ → ℤ → List ℤ → Lined
lined_if b t x y l = cond b (lined_by (is_open t) t x y l) (record { trace = t; entries = l })

line_follows : (t : Trace) (x y : ℤ) (l : List ℤ) → Ordered t → ((lined t x y l).trace.first ≡ t.first) × Ordered (lined t x y l).trace
unfolding lined
line_follows t x y l h = go (is_fit t (length l))
  where
    go : (b : Bool) → ((lined_if b t x y l).trace.first ≡ t.first) × Ordered (lined_if b t x y l).trace
    go true = line_by (is_open t) t x y l refl h
    go false = (refl, h)

-- ---- a command, in a state whose trace is ordered
module _ (s : State) (h : Ordered s.reader.trace) where
  abbrev now : Trace
  now = s.reader.trace

  either : (b : Bool) (x y : Step) → Follows now x → Follows now y → Follows now (cond b x y)
  either true x y p q = p
  either false x y p q = q

  judging : (v : Verdict) (next : Step) → Follows now next → Follows now (judged v s next)
  judging Passed next p = p
  judging (Refused n place) next p = refl

  -- where a stroke may end the path is handed out as far as it is filled
  closing : (n : ℕ) (u : Trace) → u.first ≡ now.filled → u.filled ≡ now.filled → Follows now (closes s.reader (record { reader = with_trace s.reader n u; path = s.path }))
  closing n u e f = go (is_open now) refl
    where
      go : (b : Bool) → is_open now ≡ b → Follows now (cond b
          (gives (record { aperture = s.reader.aperture; first = now.first; length = now.filled - now.first }) (record { reader = with_trace s.reader n u; path = s.path }))
          (goes (record { reader = with_trace s.reader n u; path = s.path })))
      go true q = (omega (arith, e, h), omega (arith, e, f))
      go false q = (omega (arith, e, h, ltb-false now.first now.filled q), omega (arith, e, f))

  choosing : (t : Table) (place n : ℕ) → Follows now (chooses t place n s)
  choosing t place n = either (is_held t n) _ _ (closing n (ended now).trace refl refl) refl

  moving : (place : ℕ) (x y : ℤ) → Follows now (moves place x y s)
  moving place x y = judging (move_verdict x y place) _ (closing s.reader.aperture (moved now x y) refl refl)

  drawing : (place : ℕ) (x y : ℤ) → Follows now (draws place x y s)
  drawing place x y =
      let judges = judging (line_verdict now x y (length s.path) place) (joins x y s) (line_follows now x y s.path h) in
      either now.placed _ _ (either (none_chosen s.reader) _ _ refl judges) refl

  obeying : (t : Table) (place : ℕ) (w : Word) → Follows now (obeyed t s place w)
  unfolding obeyed
  obeying t place (choose n) = choosing t place n
  obeying t place (move x y) = moving place (in_unit s x) (in_unit s y)
  obeying t place (line x y) = drawing place (in_unit s x) (in_unit s y)
  obeying t place end = closing s.reader.aperture (ended now).trace refl refl

  -- ---- a byte
  obeying_word : (t : Table) (w : Option Word) → Follows now (obeyed_word t s w)
  obeying_word t none = (refl, h)
  obeying_word t (some w) = obeying t s.reader.scanner.start w

  acting : (m : Mode) (t : Table) → Follows now (acted_by m t s)
  acting Bad t = refl
  acting (Outside g) t = (refl, h)
  acting (Whole c) t = obeying_word t (word_of c s.reader.scanner.x s.reader.scanner.y)
  acting (Number a sign n v) t = (refl, h)
  acting (Inside p) t = (refl, h)

-- the scanner is another then, and the trace the same
step_follows : (t : Table) (s : State) (b : ℕ) → Ordered s.reader.trace → Follows s.reader.trace (step_of t s b)
unfolding step_of acted
step_follows t s b h = acting (reading s b) h (stepped s.reader.scanner b).mode t

-- ---- all bytes
-- what stands at the end is the end of the last stroke
abbrev Ends : ℕ → Read State Stroke Fault → Type 0
Ends n r = r.state.reader.trace.first ≡ last_end n r.given

-- a byte, and those behind it, which come to f
then_ends : (k : ℕ) (t : Trace) (f : State → Read State Stroke Fault) (x : Step) → Follows t x → ((u : State) → Ordered u.reader.trace → Ends u.reader.trace.first (f u)) →
    Ends t.first (elim x as (λ _. Read State Stroke Fault) [
      | goes u ↦ f u
      | gives e u ↦ ahead (record { thing = e; used = suc k }) (f u)
      | fails e u ↦ record { given = []; failure = some e; state = u }
    ])
then_ends k t f (goes u) p g = g u p.1 ∙ ap (λ (n : ℕ). last_end n (f u).given) p.0
then_ends k t f (gives e u) p g = g u p.1 ∙ ap (λ (n : ℕ). last_end n (f u).given) p.0
then_ends k t f (fails e u) p g = p

pub read_ends : (t : Table) (l : List ℕ) (k : ℕ) (s : State) → Ordered s.reader.trace →
    Ends s.reader.trace.first (read (step_of t) k s l)
unfolding read
read_ends t [] k s h = refl
read_ends t (b ∷ l) k s h = then_ends k s.reader.trace (λ u. read (step_of t) (suc k) u l) (step_of t s b) (step_follows t s b h) (read_ends t l (suc k))
