-- What the code answers to a command, by the cases of its tests: each test's answer is put into the definition, which then computes.
use Prim.Native.Nat.{ℕ, ◌-◌, ◌<◌}
use native.Mathlib.Omega.{arith}
use mathlib.Core.Path.{◌≡◌, refl, sym, ap, ◌∙◌}
use mathlib.Core.Bool.{Bool, true, false, cond}
use mathlib.Core.List.{List}
use borrow.Author.Tests.{lt-ltb, le-ltb}
use lib.ListN.{length}
use lib.IntN.{ℤ}
use Rattle.limits.specs.Refusal.{aperture, command}
use Rattle.limits.specs.declared.Verdict.{Verdict}
use Rattle.limits.specs.declared.Verdict.TheVariants.{Passed, Refused}
use Rattle.aperture.specs.declared.Table.{Table}
use Rattle.aperture.specs.Table.{is_held}
use Rattle.trace.specs.declared.Ended.{Ended}
use Rattle.trace.specs.Trace.{line_verdict, move_verdict, Lined, lined, ended, moved}
use Rattle.scan.specs.declared.Command.{Command}
use Rattle.scan.specs.declared.Mode.{Mode}
use Rattle.scan.specs.Scanner.{word_of}
use Rattle.chunks.specs.Machine.{goes, gives}
use Rattle.gerber.specs.declared.Reader.{Reader}
use Rattle.gerber.specs.declared.Given.TheVariants as given·
use Rattle.gerber.specs.declared.Obeyed.{Obeyed}
use Rattle.gerber.specs.Reader.{State, Step, Told, with_trace, latched, refuses, judged, closes, none_chosen, chooses, moves, joins, draws, obeyed_word, acted_by, acted, shown}

abbrev pub at : Obeyed → List ℤ → Told
at o p = record { told = o; entries = p }

abbrev pub refused : Reader → ℕ → ℕ → Obeyed
refused r n place = record { reader = latched r n place; given = given·.Refused n place }

pub told_at : {o o' : Obeyed} (p : List ℤ) → o ≡ o' → at o p ≡ at o' p
told_at p e = ap (λ (o : Obeyed). at o p) e

above : (a b : ℕ) → ¬ (b - a ≡ 0) → a < b
above a b h = omega arith

-- ---- the end of a stroke: q is what `trace::end` answers
module _ (r : Reader) (s : State) {q : Ended} (e : q ≡ ended r.trace) where
  abbrev stroke : Step
  stroke = gives (record { aperture = r.aperture; first = r.trace.first; length = (ended r.trace).length }) s

  abbrev by : Bool → Step
  by t = cond t stroke (goes s)

  pub none_open : q.length ≡ 0 → {o : Obeyed} → o ≡ record { reader = s.reader; given = given·.More } → at o s.path ≡ shown (closes r s)
  none_open h f =
      let z = sym (ap (λ (d : Ended). d.length) e) ∙ h in
      told_at s.path f ∙ sym (ap (λ (t : Bool). shown (by t)) (le-ltb r.trace.first r.trace.filled (omega (arith, z))))

  pub one_open : ¬ (q.length ≡ 0) → at (record { reader = s.reader; given = given·.Stroke r.aperture q.first q.length }) s.path ≡ shown (closes r s)
  one_open h =
      ap (λ (d : Ended). at (record { reader = s.reader; given = given·.Stroke r.aperture d.first d.length }) s.path) e ∙
      sym (ap (λ (t : Bool). shown (by t)) (lt-ltb r.trace.first r.trace.filled (above r.trace.first r.trace.filled (λ z. h (ap (λ (d : Ended). d.length) e ∙ z)))))

-- the state after it, by what the code has for it
pub closes_at : (r : Reader) {next next' : Reader} (p : List ℤ) {o : Obeyed} → next ≡ next' → at o p ≡ shown (closes r (record { reader = next; path = p })) →
    at o p ≡ shown (closes r (record { reader = next'; path = p }))
closes_at r p e h = h ∙ ap (λ (k : Reader). shown (closes r (record { reader = k; path = p }))) e

-- ---- an aperture
module _ (t : Table) (place n : ℕ) (r : Reader) (p : List ℤ) where
  abbrev was : State
  was = record { reader = r; path = p }

  abbrev chosen : Bool → Step
  chosen b = cond b (closes r (record { reader = with_trace r n (ended r.trace).trace; path = p })) (refuses aperture place was)

  pub not_held : {o : Obeyed} → is_held t n ≡ false → o ≡ refused r 6 place → at o p ≡ shown (chooses t place n was)
  not_held e f = told_at p f ∙ sym (ap (λ (b : Bool). shown (chosen b)) e)

  pub held : {o : Obeyed} → is_held t n ≡ true → at o p ≡ shown (chosen true) → at o p ≡ shown (chooses t place n was)
  held e h = h ∙ sym (ap (λ (b : Bool). shown (chosen b)) e)

-- ---- a point: v is what the check answers
module _ (place : ℕ) (x y : ℤ) (r : Reader) (p : List ℤ) where
  abbrev then : Step
  then = closes r (record { reader = with_trace r r.aperture (moved r.trace x y); path = p })

  pub move_refused : {o : Obeyed} {v : Verdict} → v ≡ move_verdict x y place → {n k : ℕ} → v ≡ Refused n k → o ≡ refused r n k → at o p ≡ shown (moves place x y (record { reader = r; path = p }))
  move_refused e f g = told_at p g ∙ ap (λ (w : Verdict). shown (judged w (record { reader = r; path = p }) then)) (sym f ∙ e)

  pub move_passed : {o : Obeyed} {v : Verdict} → v ≡ move_verdict x y place → v ≡ Passed → at o p ≡ shown then → at o p ≡ shown (moves place x y (record { reader = r; path = p }))
  move_passed e f h = h ∙ ap (λ (w : Verdict). shown (judged w (record { reader = r; path = p }) then)) (sym f ∙ e)

-- ---- a line
-- it is added: q is what `trace::line` answers
pub added : (x y : ℤ) (r : Reader) (p : List ℤ) {q : Lined} {next : Reader} {o : Obeyed} → q ≡ lined r.trace x y p → next ≡ with_trace r r.aperture q.trace →
    o ≡ record { reader = next; given = given·.More } → at o q.entries ≡ shown (joins x y (record { reader = r; path = p }))
added x y r p {q} e f g =
    told_at q.entries (g ∙ ap (λ (k : Reader). record { reader = k; given = given·.More }) f) ∙
    ap (λ (d : Lined). at (record { reader = with_trace r r.aperture d.trace; given = given·.More }) d.entries) e

module _ (place : ℕ) (x y : ℤ) (r : Reader) (p : List ℤ) where
  abbrev now : State
  now = record { reader = r; path = p }

  abbrev drawn : Bool → Bool → Verdict → Step
  drawn a b v = cond a (cond b (refuses aperture place now) (judged v now (joins x y now))) (refuses command place now)

  by_tests : {a b : Bool} {v : Verdict} → r.trace.placed ≡ a → none_chosen r ≡ b → v ≡ line_verdict r.trace x y (length p) place → shown (drawn a b v) ≡ shown (draws place x y now)
  by_tests {a} {b} f g e =
      ap (λ (w : Verdict). shown (drawn a b w)) e ∙ sym (ap (λ (c : Bool). shown (drawn a c (line_verdict r.trace x y (length p) place))) g) ∙
      sym (ap (λ (c : Bool). shown (drawn c (none_chosen r) (line_verdict r.trace x y (length p) place))) f)

  pub no_point : {o : Obeyed} → r.trace.placed ≡ false → o ≡ refused r 14 place → at o p ≡ shown (draws place x y now)
  no_point f h = told_at p h ∙ by_tests {b = none_chosen r} {v = line_verdict r.trace x y (length p) place} f refl refl

  module _ (f : r.trace.placed ≡ true) where
    pub no_aperture : {o : Obeyed} → none_chosen r ≡ true → o ≡ refused r 6 place → at o p ≡ shown (draws place x y now)
    no_aperture g h = told_at p h ∙ by_tests {v = line_verdict r.trace x y (length p) place} f g refl

    module _ (g : none_chosen r ≡ false) {v : Verdict} (e : v ≡ line_verdict r.trace x y (length p) place) where
      pub line_refused : {o : Obeyed} {n k : ℕ} → v ≡ Refused n k → o ≡ refused r n k → at o p ≡ shown (draws place x y now)
      line_refused d h = told_at p h ∙ by_tests f g (sym d ∙ e)

      pub line_passed : {q : Told} → v ≡ Passed → q ≡ shown (joins x y now) → q ≡ shown (draws place x y now)
      line_passed d h = h ∙ by_tests f g (sym d ∙ e)

-- ---- a command, and what the last byte asks for, by the case of the match
pub obeys : (t : Table) (s : State) {c d : Command} {q : Told} → c ≡ d → q ≡ shown (obeyed_word t s (word_of d s.reader.scanner.x s.reader.scanner.y)) →
    q ≡ shown (obeyed_word t s (word_of c s.reader.scanner.x s.reader.scanner.y))
obeys t s e h = h ∙ sym (ap (λ (c : Command). shown (obeyed_word t s (word_of c s.reader.scanner.x s.reader.scanner.y))) e)

pub acts : (t : Table) (s : State) {m : Mode} {q : Told} → s.reader.scanner.mode ≡ m → q ≡ shown (acted_by m t s) → q ≡ shown (acted t s)
unfolding acted
acts t s e h = h ∙ sym (ap (λ (m : Mode). shown (acted_by m t s)) e)
