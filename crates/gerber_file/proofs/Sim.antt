-- The reader and the second reading of a file (Strokes) side by side: what holds between them, and after one command.
use Prim.Native.Nat.{ℕ, ◌+◌, ◌≤◌}
use mathlib.Core.Path.{◌≡◌}
use mathlib.Core.Bool.{true, false}
use mathlib.Core.List.{List, ◌++◌}
use mathlib.Core.Option.{Option, none, some}
use lib.ListN.{length, take}
use lib.IntN.{ℤ}
use Rattle.trace.specs.declared.Trace.{Trace}
use Rattle.chunks.specs.Machine.{goes, gives, fails}
use Rattle.gerber.specs.Reader.{State, Stroke, Step}
use Rattle.plane.specs.Point.{Pt}
use Rattle.gerber_file.specs.Strokes.{Sheet, Drawn, Outcome, onward, hands, refused, flat, twice}

-- the current point
abbrev pub Pointed : Trace → Option Pt → Type 0
Pointed t none = t.placed ≡ false
Pointed t (some p) = (t.placed ≡ true) × ((t.x ≡ p.x) × (t.y ≡ p.y))

-- the aperture chosen; 0 is none
abbrev pub Chosen : ℕ → Option ℕ → Type 0
Chosen n none = n ≡ 0
Chosen n (some m) = (n ≡ m) × (1 ≤ m)

-- `done` are the entries of the strokes handed out
pub record Sim (unit space : ℕ) (done : List ℤ) (s : State) (q : Sheet) : Type 0 where
  pub same_unit : s.reader.unit ≡ unit
  pub room : length s.path ≡ space
  pub begins : s.reader.trace.first ≡ length done
  pub entries : q.entries ≡ length done
  pub filled : s.reader.trace.filled ≡ length done + twice q.begun
  pub fits : s.reader.trace.filled ≤ space
  pub holds : take s.reader.trace.filled s.path ≡ done ++ flat q.begun
  pub point : Pointed s.reader.trace q.point
  pub aperture : Chosen s.reader.aperture q.aperture

-- what a command gives in both
pub data Agree (unit space place used : ℕ) (done : List ℤ) : Step → Outcome → Type 0 where
  both_go : {s : State} {q : Sheet} → Sim unit space done s q → Agree unit space place used done (goes s) (onward q)
  both_give : {s : State} {q : Sheet} {e : Stroke} {d : Drawn} → Sim unit space (done ++ flat d.points) s q → e.aperture ≡ d.aperture → e.first ≡ d.first →
      e.length ≡ twice d.points → d.first ≡ length done → d.used ≡ used → Agree unit space place used done (gives e s) (hands d q)
  both_fail : {s : State} {n : ℕ} → (take s.reader.trace.first s.path ≡ done) → (s.reader.trace.first ≡ length done) →
      Agree unit space place used done (fails (record { number = n; place = place }) s) (refused n)
