-- FileAnswer: where reading fails the reader holds the refusal and repeats it at the end, and else it says what it has against the file's end; the lists add nothing.
use Prim.Native.Nat.{ℕ, suc}
use native.Mathlib.Omega.{arith}
use mathlib.Core.Path.{◌≡◌, refl, sym, ap, ap₂, ◌∙◌}
use mathlib.Core.Bool.{Bool, cond}
use mathlib.Core.List.{List, [], ◌∷◌}
use mathlib.Core.Option.{Option, none, some}
use borrow.Author.Tests.{ne_eqb}
use Rattle.limits.specs.declared.Verdict.TheVariants as verdict·
use Rattle.aperture.specs.declared.Table.{Table}
use Rattle.setting_list.specs.Settings.{table_of}
use Rattle.chunks.specs.Machine.{goes, gives, fails, ahead, read}
use Rattle.gerber.specs.declared.Fed.{Fed}
use Rattle.gerber.specs.declared.Given.{Given}
use Rattle.gerber.specs.declared.Given.TheVariants as given·
use Rattle.gerber.specs.declared.Reader.{Reader}
use Rattle.gerber.specs.Reader.{State, Fault, Step, step_of, repeated, finished_on, finished}
use Rattle.gerber_file.specs.Calls.{fault_of, told}
use Rattle.gerber_file.proofs.Chunking.{AllRead}
use Rattle.gerber_file.proofs.Keeps.{Held, Keeps, reading, step_keeps}
use Rattle.gerber_file.proofs.Exact.{start}
use Rattle.gather.specs.declared.Gathering.{Gathering}
use Rattle.gather.specs.declared.Finished.TheVariants.{Done, Refused}
use Rattle.gather.specs.Gather.{Gathered, kept_of, verdict_of, finishing_by, finishing}
use Rattle.gerber_film.specs.File.{end_of}
use Rattle.gerber_film.specs.Theorems.{answer_for, FileAnswer}
use Rattle.gerber_film.proofs.Whole.{all, none_noted, left_is, matches, none_lost}

-- ---- a failure is held
abbrev HeldIfAny : Option Fault → State → Type 0
HeldIfAny none u = Unit
HeldIfAny (some f) u = Held f u

abbrev HoldsFailure : AllRead → Type 0
HoldsFailure r = HeldIfAny r.failure r.state

-- a byte, and those behind it, which come to f
then_held : (k : ℕ) (s : State) (f : State → AllRead) (x : Step) → Keeps s x → ((u : State) → HoldsFailure (f u)) →
    HoldsFailure (elim x as (λ _. AllRead) [
      | goes u ↦ f u
      | gives e u ↦ ahead (record { thing = e; used = suc k }) (f u)
      | fails e u ↦ record { given = []; failure = some e; state = u }
    ])
then_held k s f (goes u) p g = g u
then_held k s f (gives e u) p g = g u
then_held k s f (fails e u) p g = p

read_held : (t : Table) (l : List ℕ) (k : ℕ) (s : State) → HoldsFailure (read (step_of t) k s l)
unfolding read
read_held t [] k s = tt
read_held t (b ∷ l) k s = then_held k (reading s b) (λ u. read (step_of t) (suc k) u l) (step_of t s b) (step_keeps t s b) (read_held t l (suc k))

-- ---- what is said at the end, where the lists add nothing
module _ (g : Gathering) (starts : List ℕ) (done : verdict_of (finished g.reader).given ≡ verdict·.Passed → (finishing g starts).answer ≡ Done) where
  by_given : (v : Given) → (verdict_of v ≡ verdict·.Passed → (finishing_by (verdict_of v) g starts).answer ≡ Done) → (finishing_by (verdict_of v) g starts).answer ≡ answer_for (fault_of v)
  by_given given·.More d = d refl
  by_given (given·.Stroke a first n) d = d refl
  by_given given·.Done d = d refl
  by_given (given·.Refused n place) d = refl

  well_read : (finishing g starts).answer ≡ answer_for (told none g.reader)
  unfolding finishing
  well_read = by_given (finished g.reader).given done

  -- a refusal that is held is repeated
  repeats : (f : Fault) (u : State) → Held f u → finished u.reader ≡ repeated u.reader
  unfolding finished
  repeats f u h =
      ap (λ (b : Bool). cond b (finished_on u.reader) (repeated u.reader)) (ne_eqb u.reader.refusal 0 (λ e. omega (arith, e, h.refusal, h.not_zero)))

  badly_read : (f : Fault) (u : State) → Held f u → u.reader ≡ g.reader → (finishing g starts).answer ≡ Refused f.number f.place
  unfolding finishing
  badly_read f u h e =
      ap (λ (r : Reader). (finishing_by (verdict_of (finished r).given) g starts).answer) (sym e) ∙
      ap (λ (z : Fed). (finishing_by (verdict_of z.given) g starts).answer) (repeats f u h) ∙
      ap₂ (λ (n place : ℕ). Refused n place) h.refusal h.place

  said : (failure : Option Fault) (u : State) → HeldIfAny failure u → u.reader ≡ g.reader →
      (finishing g starts).answer ≡ answer_for (told failure g.reader)
  said none u h e = well_read
  said (some f) u h e = badly_read f u h e

pub file_answer : FileAnswer
file_answer unit settings l p a s h fs bad reads =
    let r = all unit settings l p a s h in
    let g = kept_of (none_noted unit settings l p a s h) r in
    ap (λ (z : Gathered). (end_of z).answer) (left_is unit settings l p a s h) ∙
    said g.gathering g.starts (none_lost unit settings l p a s h fs bad reads).done r.failure r.state (read_held (table_of settings).table l 0 (start unit p)) refl ∙
    ap answer_for (matches unit settings l p a s h fs bad reads).refusal
