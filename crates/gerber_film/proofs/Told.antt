-- What is refused is told with the mark of its place: the claim PlaceTold.
use Prim.Native.Nat.{ℕ, ◌≤◌, ◌<◌, ◌^◌}
use native.Mathlib.Omega.{arith}
use mathlib.Core.Path.{◌≡◌, refl, sym, ap, subst, ◌∙◌}
use mathlib.Core.Logic.{◌⊎◌, inl, inr}
use mathlib.Core.Bool.{Bool, true, false, cond}
use mathlib.Core.List.{List}
use lib.Dec.{eqb}
use lib.ListN.{length, set, length-append}
use borrow.Author.Tests.{eq-eqb, eqb-true, eqb-false}
use Rattle.limits.specs.Refusal.{number, setting, room, command}
use Rattle.aperture.specs.declared.Table.{Table}
use Rattle.units.specs.Units.{is_unit}
use Rattle.scan.specs.Scanner.{is_ended}
use Rattle.chunks.specs.Machine.{read}
use Rattle.gerber.specs.declared.Fed.{Fed}
use Rattle.gerber.specs.declared.Given.TheVariants as given·
use Rattle.gerber.specs.declared.Reader.{Reader}
use Rattle.gerber.specs.Reader.{State, fresh, latched, started, step_of, repeated, finished_on, finished}
use Rattle.gather.specs.declared.Gathering.{Gathering}
use Rattle.gather.specs.declared.Finished.TheVariants.{Done, Refused}
use Rattle.gather.specs.Gather as gather·
use Rattle.marks.specs.declared.Marks.{Marks}
use Rattle.marks.specs.Marks.{mark_of}
use Rattle.marks.specs.Theorems.{mark_at, Read, none, more}
use Rattle.gerber_film.specs.Places.{Gathers, begins, goes_on, PlaceTold}
use Rattle.marks.proofs.Kept.{mark_told}
use Rattle.gerber_film.proofs.Started.{Moved, read_moved}

-- ---- the end of the file
-- what is refused there has the end's place, or the place of the refusal that the reader holds
done_not : {A : Type 0} {n p : ℕ} → Done ≡ Refused n p → A
done_not e = absurd (let z : ◌≡◌ {A = ℕ} 0 1 = cc in omega arith)

same_place : {n p m q : ℕ} → Refused n p ≡ Refused m q → q ≡ p
same_place e = cc

module _ (g : Gathering) (starts : List ℕ) {n p : ℕ} where
  closed_place : (gather·.closed g starts).answer ≡ Refused n p → p ≡ g.reader.scanner.at
  closed_place e = go (gather·.is_complete g (length starts)) e
    where
      well : gather·.Ended
      well = record { answer = Done; starts = set starts g.count g.reader.trace.first }

      bad : gather·.Ended
      bad = record { answer = Refused (number room) g.reader.scanner.at; starts = starts }

      go : (t : Bool) → (let r : gather·.Ended = cond t well bad in r.answer ≡ Refused n p) → p ≡ g.reader.scanner.at
      go true e = done_not e
      go false e = same_place e

  -- a reader that holds no refusal
  ended_place : (gather·.finishing_by (gather·.verdict_of (finished_on g.reader).given) g starts).answer ≡ Refused n p → p ≡ g.reader.scanner.at
  ended_place e = go (is_ended g.reader.scanner.mode) e
    where
      well : Fed
      well = record { reader = g.reader; given = given·.Done; used = 0 }

      bad : Fed
      bad = repeated (latched g.reader (number command) g.reader.scanner.at)

      go : (t : Bool) → (let r : Fed = cond t well bad in (gather·.finishing_by (gather·.verdict_of r.given) g starts).answer ≡ Refused n p) → p ≡ g.reader.scanner.at
      go true e = closed_place e
      go false e = same_place e

  pub end_place : (gather·.finishing g starts).answer ≡ Refused n p →
      ((g.reader.refusal ≡ 0) × (p ≡ g.reader.scanner.at)) ⊎ (¬ (g.reader.refusal ≡ 0) × (p ≡ g.reader.place))
  unfolding gather·.finishing finished
  end_place e = go (eqb g.reader.refusal 0) refl e
    where
      go : (t : Bool) → eqb g.reader.refusal 0 ≡ t →
          (let r : Fed = cond t (finished_on g.reader) (repeated g.reader) in (gather·.finishing_by (gather·.verdict_of r.given) g starts).answer ≡ Refused n p) →
          ((g.reader.refusal ≡ 0) × (p ≡ g.reader.scanner.at)) ⊎ (¬ (g.reader.refusal ≡ 0) × (p ≡ g.reader.place))
      go true f e = inl (eqb-true g.reader.refusal 0 f, ended_place e)
      go false f e = inr (eqb-false g.reader.refusal 0 f, same_place e)

-- ---- chunk by chunk
-- the bytes so far, what has been gathered of them, and the marks
record Stands (bytes : List ℕ) (r : Reader) (m : Marks) : Type 0 where
  marks : Read bytes r.scanner.start m
  count : r.refusal ≡ 0 → r.scanner.at ≡ length bytes
  low : r.refusal ≡ 0 → r.scanner.start ≤ length bytes
  place : ¬ (r.refusal ≡ 0) → (r.place ≡ r.scanner.start) × (r.scanner.start < length bytes)

fresh_is : (unit : ℕ) → is_unit unit ≡ true → started unit ≡ fresh unit
unfolding started
fresh_is unit e = ap (λ (t : Bool). cond t (fresh unit) (latched (fresh unit) (number setting) 0)) e

module _ (t : Table) where
  -- a chunk is read by the reader, where it holds no refusal
  chunk_read : (h : gather·.Gathered) (chunk : List ℕ) → h.gathering.reader.refusal ≡ 0 →
      (gather·.goes_on t h chunk).gathering.reader ≡ (read (step_of t) 0 (record { reader = h.gathering.reader; path = h.path }) chunk).state.reader
  unfolding gather·.gathered
  chunk_read h chunk e = ap (λ (b : Bool). let r : gather·.Gathered = cond b taken kept in r.gathering.reader) (eq-eqb h.gathering.reader.refusal 0 e)
    where
      s : State
      s = record { reader = h.gathering.reader; path = h.path }

      n : gather·.Notes
      n = gather·.notes_of h.gathering h.apertures h.starts

      taken : gather·.Gathered
      taken = gather·.kept_of n (read (step_of t) 0 s chunk)

      kept : gather·.Gathered
      kept = gather·.together s n

  stands : (unit : ℕ) → is_unit unit ≡ true → {bytes : List ℕ} {h : gather·.Gathered} {m : Marks} → Gathers t unit bytes h m → length bytes < 2 ^ 64 → Stands bytes h.gathering.reader m
  stands unit w (begins path apertures starts) l =
      let f = fresh_is unit w in
      record {
        marks = none _;
        count = λ _. ap (λ (r : Reader). r.scanner.at) f;
        low = λ _. omega (arith, ap (λ (r : Reader). r.scanner.start) f);
        place = λ p. absurd (p (ap (λ (r : Reader). r.refusal) f));
      }
  stands unit w (goes_on {bytes} {h} {m} g e chunk) l =
      let k = stands unit w g (omega (arith, length-append bytes chunk)) in
      let r = h.gathering.reader in
      let at : r.scanner.at ≡ length bytes = k.count e in
      let below : r.scanner.start ≤ r.scanner.at = omega (arith, k.low e) in
      let moved = read_moved t chunk 0 (record { reader = r; path = h.path }) e below (omega (arith, length-append bytes chunk)) in
      let n = subst (Moved r.scanner (length chunk)) (sym (chunk_read h chunk e)) moved in
      record {
        marks = more k.marks chunk (gather·.goes_on t h chunk).gathering.reader.scanner.start (elim n.start [ inl q ↦ inr q | inr q ↦ inl (omega arith) ]);
        count = λ z. let c = n.count z in omega (arith, length-append bytes chunk);
        low = λ z. let c = n.low z in omega (arith, length-append bytes chunk);
        place = λ z. let c = n.place z in (c.0, omega (arith, length-append bytes chunk));
      }

pub place_told : PlaceTold
place_told t unit w bytes h m g l number place e = go (end_place h.gathering h.starts e)
  where
    s : Stands bytes h.gathering.reader m
    s = stands t unit w g l

    go : ((h.gathering.reader.refusal ≡ 0) × (place ≡ h.gathering.reader.scanner.at)) ⊎ (¬ (h.gathering.reader.refusal ≡ 0) × (place ≡ h.gathering.reader.place)) →
        mark_of m place ≡ mark_at bytes place
    go (inl f) = mark_told bytes h.gathering.reader.scanner.start m s.marks l place (inl (f.1 ∙ s.count f.0))
    go (inr f) = let p = s.place f.0 in mark_told bytes h.gathering.reader.scanner.start m s.marks l place (inr (f.1 ∙ p.0, p.1))
