-- GatherAnyChunks: byte by byte through the first chunk. Behind it the reader goes on with the second, or it holds a refusal, and the second changes nothing.
use mathlib.Core.Path.{◌≡◌, refl, sym, ap, ◌∙◌}
use mathlib.Core.Bool.{Bool, true, false}
use mathlib.Core.List.{List, [], ◌∷◌, ◌++◌}
use native.Mathlib.Omega.{arith}
use Prim.Native.Nat.{ℕ}
use borrow.Author.Tests.{eqb-true, ne_eqb}
use lib.Dec.{eqb}
use Rattle.aperture.specs.declared.Table.{Table}
use Rattle.chunks.specs.Machine.{goes, gives, fails}
use Rattle.gerber.specs.Reader.{State, Step, Fault, step_of}
use Rattle.gerber_file.proofs.Keeps as keeps·
use Rattle.gather.specs.Gather.{Notes, noted, Gathered, notes_of, together, goes_on}
use Rattle.gather.specs.Theorems.{GatherAnyChunks}
use Rattle.gather.proofs.Reading.{reading, after, reading_none, reading_cons, from_on, from_off}

-- a reader that holds a refusal has a number for it
is_refused : (f : Fault) (u : State) → keeps·.Held f u → eqb u.reader.refusal 0 ≡ false
is_refused f u h = ne_eqb u.reader.refusal 0 (λ e. omega (arith, h.refusal, h.not_zero, e))

module _ (t : Table) where
  abbrev then : List ℕ → Gathered → Gathered
  then b h = goes_on t h b

  parts : (a b : List ℕ) (s : State) (n : Notes) → s.reader.refusal ≡ 0 → reading t s n (a ++ b) ≡ then b (reading t s n a)
  parts [] b s n h = sym (ap (then b) (reading_none t s n) ∙ from_on t s n b h)
  parts (x ∷ a) b s n h = reading_cons t s n x (a ++ b) ∙ go (step_of t s x) (keeps·.step_keeps t s x) (parts a b) ∙ sym (ap (then b) (reading_cons t s n x a))
    where
      go : (y : Step) → keeps·.Keeps (keeps·.reading s x) y → ((u : State) (m : Notes) → u.reader.refusal ≡ 0 → reading t u m (a ++ b) ≡ then b (reading t u m a)) →
          after t n (a ++ b) y ≡ then b (after t n a y)
      go (goes u) k f = f u n (k.refusal ∙ h)
      go (gives e u) k f = f u (noted n e) (k.refusal ∙ h)
      go (fails e u) k f = sym (from_off t u n b (is_refused e u k))

pub gather_any_chunks : GatherAnyChunks
gather_any_chunks g t a b path apertures starts = go (eqb g.reader.refusal 0) refl
  where
    go : (z : Bool) → eqb g.reader.refusal 0 ≡ z →
        goes_on t (together (record { reader = g.reader; path = path }) (notes_of g apertures starts)) (a ++ b) ≡
        then t b (goes_on t (together (record { reader = g.reader; path = path }) (notes_of g apertures starts)) a)
    go true e =
        let s : State = record { reader = g.reader; path = path } in
        let n : Notes = notes_of g apertures starts in
        let h = eqb-true g.reader.refusal 0 e in
        from_on t s n (a ++ b) h ∙ parts t a b s n h ∙ sym (ap (then t b) (from_on t s n a h))
    go false e =
        let s : State = record { reader = g.reader; path = path } in
        let n : Notes = notes_of g apertures starts in
        from_off t s n (a ++ b) e ∙ sym (ap (then t b) (from_off t s n a e) ∙ from_off t s n b e)
