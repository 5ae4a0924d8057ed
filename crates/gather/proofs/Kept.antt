-- GatherKeeps: a stroke is stored behind those noted before, in lists that stay as long as they were.
use Prim.Native.Nat.{ℕ, ◌+◌, ◌≤◌}
use native.Mathlib.Omega.{arith}
use mathlib.Core.Path.{◌≡◌, refl, sym, ap, ◌∙◌}
use mathlib.Core.Bool.{Bool, true, false, cond}
use mathlib.Core.List.{List, [], ◌∷◌}
use lib.Dec.{eqb}
use lib.ListN.{length, take, set, length-set}
use lib.Seq.{take-take, take-set-le}
use lib.IntN.{ℤ}
use Rattle.aperture.specs.declared.Table.{Table}
use Rattle.chunks.specs.Machine as chunks·
use Rattle.gerber.specs.Reader.{State, Stroke, step_of}
use Rattle.gather.specs.declared.Gathering.{Gathering}
use Rattle.gather.specs.Gather.{Notes, has_place, noted, all_noted, notes_of, together, kept_of, gathered}
use Rattle.gather.specs.Theorems.{Keeps, GatherKeeps}
use Rattle.gather.proofs.Lengths.{read_as_long}

-- ---- a list that keeps its length and its first n entries
record Same (n : ℕ) (l m : List ℕ) : Type 0 where
  long : length m ≡ length l
  first : take n m ≡ take n l

stored : (l : List ℕ) (n x : ℕ) → Same n l (set l n x)
stored l n x = record { long = length-set l n x; first = take-set-le n l n x (omega arith) }

-- fewer entries are kept too
both : {n k : ℕ} {l m o : List ℕ} → n ≤ k → Same n l m → Same k m o → Same n l o
both {n} {k} {l} {m} {o} h p q =
    record {
      long = q.long ∙ p.long;
      first = sym (take-take n k o h) ∙ ap (take n) q.first ∙ take-take n k m h ∙ p.first;
    }

-- ---- notes
record NotesKept (n m : Notes) : Type 0 where
  apertures : Same n.count n.apertures m.apertures
  starts : Same n.count n.starts m.starts
  count : n.count ≤ m.count

unchanged : (n : Notes) (lost : Bool) → NotesKept n (record { apertures = n.apertures; starts = n.starts; count = n.count; lost = lost })
unchanged n lost = record { apertures = record { long = refl; first = refl }; starts = record { long = refl; first = refl }; count = omega arith }

noted_kept : (n : Notes) (e : Stroke) → NotesKept n (noted n e)
unfolding noted
noted_kept n e = go (has_place n)
  where
    go : (b : Bool) → NotesKept n (cond b
        (record { apertures = set n.apertures n.count e.aperture; starts = set n.starts n.count e.first; count = n.count + 1; lost = n.lost })
        (record { apertures = n.apertures; starts = n.starts; count = n.count; lost = true }))
    go true = record { apertures = stored n.apertures n.count e.aperture; starts = stored n.starts n.count e.first; count = omega arith }
    go false = unchanged n true

then : {n m o : Notes} → NotesKept n m → NotesKept m o → NotesKept n o
then p q =
    record {
      apertures = both p.count p.apertures q.apertures;
      starts = both p.count p.starts q.starts;
      count = omega (arith, p.count, q.count);
    }

all_kept : (l : List (chunks·.Given Stroke)) (n : Notes) → NotesKept n (all_noted n l)
unfolding all_noted
all_kept [] n = unchanged n n.lost
all_kept (e ∷ l) n = then (noted_kept n e.thing) (all_kept l (noted n e.thing))

-- ---- a call
module _ (g : Gathering) (t : Table) (chunk : List ℕ) (path : List ℤ) (apertures starts : List ℕ) where
  abbrev was : State
  was = record { reader = g.reader; path = path }

  abbrev notes : Notes
  notes = notes_of g apertures starts

  keeps : (s : State) (n : Notes) → length s.path ≡ length path → NotesKept notes n → Keeps g path apertures starts (together s n)
  keeps s n h k =
      record {
        path_length = h;
        apertures_length = k.apertures.long;
        starts_length = k.starts.long;
        earlier_apertures = k.apertures.first;
        earlier_starts = k.starts.first;
        counted = k.count;
      }

  by_test : (b : Bool) → Keeps g path apertures starts (cond b (kept_of notes (chunks·.read (step_of t) 0 was chunk)) (together was notes))
  by_test true =
      let r = chunks·.read (step_of t) 0 was chunk in
      keeps r.state (all_noted notes r.given) (read_as_long t chunk 0 was) (all_kept r.given notes)
  by_test false = keeps was notes refl (unchanged notes g.lost)

pub gather_keeps : GatherKeeps
unfolding gathered
gather_keeps g t chunk path apertures starts = by_test g t chunk path apertures starts (eqb g.reader.refusal 0)
