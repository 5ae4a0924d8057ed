-- NothingLost and FileStrokes: what reading all bytes gives is what W4's sentences give (gerber_file, Bytes), and the lists hold all of it.
use Prim.Native.Nat.{ℕ, suc, ◌+◌, ◌*◌, ◌≤◌, ◌<◌}
use native.Mathlib.Omega.{arith}
use mathlib.Core.Path.{◌≡◌, refl, sym, ap, ap₂, ◌∙◌, subst}
use mathlib.Core.Bool.{Bool, true, false, not, cond}
use mathlib.Core.List.{List, [], ◌∷◌, ◌++◌}
use mathlib.Core.Option.{Option}
use borrow.Author.Tests.{lt-ltb}
use lib.Dec.{ltb}
use lib.ListN.{length, get_or, take, set}
use lib.Seq.{take-suc-set, get_or-take}
use lib.IntN.{ℤ, pos}
use Rattle.integers.proofs.Tests.{and_true}
use Rattle.limits.specs.declared.Verdict.{Verdict}
use Rattle.limits.specs.declared.Verdict.TheVariants as verdict·
use Rattle.aperture.specs.declared.Table.{Table}
use Rattle.aperture.specs.Table.{is_held}
use Rattle.setting_list.specs.Settings.{table_of}
use Rattle.drawing.specs.Strokes.{Drawing, path_of}
use Rattle.drawing.proofs.Taken.{path_here}
use Rattle.language.specs.Grammar.{first, Placed, Reads, said}
use Rattle.language.proofs.Theorems.{each_file, heard_exactly}
use Rattle.chunks.specs.Machine as chunks·
use Rattle.gerber.specs.declared.Reader.{Reader}
use Rattle.gerber.specs.Reader.{step_of, finished}
use Rattle.gerber_file.specs.Strokes.{Drawn, flat}
use Rattle.gerber_file.specs.Theorems.{all_handed, All}
use Rattle.gerber_file.proofs.Chunking.{AllRead}
use Rattle.gerber_file.proofs.Bytes.{Matches}
use Rattle.gerber_file.proofs.Exact.{started_fresh, start, all_alike}
use Rattle.gather.specs.declared.Gathering.{Gathering}
use Rattle.gather.specs.declared.Finished.TheVariants.{Done, Refused}
use Rattle.gather.specs.Gather.{Notes, all_noted, Gathered, kept_of, gathered, Ended, is_complete, closed, verdict_of, finishing_by, finishing}
use Rattle.gather.proofs.Lengths.{read_as_long}
use Rattle.gerber_film.specs.File.{Asked, end_of, drawn_from, left, sentences, no_stroke}
use Rattle.gerber_film.specs.Theorems.{NoneLost, NothingLost, SameStrokes, FileStrokes}
use Rattle.gerber_film.proofs.Noted.{apertures_of, firsts_of, AllStand, all_stand}
use Rattle.gerber_film.proofs.Ends.{last_end, read_ends}
use Rattle.gerber_film.proofs.Long.{Long, drawn_long}
use Rattle.gerber_film.proofs.Paths.{marks, few, between, count_handed, length_apertures, aperture_at, handed_marks}

-- ---- the end of a file
not_done : {A : Type 0} {n place : ℕ} → Refused n place ≡ Done → A
not_done e = absurd (let z : ◌≡◌ {A = ℕ} 0 1 = cc in omega arith)

-- Done is said only where the end of the last stroke is stored behind the starts
module _ (g : Gathering) (starts : List ℕ) where
  closed_starts : (closed g starts).answer ≡ Done → (closed g starts).starts ≡ set starts g.count g.reader.trace.first
  closed_starts = go (is_complete g (length starts))
    where
      go : (b : Bool) → let e : Ended = cond b (record { answer = Done; starts = set starts g.count g.reader.trace.first })
          (record { answer = Refused 7 g.reader.scanner.at; starts = starts }) in e.answer ≡ Done → e.starts ≡ set starts g.count g.reader.trace.first
      go true e = refl
      go false e = not_done e

  by_starts : (v : Verdict) → (finishing_by v g starts).answer ≡ Done → (finishing_by v g starts).starts ≡ set starts g.count g.reader.trace.first
  by_starts verdict·.Passed e = closed_starts e
  by_starts (verdict·.Refused n place) e = not_done e

  done_starts : (finishing g starts).answer ≡ Done → (finishing g starts).starts ≡ set starts g.count g.reader.trace.first
  unfolding finishing
  done_starts e = by_starts (verdict_of (finished g.reader).given) e

  -- and it is said where nothing is lost and the starts have a place for that
  all_done : g.lost ≡ false → g.count < length starts → verdict_of (finished g.reader).given ≡ verdict·.Passed → (finishing g starts).answer ≡ Done
  unfolding finishing
  all_done e h k =
      let c : is_complete g (length starts) ≡ true = and_true (not g.lost) (ltb g.count (length starts)) (ap not e) (lt-ltb g.count (length starts) h) in
      ap (λ (v : Verdict). (finishing_by v g starts).answer) k ∙ rw c refl

-- ---- a file
module _ (unit : ℕ) (settings l : List ℕ) (p : List ℤ) (a s : List ℕ) (h : Asked unit l p a s) where
  abbrev t : Table
  t = (table_of settings).table

  -- what reading all its bytes gives, and its strokes noted in lists without any
  abbrev pub all : AllRead
  all = chunks·.read (step_of t) 0 (start unit p) l

  abbrev pub none_noted : Notes
  none_noted = record { apertures = a; starts = s; count = 0; lost = false }

  abbrev found : Notes
  found = all_noted none_noted all.given

  pub left_is : left unit settings l p a s ≡ kept_of none_noted all
  unfolding gathered
  left_is = ap (λ (z : Reader). gathered (record { reader = z; count = 0; lost = false }) t l p a s) (started_fresh unit h.is_unit_lem)

  module _ (fs : List Placed) (bad : Option ℕ) (reads : Reads first 0 l fs bad) where
    abbrev ds : List Drawn
    ds = (sentences unit settings l p a s fs bad).strokes

    pub matches : Matches [] all (sentences unit settings l p a s fs bad)
    matches = all_alike t unit p l _ h.size (heard_exactly l fs bad h.size reads)

    long : All Long ds
    long = drawn_long unit (is_held t) (length p) (said (pos 0) (pos 0) fs) bad

    -- ---- no stroke is lost
    room : 4 * length ds ≤ length p
    room = let f = few all.state.path matches.stand long (omega arith) in omega (arith, f, read_as_long t l 0 (start unit p))

    same_count : length all.given ≡ length ds
    same_count = ap length matches.strokes ∙ count_handed ds

    stands : AllStand none_noted found all.given
    stands = all_stand all.given none_noted (record { apertures = omega (arith, same_count, room, h.apertures); starts = omega (arith, same_count, room, h.starts) })

    place_left : found.count < length found.starts
    place_left = omega (arith, stands.count, stands.starts_length, same_count, room, h.starts)

    pub none_lost : NoneLost (kept_of none_noted all)
    none_lost = record { kept = stands.lost; done = all_done (kept_of none_noted all).gathering found.starts stands.lost place_left }

    -- ---- the lists hold W4's strokes
    apertures_are : take found.count found.apertures ≡ apertures_of (all_handed ds)
    apertures_are = stands.apertures ∙ ap apertures_of matches.strokes

    abbrev closing : ℕ
    closing = all.state.reader.trace.first

    closing_is : closing ≡ last_end 0 (all_handed ds)
    closing_is = read_ends t l 0 (start unit p) (omega arith) ∙ ap (last_end 0) matches.strokes

    abbrev starts : List ℕ
    starts = set found.starts found.count closing

    starts_are : take (suc found.count) starts ≡ marks 0 ds
    starts_are =
        take-suc-set found.starts found.count closing place_left ∙
        ap (λ (z : List ℕ). z ++ (closing ∷ [])) (stands.starts ∙ ap firsts_of matches.strokes) ∙
        ap (λ (z : ℕ). firsts_of (all_handed ds) ++ (z ∷ [])) closing_is ∙
        handed_marks all.state.path matches.stand

    start_at : (k : ℕ) → k ≤ length ds → get_or (marks 0 ds) k 0 ≡ get_or starts k 0
    start_at k m =
        sym (ap (λ (z : List ℕ). get_or z k 0) starts_are) ∙ get_or-take (suc found.count) starts k 0 (omega (arith, m, stands.count, same_count))

    path_at : (k : ℕ) → k < length ds → path_of starts all.state.path k ≡ flat (get_or ds k no_stroke).points
    path_at k m =
        let b = between all.state.path matches.stand long k m in
        let next : suc k ≡ k + 1 = omega arith in
        let from = get_or (marks 0 ds) k 0 in
        let to = get_or (marks 0 ds) (suc k) 0 in
        let f : to ≡ get_or starts (k + 1) 0 = ap (λ (i : ℕ). get_or (marks 0 ds) i 0) next ∙ start_at (k + 1) (omega (arith, m)) in
        sym (path_here starts all.state.path k from to (start_at k (omega (arith, m))) f b.ordered b.within) ∙ b.path

    same_strokes : (d : Drawing) → d.apertures ≡ apertures_of (all_handed ds) → d.starts ≡ starts → d.entries ≡ all.state.path → SameStrokes d ds
    same_strokes d ea es ep = record {
      count = ap length ea ∙ length_apertures ds;
      aperture = λ k m. ap (λ (z : List ℕ). get_or z k 0) ea ∙ aperture_at ds k;
      path = λ k m. ap₂ (λ (z : List ℕ) (q : List ℤ). path_of z q k) es ep ∙ path_at k m;
    }

    abbrev SameIfDone : Gathered → Type 0
    SameIfDone g = (end_of g).answer ≡ Done → SameStrokes (drawn_from settings g) ds

    same_if_done : SameIfDone (kept_of none_noted all)
    same_if_done e =
        let g = kept_of none_noted all in same_strokes (drawn_from settings g) apertures_are (done_starts g.gathering g.starts e) refl

    file_drawn : SameIfDone (left unit settings l p a s)
    file_drawn = subst SameIfDone (sym left_is) same_if_done

  -- every file is read in some way
  nothing_lost_of : NoneLost (left unit settings l p a s)
  nothing_lost_of = let r = each_file l in subst NoneLost (sym left_is) (none_lost r.0 r.1.0 r.1.1)

pub nothing_lost : NothingLost
nothing_lost = nothing_lost_of

pub file_strokes : FileStrokes
file_strokes unit settings l p a s h e fs bad reads = file_drawn unit settings l p a s h fs bad reads e
