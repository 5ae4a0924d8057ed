-- What reading all bytes of a file gives, and what the second reading gives of what the scanner hears of them, side by side.
use Prim.Native.Nat.{ℕ, suc, ◌+◌, ◌<◌}
use mathlib.Core.Path.{◌≡◌, refl, sym, ap, ◌∙◌, subst}
use mathlib.Core.Bool.{Bool, true, false, cond}
use mathlib.Core.List.{List, [], ◌∷◌, ◌++◌}
use mathlib.Core.Option.{Option, none, some}
use native.Mathlib.Omega.{arith}
use borrow.Author.Tests.{eq-eqb}
use lib.ListN.{length, take, drop, length-append}
use lib.IntN.{ℤ}
use Rattle.limits.specs.Refusal.{number, command}
use Rattle.aperture.specs.declared.Table.{Table}
use Rattle.aperture.specs.Table.{is_held}
use Rattle.scan.specs.declared.Mode.{Mode}
use Rattle.scan.specs.declared.Mode.TheVariants.{Bad, Outside, Whole, Number, Inside}
use Rattle.scan.specs.declared.Scanner.{Scanner}
use Rattle.scan.specs.Scanner.{Word, Heard, stepped, is_ended, word_of, heard_word, heard_by, heard}
use Rattle.chunks.specs.Machine as chunks·
use Rattle.gerber.specs.declared.Reader.{Reader}
use Rattle.gerber.specs.declared.Given.TheVariants as given·
use Rattle.gerber.specs.Reader.{
  State,
  Stroke,
  Step,
  latched,
  repeated,
  finished_on,
  finished,
  obeyed_word,
  acted_by,
  acted,
  step_of,
}
use Rattle.gerber_file.specs.Calls.{Handed, told, fault_of}
use Rattle.plane.specs.Point.{Pt}
use Rattle.gerber_file.specs.Strokes.{Sheet, Drawn, Drawing, Outcome, onward, hands, refused, ahead, drawn, badly, flat, twice}
use Rattle.gerber_file.specs.Theorems.{handed, all_handed, Stand, none_left, and_next}
use Rattle.gerber_file.proofs.Keeps.{Keeps, reading, obeyed_keeps}
use Rattle.gerber_file.proofs.Chunking.{AllRead}
use Rattle.gerber_file.proofs.Sim.{Sim, Agree, both_go, both_give, both_fail}
use Rattle.gerber_file.proofs.Entries.{length_flat}
use Rattle.gerber_file.proofs.Follows.{follows}
use Rattle.gerber_file.proofs.Slices.{begins_with, and_then}

-- all bytes in both readings; `done` are the entries of the strokes handed out before
pub record Matches (done : List ℤ) (r : AllRead) (d : Drawing) : Type 0 where
  pub strokes : r.given ≡ all_handed d.strokes
  pub refusal : told r.failure r.state.reader ≡ d.refusal
  pub before : take (length done) r.state.path ≡ done
  pub stand : Stand r.state.path (length done) d.strokes

-- ---- what a state holds
-- another scanner changes nothing of it
other_scanner : {unit space : ℕ} {done : List ℤ} {s : State} {q : Sheet} (b : ℕ) → Sim unit space done s q → Sim unit space done (reading s b) q
other_scanner b h =
    record {
      same_unit = h.same_unit;
      room = h.room;
      begins = h.begins;
      entries = h.entries;
      filled = h.filled;
      fits = h.fits;
      holds = h.holds;
      point = h.point;
      aperture = h.aperture;
    }

-- what is handed out makes the beginning longer by its entries
length_done : (done : List ℤ) (ps : List Pt) → length (done ++ flat ps) ≡ length done + twice ps
length_done done ps = length-append done (flat ps) ∙ ap (λ (z : ℕ). length done + z) (length_flat ps)

-- the strokes handed out stand at the path's beginning
holds_done : {unit space : ℕ} {done : List ℤ} {s : State} {q : Sheet} → Sim unit space done s q → take (length done) s.path ≡ done
holds_done {done = done} {s = s} {q = q} h =
    begins_with done (flat q.begun) s.path
    (subst (λ (n : ℕ). take n s.path ≡ done ++ flat q.begun) (h.filled ∙ sym (length_done done q.begun)) h.holds)

-- the scanner counts each byte, while there are fewer than 2^64
one_further : (z : Scanner) (b k : ℕ) → z.at ≡ k → k < 18446744073709551615 → (stepped z b).at ≡ suc k
unfolding stepped
one_further z b k e h = omega arith

module _ (t : Table) (unit space : ℕ) where
  abbrev draw : Sheet → Heard → Drawing
  draw q h = drawn unit (is_held t) space q h.said h.bad

  abbrev read_all : ℕ → State → List ℕ → AllRead
  read_all = chunks·.read (step_of t)

  -- ---- the end of the file: Done after M02, else 14 at the end
  told_end : (r : Reader) → r.refusal ≡ 0 → told none r ≡ badly (cond (is_ended r.scanner.mode) none (some r.scanner.at))
  unfolding finished
  told_end r h = ap (λ (b : Bool). fault_of (cond b (finished_on r) (repeated r)).given) (eq-eqb r.refusal 0 h) ∙ go (is_ended r.scanner.mode)
    where
      go : (b : Bool) → fault_of (cond b (record { reader = r; given = given·.Done; used = 0 }) (repeated (latched r (number command) r.scanner.at))).given ≡
          badly (cond b none (some r.scanner.at))
      go true = refl
      go false = refl

  -- ---- a command
  -- what a step and what an outcome come to, before the bytes and the commands after it
  abbrev after_step : ℕ → List ℕ → Step → AllRead
  after_step k l r =
      elim r as (λ _. AllRead) [
        | chunks·.goes u ↦ read_all (suc k) u l
        | chunks·.gives e u ↦ chunks·.ahead (record { thing = e; used = suc k }) (read_all (suc k) u l)
        | chunks·.fails f u ↦ record { given = []; failure = some f; state = u }
      ]

  abbrev after_outcome : ℕ → Heard → Outcome → Drawing
  after_outcome place h o =
      elim o as (λ _. Drawing) [
        | onward q ↦ draw q h
        | hands d q ↦ ahead d (draw q h)
        | refused n ↦ record { strokes = []; refusal = some (record { number = n; place = place }) }
      ]

  -- a stroke handed out: its entries stand behind those of the strokes before
  stands_next : (done : List ℤ) (d : Drawn) (path : List ℤ) (ds : List Drawn) → d.first ≡ length done → take (length (done ++ flat d.points)) path ≡ done ++ flat d.points →
      Stand path (length (done ++ flat d.points)) ds → Stand path (length done) (d ∷ ds)
  stands_next done d path ds e h k =
      and_next e
      (ap (λ (n : ℕ). take (twice d.points) (drop n path)) e ∙ ap (λ (n : ℕ). take n (drop (length done) path)) (sym (length_flat d.points)) ∙
      and_then done (flat d.points) path h) (subst (λ (n : ℕ). Stand path n ds) (length_done done d.points) k)

  -- and it is told alike in both readings
  told_alike : (k : ℕ) (e : Stroke) (d : Drawn) → e.aperture ≡ d.aperture → e.first ≡ d.first → e.length ≡ twice d.points → d.used ≡ suc k →
      record { thing = e; used = suc k } ≡ handed d
  told_alike k e d ea ef el du = rw (sym ea, sym ef, sym el, du) refl

  -- the bytes after a byte, from any state with this scanner
  abbrev Onward : ℕ → Scanner → List ℕ → Type 0
  Onward k z l = (done : List ℤ) (u : State) (q : Sheet) → Sim unit space done u q → u.reader.refusal ≡ 0 → u.reader.scanner ≡ z →
      Matches done (read_all (suc k) u l) (draw q (heard z l))

  agreed : (k place used : ℕ) (l : List ℕ) (done : List ℤ) (s : State) (r : Step) (o : Outcome) → Agree unit space place used done r o → Keeps s r → used ≡ suc k →
      s.reader.refusal ≡ 0 → Onward k s.reader.scanner l → Matches done (after_step k l r) (after_outcome place (heard s.reader.scanner l) o)
  unfolding all_handed
  agreed k place used l done s r o (both_go {s = u} {q = q} sim) kept n h f = f done u q sim (kept.refusal ∙ h) kept.scanner
  agreed k place used l done s r o (both_give {s = u} {q = q} {e = e} {d = d} sim ea ef el df du) kept n h f =
      let m = f (done ++ flat d.points) u q sim (kept.refusal ∙ h) kept.scanner in
      let rest = read_all (suc k) u l in
      record {
        strokes = ap (λ (z : Handed). z ∷ rest.given) (told_alike k e d ea ef el (du ∙ n)) ∙ ap (λ (z : List Handed). handed d ∷ z) m.strokes;
        refusal = m.refusal;
        before = begins_with done (flat d.points) rest.state.path m.before;
        stand = stands_next done d rest.state.path _ df m.before m.stand;
      }
  agreed k place used l done s r o (both_fail {s = u} holds first) kept n h f =
      record { strokes = refl; refusal = refl; before = ap (λ (z : ℕ). take z u.path) (sym first) ∙ holds; stand = none_left }

  -- ---- a byte
  word_alike : (w : Option Word) (k : ℕ) (l : List ℕ) (done : List ℤ) (s : State) (q : Sheet) → Sim unit space done s q → s.reader.refusal ≡ 0 →
      s.reader.scanner.at ≡ suc k → Onward k s.reader.scanner l →
      Matches done (after_step k l (obeyed_word t s w)) (draw q (heard_word w s.reader.scanner (heard s.reader.scanner l)))
  unfolding drawn
  word_alike none k l done s q sim h n f = f done s q sim h refl
  word_alike (some w) k l done s q sim h n f =
      let place = s.reader.scanner.start in
      let used = s.reader.scanner.at in
      agreed k place used l done s _ _ (follows t unit space place used done s q w sim) (obeyed_keeps t s place w) n h f

  acted_alike : (m : Mode) (k : ℕ) (l : List ℕ) (done : List ℤ) (s : State) (q : Sheet) → Sim unit space done s q → s.reader.refusal ≡ 0 → s.reader.scanner.at ≡ suc k →
      Onward k s.reader.scanner l → Matches done (after_step k l (acted_by m t s)) (draw q (heard_by m s.reader.scanner (heard s.reader.scanner l)))
  unfolding drawn all_handed
  acted_alike Bad k l done s q sim h n f = record { strokes = refl; refusal = refl; before = holds_done sim; stand = none_left }
  acted_alike (Outside g) k l done s q sim h n f = f done s q sim h refl
  acted_alike (Whole c) k l done s q sim h n f = word_alike (word_of c s.reader.scanner.x s.reader.scanner.y) k l done s q sim h n f
  acted_alike (Number a sign i v) k l done s q sim h n f = f done s q sim h refl
  acted_alike (Inside p) k l done s q sim h n f = f done s q sim h refl

  -- ---- all bytes
  pub bytes_alike : (l : List ℕ) (k : ℕ) (done : List ℤ) (s : State) (q : Sheet) → Sim unit space done s q → s.reader.refusal ≡ 0 → s.reader.scanner.at ≡ k →
      k + length l < 18446744073709551616 → Matches done (read_all k s l) (draw q (heard s.reader.scanner l))
  unfolding chunks·.read heard drawn all_handed step_of acted
  bytes_alike [] k done s q sim h n lt = record { strokes = refl; refusal = told_end s.reader h; before = holds_done sim; stand = none_left }
  bytes_alike (b ∷ l) k done s q sim h n lt =
      let next = stepped s.reader.scanner b in
      let at : next.at ≡ suc k = one_further s.reader.scanner b k n (omega arith) in
      acted_alike next.mode k l done (reading s b) q (other_scanner b sim) h at
      (λ done u q sim h e.
      subst (λ (z : Scanner). Matches done (read_all (suc k) u l) (draw q (heard z l))) e
      (bytes_alike l (suc k) done u q sim h (ap (λ (z : Scanner). z.at) e ∙ at) (omega arith)))
