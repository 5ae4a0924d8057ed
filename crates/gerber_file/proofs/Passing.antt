-- What is given passes a row call's checks of its path, and its aperture is in use: an invariant of the second reading, and with it of the strokes given.
use Prim.Native.Nat.{ℕ, suc, ◌+◌, ◌%◌, ◌≤◌}
use native.Mathlib.Omega.{arith}
use mathlib.Core.Path.{◌≡◌, refl, sym, ap, subst, ◌∙◌}
use mathlib.Core.Bool.{Bool, true, false, not, cond, ◌&&◌}
use mathlib.Core.List.{List, [], ◌∷◌, ◌++◌}
use mathlib.Core.Option.{Option, none, some}
use lib.Dec.{leb, ltb, eqb}
use lib.ListN.{length, length-append}
use lib.IntN.{ℤ, pos}
use borrow.Author.Tests.{ltb-false, le-leb, eq-eqb, not-false}
use Rattle.integers.proofs.Tests.{and_both, and_true}
use Rattle.limits.specs.Sizes.{entries_max, in_range}
use Rattle.limits.specs.Refusal as refusal·
use Rattle.limits.specs.declared.Verdict.TheVariants.{Passed}
use Rattle.limits.proofs.Verdicts as verdicts·
use Rattle.checks.specs.Checks.{path_verdict, coordinate_from, coordinate_verdict}
use Rattle.aperture.specs.declared.Table.{Table}
use Rattle.aperture.specs.Table.{is_held}
use Rattle.scan.specs.Scanner.{Word, choose, move, line, end, Said}
use Rattle.language.specs.Grammar.{said}
use Rattle.language.specs.Theorems.{EachFile}
use Rattle.gerber.specs.declared.Reader.{Reader}
use Rattle.gerber.specs.Reader.{Fault}
use Rattle.plane.specs.Point.{Pt}
use Rattle.gerber_file.specs.Strokes.{Sheet, Drawn, Drawing, Outcome, onward, hands, refused, blank, twice, inside, flat}
use Rattle.gerber_file.specs.Strokes.{ends_of, number_of, joined, point_of, extends, line_from, obeys, ahead, drawn}
use Rattle.gerber_file.specs.Calls.{Handed}
use Rattle.gerber_file.specs.Theorems.{all_handed, Stand, none_left, and_next, ExactlyThese, ExactStrokes, Passes, All, no_more, one_more, GivenPass}
use Rattle.gerber_file.proofs.Entries.{length_flat}

-- ---- the checks of a path
abbrev Inside : Pt → Type 0
Inside p = inside p ≡ true

-- 1 to 4,096 points have an even number of entries, up to 8,192
length_passes : (ps : List Pt) → 1 ≤ length ps → length ps ≤ 4096 → path_verdict (flat ps) ≡ Passed
length_passes ps least most =
    let h = length_flat ps in
    let n = length (flat ps) in
    sym
    (verdicts·.passed refusal·.path
    (and_true (leb 1 n) (eqb (n % 2) 0 && leb n entries_max) (le-leb 1 n (omega arith))
    (and_true (eqb (n % 2) 0) (leb n entries_max) (eq-eqb (n % 2) 0 (omega arith)) (le-leb n entries_max (omega arith)))))

in_range_lem : (p : Pt) → Inside p → (in_range p.x ≡ true) × (in_range p.y ≡ true)
unfolding in_range
in_range_lem p e = and_both _ _ e

-- an entry in range leaves the check to those behind it
good_first : (i : ℕ) (z : ℤ) (l : List ℤ) → in_range z ≡ true → coordinate_from i (z ∷ l) ≡ coordinate_from (suc i) l
unfolding coordinate_from
good_first i z l e = rw (coordinate_from, e)

coordinates_pass : (i : ℕ) {ps : List Pt} → All Inside ps → coordinate_from i (flat ps) ≡ Passed
unfolding coordinate_from flat
coordinates_pass i no_more = refl
coordinates_pass i (one_more {a = p} {l = ps} h hs) =
    good_first i p.x (p.y ∷ flat ps) (in_range_lem p h).0 ∙ good_first (suc i) p.y (flat ps) (in_range_lem p h).1 ∙ coordinates_pass (suc (suc i)) hs

-- ---- the invariant
-- a stroke of the second reading passes
pub record PassesDrawn (t : Table) (d : Drawn) : Type 0 where
  pub path : path_verdict (flat d.points) ≡ Passed
  pub coordinates : coordinate_verdict (flat d.points) ≡ Passed
  pub held : is_held t d.aperture ≡ true

-- the points of a stroke with the aperture n
record Fine (t : Table) (ps : List Pt) (n : ℕ) : Type 0 where
  least : 2 ≤ length ps
  most : length ps ≤ 4096
  points : All Inside ps
  held : is_held t n ≡ true

-- of the open stroke, if one is open
abbrev FineIfOpen : Table → List Pt → ℕ → Type 0
FineIfOpen t [] n = Unit
FineIfOpen t (p ∷ ps) n = Fine t (p ∷ ps) n

abbrev InsideIfAny : Option Pt → Type 0
InsideIfAny none = Unit
InsideIfAny (some p) = Inside p

abbrev HeldIfAny : Table → Option ℕ → Type 0
HeldIfAny t none = Unit
HeldIfAny t (some n) = is_held t n ≡ true

record Sound (t : Table) (q : Sheet) : Type 0 where
  point : InsideIfAny q.point
  aperture : HeldIfAny t q.aperture
  begun : FineIfOpen t q.begun (number_of q.aperture)

-- what a command comes to
data Left (t : Table) : Outcome → Type 0 where
  goes_on : {q : Sheet} → Sound t q → Left t (onward q)
  hands_out : {d : Drawn} {q : Sheet} → PassesDrawn t d → Sound t q → Left t (hands d q)
  stops : {n : ℕ} → Left t (refused n)

-- by a test
left_cond : {t : Table} {a b : Outcome} (c : Bool) → (c ≡ true → Left t a) → (c ≡ false → Left t b) → Left t (cond c a b)
left_cond true f g = f refl
left_cond false f g = g refl

fine_passes : {t : Table} {ps : List Pt} {n : ℕ} (first used : ℕ) → Fine t ps n → PassesDrawn t (record { aperture = n; first = first; points = ps; used = used })
fine_passes {ps = ps} first used f = record { path = length_passes ps (omega (arith, f.least)) f.most; coordinates = coordinates_pass 0 f.points; held = f.held }

-- ---- one command keeps it
all_append : {A : Type 0} {P : A → Type 0} {k l : List A} → All P k → All P l → All P (k ++ l)
all_append no_more h = h
all_append (one_more p ps) h = one_more p (all_append ps h)

module _ (t : Table) (unit space : ℕ) where
  ends_sound : (ps : List Pt) (n first used : ℕ) (p : Option Pt) (a : Option ℕ) → FineIfOpen t ps n → InsideIfAny p → HeldIfAny t a → Left t (ends_of ps n first used p a)
  ends_sound [] n first used p a f i h = goes_on (record { point = i; aperture = h; begun = tt })
  ends_sound (x ∷ xs) n first used p a f i h = hands_out (fine_passes first used f) (record { point = i; aperture = h; begun = tt })

  -- 2 to 4,096 points stay so many
  joined_fine : (ps : List Pt) (from to : Pt) (n : ℕ) → FineIfOpen t ps n → Inside from → Inside to → is_held t n ≡ true → length (joined ps from to) ≤ 4096 →
      FineIfOpen t (joined ps from to) n
  joined_fine [] from to n f i j h k = record { least = omega arith; most = k; points = one_more i (one_more j no_more); held = h }
  joined_fine (p ∷ ps) from to n f i j h k =
      record { least = omega (arith, length-append ps (to ∷ [])); most = k; points = all_append f.points (one_more j no_more); held = h }

  -- with a current point and an aperture
  extends_sound : (q : Sheet) (from to : Pt) (n : ℕ) → FineIfOpen t q.begun n → Inside from → is_held t n ≡ true → q.aperture ≡ some n →
      Left t (extends unit (is_held t) space q from to)
  extends_sound q from to n f i h e =
      let m = length (joined q.begun from to) in
      left_cond (ltb 4096 m) (λ _. stops) λ k.
      left_cond (not (inside to)) (λ _. stops) λ j.
      left_cond (ltb space (q.entries + twice (joined q.begun from to))) (λ _. stops) λ _.
      goes_on
      (record {
        point = not-false (inside to) j;
        aperture = subst (HeldIfAny t) (sym e) h;
        begun =
            subst (λ (a : Option ℕ). FineIfOpen t (joined q.begun from to) (number_of a)) (sym e)
            (joined_fine q.begun from to n f i (not-false (inside to) j) h (ltb-false 4096 m k));
      })

  line_sound : (q : Sheet) (p : Option Pt) (a : Option ℕ) (to : Pt) → FineIfOpen t q.begun (number_of a) → InsideIfAny p → HeldIfAny t a → q.aperture ≡ a →
      Left t (line_from unit (is_held t) space q p a to)
  line_sound q none a to f i h e = stops
  line_sound q (some from) none to f i h e = stops
  line_sound q (some from) (some n) to f i h e = extends_sound q from to n f i h e

  obeys_sound : (q : Sheet) (used : ℕ) (w : Word) → Sound t q → Left t (obeys unit (is_held t) space q used w)
  obeys_sound q used (choose n) s =
      left_cond (is_held t n) (λ h. ends_sound q.begun (number_of q.aperture) q.entries used q.point (some n) s.begun s.point h) λ _. stops
  obeys_sound q used (move x y) s =
      left_cond (inside (point_of unit (is_held t) space x y))
      (λ i. ends_sound q.begun (number_of q.aperture) q.entries used (some (point_of unit (is_held t) space x y)) q.aperture s.begun i s.aperture) λ _. stops
  obeys_sound q used (line x y) s = line_sound q q.point q.aperture (point_of unit (is_held t) space x y) s.begun s.point s.aperture refl
  obeys_sound q used end s = ends_sound q.begun (number_of q.aperture) q.entries used q.point q.aperture s.begun s.point s.aperture

  -- ---- and so do all
  -- the commands behind one, which give f
  behind : {o : Outcome} (f : Sheet → Drawing) (place : ℕ) → ((q : Sheet) → Sound t q → All (PassesDrawn t) (f q).strokes) → Left t o →
      All (PassesDrawn t)
      (elim o as (λ _. Drawing) [
        | onward q ↦ f q
        | hands d q ↦ ahead d (f q)
        | refused n ↦ record { strokes = []; refusal = some (record { number = n; place = place }) }
      ]).strokes
  behind f place pass (goes_on {q} s) = pass q s
  behind f place pass (hands_out {q = q} d s) = one_more d (pass q s)
  behind f place pass stops = no_more

  sound_pass : (q : Sheet) (cs : List Said) (bad : Option ℕ) → Sound t q → All (PassesDrawn t) (drawn unit (is_held t) space q cs bad).strokes
  unfolding drawn
  sound_pass q [] bad s = no_more
  sound_pass q (c ∷ cs) bad s =
      behind (λ q. drawn unit (is_held t) space q cs bad) c.place (λ q s. sound_pass q cs bad s) (obeys_sound q c.behind c.word s)

-- a file starts with a blank sheet
pub drawn_pass : (unit space : ℕ) (t : Table) (cs : List Said) (bad : Option ℕ) → All (PassesDrawn t) (drawn unit (is_held t) space blank cs bad).strokes
drawn_pass unit space t cs bad = sound_pass t unit space blank cs bad (record { point = tt; aperture = tt; begun = tt })

-- ---- and the strokes given pass where the path holds their points
-- by a list
abbrev pub AllOf : {A : Type 0} (P : A → Type 0) → List A → Type 0
AllOf P [] = Unit
AllOf P (a ∷ l) = P a × All P l

pub opened : {A : Type 0} {P : A → Type 0} {l : List A} → All P l → AllOf P l
opened no_more = tt
opened (one_more p ps) = (p, ps)

stand_pass : (t : Table) (q : List ℤ) {n : ℕ} {ds : List Drawn} → Stand q n ds → All (PassesDrawn t) ds → All (Passes t q) (all_handed ds)
unfolding all_handed
stand_pass t q none_left h = no_more
stand_pass t q (and_next {d = d} e f s) h =
    let k = opened h in
    one_more (record { path = ap path_verdict f ∙ k.0.path; coordinates = ap coordinate_verdict f ∙ k.0.coordinates; held = k.0.held }) (stand_pass t q s k.1)

pub pass_of : (t : Table) {d : Drawing} {given : List Handed} {fault : Option Fault} {u : Reader} {q : List ℤ} → ExactlyThese d given fault u q → All (PassesDrawn t) d.strokes →
    All (Passes t q) given
pass_of t {q = q} e h = rw e.strokes (stand_pass t q e.stand h)

-- GivenPass, from what the strokes are and that every file is read in some way
pub pass_if : EachFile → ExactStrokes → GivenPass
pass_if each exact unit t p q l given fault u e small calls =
    let r = each l in pass_of t (exact unit t p q l r.0 r.1.0 given fault u e small r.1.1 calls) (drawn_pass unit (length p) t (said (pos 0) (pos 0) r.0) r.1.0)
