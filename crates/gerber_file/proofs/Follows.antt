-- One command does the same in the reader and in the second reading.
use Prim.Native.Nat.{ℕ, ◌+◌, ◌≤◌}
use native.Mathlib.Omega.{arith}
use mathlib.Core.Path.{◌≡◌, refl, sym, ap, ◌∙◌}
use mathlib.Core.Bool.{Bool, true, false, not, cond}
use mathlib.Core.List.{List, [], ◌∷◌, ◌++◌, append-nil}
use mathlib.Core.Option.{Option, none, some}
use lib.ListN.{length, take, length-append}
use lib.Seq.{take-take, take-append_seam}
use lib.IntN.{ℤ}
use borrow.Author.Tests.{leb-true, eq-eqb, ne_eqb}
use Rattle.integers.proofs.Tests.{clash, and_both}
use Rattle.limits.specs.Sizes.{aperture_min, aperture_max, in_range}
use Rattle.limits.specs.Refusal.{path, coordinate, room, unless_at, ◌then◌}
use Rattle.limits.proofs.Sizes.{within_iff}
use Rattle.aperture.specs.declared.Table.{Table}
use Rattle.aperture.specs.Table.{is_held, is_number, place_of}
use Rattle.trace.specs.declared.Trace.{Trace}
use Rattle.trace.specs.Trace.{is_open, is_longer, is_inside, is_fit, line_verdict, ended, moved}
use Rattle.units.specs.Units.{in_units}
use Rattle.scan.specs.Scanner.{Word, choose, move, line, end}
use Rattle.gerber.specs.Reader.{State, Step, with_trace, stops, judged, closes, none_chosen, chooses, moves, joins, draws, obeyed}
use Rattle.plane.specs.Point.{Pt}
use Rattle.gerber_file.specs.Strokes.{Sheet, Outcome, refused, twice, inside, ends_of, number_of, ends, extends, line_from, obeys, flat}
use Rattle.gerber_file.proofs.Entries.{length_flat}
use Rattle.gerber_file.proofs.Lines.{none_open, one_open, longer_same, room_same, longer}
use Rattle.gerber_file.proofs.Sim.{Pointed, Chosen, Sim, Agree, both_go, both_give, both_fail}

-- ---- the parts of a reader that the second reading has
-- the aperture of the open stroke
chosen_number : (n : ℕ) (a : Option ℕ) → Chosen n a → n ≡ number_of a
chosen_number n none e = e
chosen_number n (some m) e = e.0

-- a point is current before a stroke's end and after it
still_pointed : (t : Trace) (p : Option Pt) → Pointed t p → Pointed (ended t).trace p
still_pointed t none h = h
still_pointed t (some p) h = h

-- an aperture in use has a number, which is not 0
held_number : (t : Table) (n : ℕ) → is_held t n ≡ true → 1 ≤ n
held_number t n e = omega (arith, ((within_iff n aperture_min aperture_max).0 (and_both (is_number n) (place_of t n).used e).0).0)

-- the test of two coordinates has the documents' numbers
inside_same : (p : Pt) → inside p ≡ is_inside p.x p.y
unfolding in_range
inside_same p = refl

module _ (t : Table) (unit space place used : ℕ) (done : List ℤ) where
  -- what a command gives in both
  abbrev Both : Step → Outcome → Type 0
  Both = Agree unit space place used done

  -- ---- by the tests
  -- one of both readings
  both_cond : {a b : Step} {c d : Outcome} (x : Bool) → (x ≡ true → Both a c) → Both b d → Both (cond x a b) (cond x c d)
  both_cond true f g = f refl
  both_cond false f g = g

  -- one of the reader's alone
  passed : (a b : Step) {o : Outcome} (x : Bool) → x ≡ true → Both a o → Both (cond x a b) o
  passed a b true e h = h
  passed a b false e h = absurd (clash e refl)

  failed : (a b : Step) {o : Outcome} (x : Bool) → x ≡ false → Both b o → Both (cond x a b) o
  failed a b true e h = absurd (clash refl e)
  failed a b false e h = h

  module _ (s : State) (q : Sheet) (both : Sim unit space done s q) where
    abbrev now : Trace
    now = s.reader.trace

    -- ---- a refusal leaves what was handed out
    begins_before : now.first ≤ now.filled
    begins_before = omega (arith, both.begins, both.filled)

    still : take now.first s.path ≡ done
    still =
        sym (take-take now.first now.filled s.path begins_before) ∙
        ap (take now.first) both.holds ∙
        ap (λ (n : ℕ). take n (done ++ flat q.begun)) both.begins ∙
        take-append_seam done (flat q.begun)

    both_refuse : (n : ℕ) → Both (stops n place s) (refused n)
    both_refuse n = both_fail still both.begins

    -- ---- where a stroke may end
    module _ (n : ℕ) (u : Trace) (point : Option Pt) (a : Option ℕ) (pointed : Pointed u point) (chosen : Chosen n a) (first : u.first ≡ now.filled)
        (filled : u.filled ≡ now.filled) where
      abbrev after : State
      after = record { reader = with_trace s.reader n u; path = s.path }

      -- all that is filled is handed out then
      handed_out : (ps : List Pt) (m : ℕ) → q.begun ≡ ps → m ≡ length (done ++ flat ps) →
          Sim unit space (done ++ flat ps) after (record { point = point; aperture = a; begun = []; entries = m })
      unfolding flat
      handed_out ps m e f =
          let g : length (done ++ flat ps) ≡ length done + twice ps = length-append done (flat ps) ∙ ap (λ (k : ℕ). length done + k) (length_flat ps) in
          let h : now.filled ≡ length (done ++ flat ps) = both.filled ∙ ap (λ (l : List Pt). length done + twice l) e ∙ sym g in record {
            same_unit = both.same_unit;
            room = both.room;
            begins = first ∙ h;
            entries = f;
            filled = omega (arith, filled, h);
            fits = omega (arith, filled, both.fits);
            holds =
                ap (λ (k : ℕ). take k s.path) filled ∙ both.holds ∙
                ap (λ (l : List Pt). done ++ flat l) e ∙
                sym (append-nil (done ++ flat ps));
            point = pointed;
            aperture = chosen;
          }

      -- that is nothing new where no stroke was open
      none_handed : q.begun ≡ [] → Sim unit space done after (record { point = point; aperture = a; begun = []; entries = q.entries })
      unfolding flat
      none_handed e = rw append-nil at (handed_out [] q.entries e (both.entries ∙ ap length (sym (append-nil done))))

      -- and otherwise it is a stroke given
      closing : (ps : List Pt) → q.begun ≡ ps → Both (closes s.reader after) (ends_of ps (number_of q.aperture) q.entries used point a)
      closing [] e = failed _ _ (is_open now) (none_open both e) (both_go (none_handed e))
      closing (p ∷ ps) e =
          let m : q.entries + twice (p ∷ ps) ≡ length (done ++ flat (p ∷ ps)) = omega (arith, both.entries, length-append done (flat (p ∷ ps)), length_flat (p ∷ ps)) in
          passed _ _ (is_open now) (one_open both e)
          (both_give (handed_out (p ∷ ps) (q.entries + twice (p ∷ ps)) e m) (chosen_number s.reader.aperture q.aperture both.aperture)
          (both.begins ∙ sym both.entries) (omega (arith, both.begins, both.filled, ap length e)) both.entries refl)

    -- ---- the commands that end a stroke
    -- the current point stays
    pointed_still : Pointed (ended now).trace q.point
    pointed_still = still_pointed now q.point both.point

    choosing : (n : ℕ) → Both (chooses t place n s) (cond (is_held t n) (ends q used q.point (some n)) (refused 6))
    choosing n =
        both_cond (is_held t n) (λ e. closing n (ended now).trace q.point (some n) pointed_still (refl, held_number t n e) refl refl q.begun refl) (both_refuse 6)

    -- the range
    both_judge : {next : Step} {o : Outcome} (i : Bool) → Both next o → Both (judged (unless_at place i coordinate) s next) (cond i o (refused 3))
    both_judge true h = h
    both_judge false h = both_refuse 3

    -- with the test of the second reading
    both_judged : {next : Step} {o : Outcome} (i i' : Bool) → i' ≡ i → Both next o → Both (judged (unless_at place i coordinate) s next) (cond i' o (refused 3))
    both_judged i i' e h = rw e (both_judge i h)

    moving : (p : Pt) → Both (moves place p.x p.y s) (cond (inside p) (ends q used (some p) q.aperture) (refused 3))
    moving p =
        both_judged (is_inside p.x p.y) (inside p) (inside_same p)
        (closing s.reader.aperture (moved now p.x p.y) (some p) q.aperture (refl, (refl, refl)) both.aperture refl refl q.begun refl)

    ending : Both (closes s.reader (record { reader = with_trace s.reader s.reader.aperture (ended now).trace; path = s.path })) (ends q used q.point q.aperture)
    ending = closing s.reader.aperture (ended now).trace q.point q.aperture pointed_still both.aperture refl refl q.begun refl

    -- ---- a line: 2, 3, 7, or it is written
    abbrev checks : Bool → Bool → Bool → Step → Step
    checks l i f next = judged (unless_at place (not l) path then unless_at place i coordinate then unless_at place f room) s next

    both_check : {next : Step} {o : Outcome} (l i f : Bool) → (f ≡ true → Both next o) →
        Both (checks l i f next) (cond l (refused 2) (cond (not i) (refused 3) (cond (not f) (refused 7) o)))
    both_check true i f h = both_refuse 2
    both_check false false f h = both_refuse 3
    both_check false true false h = both_refuse 7
    both_check false true true h = h refl

    -- with the tests of the second reading
    both_checks : {next : Step} {o : Outcome} (l i f l' i' f' : Bool) → l' ≡ l → i' ≡ i → f' ≡ not f → (f ≡ true → Both next o) →
        Both (checks l i f next) (cond l' (refused 2) (cond (not i') (refused 3) (cond f' (refused 7) o)))
    both_checks l i f l' i' f' el ei ef h = rw (el, ei, ef) (both_check l i f h)

    extending : (from to : Pt) → (now.x ≡ from.x) × (now.y ≡ from.y) →
        Both (judged (line_verdict now to.x to.y (length s.path) place) s (joins to.x to.y s)) (extends unit (is_held t) space q from to)
    extending from to here =
        both_checks (is_longer now) (is_inside to.x to.y) (is_fit now (length s.path)) _ _ _ (longer_same both from to q.begun refl)
        (inside_same to) (room_same both from to) λ e. both_go (longer both from to here (leb-true _ _ e) q.begun refl)

    -- a line needs a current point and an aperture
    drawing : (to : Pt) (p : Option Pt) (a : Option ℕ) → Pointed now p → Chosen s.reader.aperture a →
        Both (draws place to.x to.y s) (line_from unit (is_held t) space q p a to)
    drawing to none a h k = failed _ _ now.placed h (both_refuse 14)
    drawing to (some from) none h k = passed _ _ now.placed h.0 (passed _ _ (none_chosen s.reader) (eq-eqb s.reader.aperture 0 k) (both_refuse 6))
    drawing to (some from) (some n) h k =
        passed _ _ now.placed h.0
        (failed _ _ (none_chosen s.reader) (ne_eqb s.reader.aperture 0 λ e. omega (arith, k.0, k.1)) (extending from to h.1))

-- ---- every command
pub follows : (t : Table) (unit space place used : ℕ) (done : List ℤ) (s : State) (q : Sheet) (w : Word) → Sim unit space done s q →
    Agree unit space place used done (obeyed t s place w) (obeys unit (is_held t) space q used w)
unfolding obeyed
follows t unit space place used done s q (choose n) h = choosing t unit space place used done s q h n
follows t unit space place used done s q (move x y) h =
    rw (ap (in_units x) h.same_unit, ap (in_units y) h.same_unit) (moving t unit space place used done s q h (record { x = in_units x unit; y = in_units y unit }))
follows t unit space place used done s q (line x y) h =
    rw (ap (in_units x) h.same_unit, ap (in_units y) h.same_unit)
    (drawing t unit space place used done s q h (record { x = in_units x unit; y = in_units y unit }) q.point q.aperture h.point h.aperture)
follows t unit space place used done s q end h = ending t unit space place used done s q h
