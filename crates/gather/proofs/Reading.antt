-- What reading bytes gives, its strokes noted: byte by byte, and call by call. A call of the reader gives nothing, or a stroke, and reading goes on with what is
-- left, or it fails, and reading stops.
use Prim.Native.Nat.{ℕ, suc, ◌-◌, ◌≤◌}
use native.Mathlib.Omega.{arith}
use mathlib.Core.Path.{◌≡◌, refl, sym, ap, ◌∙◌, subst}
use mathlib.Core.Bool.{Bool, true, false, cond}
use mathlib.Core.List.{List, [], ◌∷◌}
use mathlib.Core.Option.{some}
use borrow.Author.Tests.{eq-eqb, eqb-true}
use lib.Dec.{eqb}
use lib.ListN.{length, take, drop, length-drop}
use lib.Seq.{take_all}
use Rattle.aperture.specs.declared.Table.{Table}
use Rattle.chunks.specs.Machine.{goes, gives, fails, Called, more, gave, failed, one_more, Read, ahead, call, read}
use Rattle.gerber.specs.Reader.{State, Stroke, Fault, Step, Answered, step_of, answer, repeated, feeds}
use Rattle.gerber_file.proofs.Keeps.{CallKeeps, call_keeps}
use Rattle.gerber_file.proofs.Sessions.{state_of, feeds_calls}
use Rattle.gerber.specs.declared.Given.{Given}
use Rattle.gerber.specs.declared.Given.TheVariants.{More, Stroke as StrokeOf, Done, Refused}
use Rattle.gather.specs.Gather.{Notes, noted, all_noted, Gathered, together, kept_of, gathered, goes_on}

abbrev Call : Type 0
Call = Called State Stroke Fault

-- what stands from an index on, as the code lends it
pub rest_whole : (i : ℕ) (l : List ℕ) → take (length l - i) (drop i l) ≡ drop i l
rest_whole i l = take_all (length l - i) (drop i l) (omega (arith, length-drop i l))

module _ (t : Table) where
  abbrev pub reading : State → Notes → List ℕ → Gathered
  reading s n l = kept_of n (read (step_of t) 0 s l)

  -- ---- byte by byte
  -- what is read after a byte, i bytes having been read before it
  abbrev then_read_lem : ℕ → List ℕ → Step → Read State Stroke Fault
  then_read_lem i l x =
      elim x as (λ _. Read State Stroke Fault) [
        | goes u ↦ read (step_of t) (suc i) u l
        | gives e u ↦ ahead (record { thing = e; used = suc i }) (read (step_of t) (suc i) u l)
        | fails f u ↦ record { given = []; failure = some f; state = u }
      ]

  -- how many bytes were read before tells the strokes' places in the file, and no note has those
  any_count : (l : List ℕ) (k j : ℕ) (s : State) (n : Notes) → kept_of n (read (step_of t) k s l) ≡ kept_of n (read (step_of t) j s l)
  unfolding read all_noted
  any_count [] k j s n = refl
  any_count (b ∷ l) k j s n = go (step_of t s b) (any_count l (suc k) (suc j))
    where
      go : (x : Step) → ((u : State) (m : Notes) → kept_of m (read (step_of t) (suc k) u l) ≡ kept_of m (read (step_of t) (suc j) u l)) →
          kept_of n (then_read_lem k l x) ≡ kept_of n (then_read_lem j l x)
      go (goes u) f = f u n
      go (gives e u) f = f u (noted n e)
      go (fails e u) f = refl

  -- what a byte does, and then the others, l
  abbrev pub after : Notes → List ℕ → Step → Gathered
  after n l (goes u) = reading u n l
  after n l (gives e u) = reading u (noted n e) l
  after n l (fails f u) = together u n

  pub reading_none : (s : State) (n : Notes) → reading s n [] ≡ together s n
  unfolding read all_noted
  reading_none s n = refl

  pub reading_cons : (s : State) (n : Notes) (b : ℕ) (l : List ℕ) → reading s n (b ∷ l) ≡ after n l (step_of t s b)
  unfolding read all_noted
  reading_cons s n b l = go (step_of t s b)
    where
      go : (x : Step) → kept_of n (then_read_lem 0 l x) ≡ after n l x
      go (goes u) = any_count l 1 0 u n
      go (gives e u) = any_count l 1 0 u (noted n e)
      go (fails e u) = refl

  -- ---- call by call
  abbrev called_on : Notes → List ℕ → Call → Gathered
  called_on n l (more u) = together u n
  called_on n l (gave e u m) = reading u (noted n e) (drop m l)
  called_on n l (failed f u) = together u n

  one_later : (n : Notes) (b : ℕ) (l : List ℕ) (c : Call) → called_on n l c ≡ called_on n (b ∷ l) (one_more c)
  one_later n b l (more u) = refl
  one_later n b l (gave e u m) = refl
  one_later n b l (failed f u) = refl

  reading_calls : (l : List ℕ) (s : State) (n : Notes) → reading s n l ≡ called_on n l (call (step_of t) s l)
  unfolding call
  reading_calls [] s n = reading_none s n
  reading_calls (b ∷ l) s n = reading_cons s n b l ∙ go (step_of t s b) (reading_calls l)
    where
      go : (x : Step) → ((u : State) (m : Notes) → reading u m l ≡ called_on m l (call (step_of t) u l)) →
          after n l x ≡ called_on n (b ∷ l) (elim x as (λ _. Call) [ goes u ↦ one_more (call (step_of t) u l) | gives e u ↦ gave e u 1 | fails f u ↦ failed f u ])
      go (goes u) f = f u n ∙ one_later n b l (call (step_of t) u l)
      go (gives e u) f = refl
      go (fails e u) f = refl

  -- a call that gives a stroke has used a byte at least, and not more than there are
  abbrev Within : ℕ → Call → Type 0
  Within n (more u) = 0 ≤ n
  Within n (gave e u m) = (1 ≤ m) × (m ≤ n)
  Within n (failed f u) = 0 ≤ n

  one_within : (n : ℕ) (c : Call) → Within n c → Within (suc n) (one_more c)
  one_within n (more u) h = omega arith
  one_within n (gave e u m) h = (omega arith, omega (arith, h.1))
  one_within n (failed f u) h = omega arith

  call_within : (l : List ℕ) (s : State) → Within (length l) (call (step_of t) s l)
  unfolding call
  call_within [] s = omega arith
  call_within (b ∷ l) s = go (step_of t s b) (λ u. one_within (length l) (call (step_of t) u l) (call_within l u))
    where
      go : (x : Step) → ((u : State) → Within (suc (length l)) (one_more (call (step_of t) u l))) →
          Within (suc (length l)) (elim x as (λ _. Call) [ goes u ↦ one_more (call (step_of t) u l) | gives e u ↦ gave e u 1 | fails f u ↦ failed f u ])
      go (goes u) f = f u
      go (gives e u) f = (omega arith, omega arith)
      go (fails e u) f = omega arith

  -- ---- what is gathered, by the test of the refusal
  abbrev whole : State → Notes → List ℕ → Bool → Gathered
  whole s n l b = cond b (reading s n l) (together s n)

  pub from_on : (s : State) (n : Notes) (l : List ℕ) → s.reader.refusal ≡ 0 → goes_on t (together s n) l ≡ reading s n l
  unfolding gathered
  from_on s n l h = ap (whole s n l) (eq-eqb s.reader.refusal 0 h)

  pub from_off : (s : State) (n : Notes) (l : List ℕ) → eqb s.reader.refusal 0 ≡ false → goes_on t (together s n) l ≡ together s n
  unfolding gathered
  from_off s n l h = ap (whole s n l) h

  -- no bytes
  pub from_none : (s : State) (n : Notes) → goes_on t (together s n) [] ≡ together s n
  from_none s n = go (eqb s.reader.refusal 0) refl
    where
      go : (b : Bool) → eqb s.reader.refusal 0 ≡ b → goes_on t (together s n) [] ≡ together s n
      go true e = from_on s n [] (eqb-true s.reader.refusal 0 e) ∙ reading_none s n
      go false e = from_off s n [] e

  -- ---- a turn of the loop of `gather`: what is answered to the bytes l, and then the rest of them
  abbrev by_given : Answered → Notes → List ℕ → Given → Gathered
  by_given a n l More = together (state_of a) n
  by_given a n l (StrokeOf x first k) = goes_on t (together (state_of a) (noted n (record { aperture = x; first = first; length = k }))) (drop a.fed.used l)
  by_given a n l Done = together (state_of a) n
  by_given a n l (Refused k place) = together (state_of a) n

  abbrev turned : Notes → List ℕ → Answered → Gathered
  turned n l a = by_given a n l a.fed.given

  -- a reader that holds a refusal repeats it
  feeds_refused : (s : State) (l : List ℕ) → eqb s.reader.refusal 0 ≡ false → feeds s.reader t l s.path ≡ record { fed = repeated s.reader; entries = s.path }
  unfolding feeds
  feeds_refused s l e = ap (λ (b : Bool). cond b (answer (length l) (call (step_of t) s l)) (record { fed = repeated s.reader; entries = s.path })) e

  answer_turned : (n : Notes) (l : List ℕ) (c : Call) → CallKeeps c → called_on n l c ≡ turned n l (answer (length l) c)
  answer_turned n l (more u) k = refl
  answer_turned n l (gave e u m) k = sym (from_on u (noted n e) (drop m l) k)
  answer_turned n l (failed f u) k = refl

  turn : (s : State) (n : Notes) (l : List ℕ) → goes_on t (together s n) l ≡ turned n l (feeds s.reader t l s.path)
  turn s n l = go (eqb s.reader.refusal 0) refl
    where
      go : (b : Bool) → eqb s.reader.refusal 0 ≡ b → goes_on t (together s n) l ≡ turned n l (feeds s.reader t l s.path)
      go true e =
          let h = eqb-true s.reader.refusal 0 e in
          from_on s n l h ∙ reading_calls l s n ∙ answer_turned n l (call (step_of t) s l) (call_keeps t s l h) ∙ sym (ap (turned n l) (feeds_calls s.reader t l s.path h))
      go false e = from_off s n l e ∙ sym (ap (turned n l) (feeds_refused s l e))

  used_of_call : (n : ℕ) (c : Call) (x first k : ℕ) → Within n c → (answer n c).fed.given ≡ StrokeOf x first k → (1 ≤ (answer n c).fed.used) × ((answer n c).fed.used ≤ n)
  used_of_call n (more u) x first k h e = absurd (let z : ◌≡◌ {A = ℕ} 0 1 = cc in omega arith)
  used_of_call n (gave w u m) x first k h e = h
  used_of_call n (failed f u) x first k h e = absurd (let z : ◌≡◌ {A = ℕ} 0 1 = cc in omega arith)

  -- a is what `gerber::feed` answers
  module _ (s : State) (n : Notes) (l : List ℕ) {a : Answered} (f : a ≡ feeds s.reader t l s.path) where
    by_answer : {g : Given} → a.fed.given ≡ g → by_given a n l g ≡ goes_on t (together s n) l
    by_answer e = sym (turn s n l ∙ sym (ap (turned n l) f) ∙ ap (by_given a n l) e)

    -- nothing is given: the bytes are used up, or there is a refusal
    pub turn_ends : ((x first k : ℕ) → ¬ (a.fed.given ≡ StrokeOf x first k)) → together (state_of a) n ≡ goes_on t (together s n) l
    turn_ends none_given = go a.fed.given refl
      where
        go : (g : Given) → a.fed.given ≡ g → together (state_of a) n ≡ goes_on t (together s n) l
        go More e = by_answer e
        go (StrokeOf x first k) e = absurd (none_given x first k e)
        go Done e = by_answer e
        go (Refused k place) e = by_answer e

    module _ (x first k : ℕ) (e : a.fed.given ≡ StrokeOf x first k) where
      -- a stroke is given, and noted: the rest is read again
      pub turn_goes_on : goes_on t (together (state_of a) (noted n (record { aperture = x; first = first; length = k }))) (drop a.fed.used l) ≡ goes_on t (together s n) l
      turn_goes_on = by_answer e

      -- with a byte less at least
      pub turn_uses : (1 ≤ a.fed.used) × (a.fed.used ≤ length l)
      turn_uses = go (eqb s.reader.refusal 0) refl
        where
          go : (b : Bool) → eqb s.reader.refusal 0 ≡ b → (1 ≤ a.fed.used) × (a.fed.used ≤ length l)
          go true q =
              let h = f ∙ feeds_calls s.reader t l s.path (eqb-true s.reader.refusal 0 q) in
              subst (λ (z : Answered). z.fed.given ≡ StrokeOf x first k → (1 ≤ z.fed.used) × (z.fed.used ≤ length l)) (sym h)
              (used_of_call (length l) (call (step_of t) s l) x first k (call_within l s)) e
          go false q =
              let h = f ∙ feeds_refused s l q in
              absurd (let g = ap (λ (z : Answered). z.fed.given) h in let z : ◌≡◌ {A = ℕ} 0 1 = cc in omega arith)
