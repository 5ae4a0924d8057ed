-- Which stroke is refused: the claim StrokesTold.
--
-- A stroke's check is that of its row call, which has room for the row, so that the two refuse alike.
use Prim.Native.Nat.{ℕ, zero, suc, ◌+◌, ◌≤◌, ◌<◌}
use native.Mathlib.Omega.{arith}
use mathlib.Core.Path.{◌≡◌, refl, sym, ap, ap₂, subst, ◌∙◌}
use mathlib.Core.Bool.{Bool, true, false}
use lib.Dec.{eqb, ltb}
use lib.ListN.{length, get_or, replicate, length-replicate}
use borrow.Author.Tests.{eqb-true, eqb-false, ltb-true, ltb-false, le-leb}
use Rattle.limits.specs.Refusal.{◌then◌}
use Rattle.limits.specs.declared.Verdict.{Verdict}
use Rattle.limits.specs.declared.Verdict.TheVariants.{Passed, Refused}
use Rattle.limits.proofs.Verdicts.{not_passed, NotZero}
use Rattle.aperture.specs.declared.Looked.{Looked}
use Rattle.aperture.specs.declared.Looked.TheVariants as looked·
use Rattle.aperture.specs.Table.{looked, looked_verdict, held_corners}
use Rattle.checks.specs.declared.Answer.{Answer}
use Rattle.checks.specs.Checks.{verdict}
use Rattle.checks.specs.Answer.{done, answer_of, Offer, given}
use Rattle.checks.proofs.Verdicts.{verdict_not_zero}
use Rattle.bits.specs.Bits.{packed_length}
use Rattle.packed.specs.Packed.{packed_offer, packed_call}
use Rattle.drawing.specs.declared.StrokeVerdict.{StrokeVerdict}
use Rattle.drawing.specs.declared.StrokeVerdict.TheVariants.{Stroke}
use Rattle.drawing.specs.Strokes.{Drawing, table_in, path_of, stroke_verdict, first_from, first_refused, strokes_verdict}
use Rattle.drawing.specs.Theorems.{stroke_call, TakesStroke, TakesAll, FirstStroke, StrokeTold, all, one, StrokesTold}
use Rattle.drawing.proofs.Taken.{no_stroke_lem, stroke_taken, stroke_refused}

-- ---- a call with room enough
-- what it answers, by what its checks do
abbrev answered : Verdict → ℕ → Answer
answered Passed n = done n
answered (Refused n place) count = answer_of (Refused n place)

enough : {A : Type 0} (v : Verdict) (o : Offer A) → o.count ≤ o.space → (given v o).answer ≡ answered v o.count
enough Passed o h = rw (le-leb o.count o.space h)
enough (Refused n place) o h = refl

stroke_not_zero : (v : Looked) (p : Verdict) → NotZero p → NotZero (looked_verdict v then p)
stroke_not_zero (looked·.At i) p h = h
stroke_not_zero looked·.Refused p h = omega arith

module _ (d : Drawing) (columns rows : ℕ) where
  -- stroke k's row call answers as its checks do
  call_answer : (k : ℕ) → (stroke_call d columns rows k).answer ≡ answered (stroke_verdict d columns rows k) (packed_length columns)
  unfolding packed_call
  call_answer k =
      let n = packed_length columns in
      let path = path_of d.starts d.entries k in
      enough (stroke_verdict d columns rows k) (packed_offer (held_corners (table_in d) (get_or d.apertures k 0)) path columns 0 (replicate n 0)) (omega (arith, length-replicate {A = ℕ} n 0))

  not_zero : (k : ℕ) → NotZero (stroke_verdict d columns rows k)
  not_zero k = let path = path_of d.starts d.entries k in stroke_not_zero (looked (table_in d) (get_or d.apertures k 0)) (verdict path columns rows 0) (verdict_not_zero path columns rows 0)

  pub passed_takes : (k : ℕ) → stroke_verdict d columns rows k ≡ Passed → TakesStroke d columns rows k
  passed_takes k e = ap (λ (a : Answer). a.refusal) (call_answer k ∙ ap (λ (v : Verdict). answered v (packed_length columns)) e)

  pub takes_passed : (k : ℕ) → TakesStroke d columns rows k → stroke_verdict d columns rows k ≡ Passed
  takes_passed k e = go (stroke_verdict d columns rows k) (not_zero k) (sym (ap (λ (a : Answer). a.refusal) (call_answer k)) ∙ e)
    where
      go : (v : Verdict) → NotZero v → (answered v (packed_length columns)).refusal ≡ 0 → v ≡ Passed
      go Passed h e = refl
      go (Refused n place) h e = absurd (omega (arith, e))

  refused_answer : (k n place : ℕ) → stroke_verdict d columns rows k ≡ Refused n place → (stroke_call d columns rows k).answer ≡ answer_of (Refused n place)
  refused_answer k n place e = call_answer k ∙ ap (λ (v : Verdict). answered v (packed_length columns)) e

  -- a refused call counts nothing
  pub refused_whole : (k : ℕ) → ¬ TakesStroke d columns rows k → let a = (stroke_call d columns rows k).answer in answer_of (Refused a.refusal a.place) ≡ a
  refused_whole k h = go (stroke_verdict d columns rows k) refl
    where
      go : (v : Verdict) → stroke_verdict d columns rows k ≡ v → let a = (stroke_call d columns rows k).answer in answer_of (Refused a.refusal a.place) ≡ a
      go Passed q = absurd (h (passed_takes k q))
      go (Refused n place) q = let e = refused_answer k n place q in rw e

  -- ---- one stroke after the other
  one_more : (k : ℕ) → ((i : ℕ) → i < k → TakesStroke d columns rows i) → TakesStroke d columns rows k → (i : ℕ) → i < suc k → TakesStroke d columns rows i
  one_more k f t i h = go (eqb i k) refl
    where
      go : (b : Bool) → eqb i k ≡ b → TakesStroke d columns rows i
      go true q = subst (TakesStroke d columns rows) (sym (eqb-true i k q)) t
      go false q = f i (omega (arith, eqb-false i k q))

  told : (n k : ℕ) → k + n ≡ length d.apertures → ((i : ℕ) → i < k → TakesStroke d columns rows i) → StrokeTold d columns rows (first_from d columns rows k n)
  told zero k e f = subst (StrokeTold d columns rows) (no_stroke_lem d columns rows k) (all (λ i h. f i (omega (arith, e, h))))
  told (suc n) k e f = go (stroke_verdict d columns rows k) refl (told n (suc k) (omega (arith, e)))
    where
      go : (v : Verdict) → stroke_verdict d columns rows k ≡ v →
          (((i : ℕ) → i < suc k → TakesStroke d columns rows i) → StrokeTold d columns rows (first_from d columns rows (suc k) n)) → StrokeTold d columns rows (first_from d columns rows k (suc n))
      go Passed q r = subst (StrokeTold d columns rows) (sym (stroke_taken d columns rows k n q)) (r (one_more k f (passed_takes k q)))
      go (Refused number place) q r =
          let a = refused_answer k number place q in
          let first : FirstStroke d columns rows k = record { one = omega (arith, e); refused = λ t. not_passed (sym q ∙ takes_passed k t); earlier = f } in
          subst (StrokeTold d columns rows)
          (ap₂ (Stroke k) (ap (λ (r : Answer). r.refusal) a) (ap (λ (r : Answer). r.place) a) ∙ sym (stroke_refused d columns rows k n number place q))
          (one k first)

pub strokes_told : StrokesTold
strokes_told d columns rows = told d columns rows (length d.apertures) 0 (omega arith) (λ i h. absurd (omega (arith, h)))

-- where the strokes' check is passed all are taken
pub all_taken : (d : Drawing) (columns rows : ℕ) {s : StrokeVerdict} → StrokeTold d columns rows s → strokes_verdict s ≡ Passed → TakesAll d columns rows
all_taken d columns rows (all h) e = h
all_taken d columns rows (one k f) e = not_passed e

-- a refusal of the strokes is never 0
pub strokes_not_zero : (d : Drawing) (columns rows : ℕ) → NotZero (strokes_verdict (first_refused d columns rows))
strokes_not_zero d columns rows = go (strokes_told d columns rows)
  where
    go : {s : StrokeVerdict} → StrokeTold d columns rows s → NotZero (strokes_verdict s)
    go (all h) = tt
    go (one k f) = let n : ¬ ((stroke_call d columns rows k).answer.refusal ≡ 0) = f.refused in omega arith

-- there is one first stroke
pub same_first : (d : Drawing) (columns rows : ℕ) {k m : ℕ} → FirstStroke d columns rows k → FirstStroke d columns rows m → k ≡ m
same_first d columns rows {k} {m} f g = go (ltb k m) (ltb m k) refl refl
  where
    go : (a b : Bool) → ltb k m ≡ a → ltb m k ≡ b → k ≡ m
    go true b p q = absurd (f.refused (g.earlier k (ltb-true k m p)))
    go false true p q = absurd (g.refused (f.earlier m (ltb-true m k q)))
    go false false p q = omega (arith, ltb-false k m p, ltb-false m k q)
