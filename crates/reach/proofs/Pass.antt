-- One pass over the y's of a path: the least and the greatest are taken together alike.
use Prim.Native.Nat.{ℕ, zero, suc, ◌+◌, ◌-◌, ◌*◌, ◌%◌, ◌≤◌, ◌<◌}
use native.Mathlib.Omega.{arith}
use mathlib.Core.Path.{◌≡◌, refl, sym, ap, subst, ◌∙◌}
use mathlib.Core.List.{List, [], ◌∷◌}
use lib.ListN.{length, get_or, drop, length-drop}
use lib.Seq.{drop-cons}
use lib.IntN.{ℤ, pos}
use Rattle.reach.specs.Reach.{of_ys}

-- ---- what holds of the y's, for a way to take two together
module _ (f : ℤ → ℤ → ℤ) (z : ℤ) where
  -- what is beyond both of two is beyond each y
  pub beyond_each : (Beyond : ℤ → ℤ → Type 0) → ((x y z : ℤ) → Beyond x y → Beyond y z → Beyond x z) → ((x y : ℤ) → Beyond (f x y) x) → ((x y : ℤ) → Beyond (f x y) y) →
      (path : List ℤ) (k : ℕ) → 2 * k + 1 < length path → Beyond (of_ys f z path) (get_or path (2 * k + 1) (pos 0))
  unfolding of_ys
  beyond_each Beyond trans first second [] k h = absurd (omega arith)
  beyond_each Beyond trans first second (x ∷ []) k h = absurd (omega arith)
  beyond_each Beyond trans first second (x ∷ y ∷ l) zero h = first y (of_ys f z l)
  beyond_each Beyond trans first second (x ∷ y ∷ l) (suc k) h =
      let e : 2 * suc k + 1 ≡ suc (suc (2 * k + 1)) = omega arith in
      rw e (trans (f y (of_ys f z l)) (of_ys f z l) (get_or l (2 * k + 1) (pos 0)) (second y (of_ys f z l)) (beyond_each Beyond trans first second l k (omega arith)))

  -- what holds of each y holds of all together
  pub of_each : (P : ℤ → Type 0) → P z → ((x y : ℤ) → P x → P y → P (f x y)) → (path : List ℤ) → ((k : ℕ) → 2 * k + 1 < length path → P (get_or path (2 * k + 1) (pos 0))) → P (of_ys f z path)
  unfolding of_ys
  of_each P none two [] h = none
  of_each P none two (x ∷ []) h = none
  of_each P none two (x ∷ y ∷ l) h =
      two y (of_ys f z l) (h 0 (omega arith))
      (of_each P none two l (λ k m. let e : 2 * suc k + 1 ≡ suc (suc (2 * k + 1)) = omega arith in subst (λ (n : ℕ). P (get_or (x ∷ y ∷ l) n (pos 0))) e (h (suc k) (omega arith))))

-- ---- the pass
-- two are taken together in any order, and z changes nothing that it was taken together with
pub record Together (f : ℤ → ℤ → ℤ) (z : ℤ) : Type 0 where
  pub assoc : (a b c : ℤ) → f (f a b) c ≡ f a (f b c)
  pub comm : (a b : ℤ) → f a b ≡ f b a
  pub twice : f z z ≡ z

module _ {f : ℤ → ℤ → ℤ} {z : ℤ} (t : Together f z) where
  -- z is taken up by what it was taken together with
  taken_up : (a b : ℤ) → f a z ≡ a → f (f a b) z ≡ f a b
  taken_up a b e = t.assoc a b z ∙ ap (f a) (t.comm b z) ∙ sym (t.assoc a z b) ∙ ap (λ (c : ℤ). f c b) e

  all_taken_up : (path : List ℤ) → f z (of_ys f z path) ≡ of_ys f z path
  unfolding of_ys
  all_taken_up [] = t.twice
  all_taken_up (x ∷ []) = t.twice
  all_taken_up (x ∷ y ∷ l) = sym (t.assoc z y (of_ys f z l)) ∙ ap (λ (c : ℤ). f c (of_ys f z l)) (t.comm z y) ∙ t.assoc y z (of_ys f z l) ∙ ap (f y) (all_taken_up l)

  -- y is what the y's before the entry i, which is a y, make
  pub record Passed (path : List ℤ) (y : ℤ) (i : ℕ) : Type 0 where
    pub odd : i % 2 ≡ 1
    pub within : i ≤ length path + 1
    pub rest : f y (of_ys f z (drop (i - 1) path)) ≡ of_ys f z path
    pub up : f y z ≡ y

  pub passed_none : (path : List ℤ) → Passed path z 1
  passed_none path = record { odd = omega arith; within = omega arith; rest = all_taken_up path; up = t.twice }

  -- one more
  next_two : (path : List ℤ) (i : ℕ) → i % 2 ≡ 1 → i < length path → of_ys f z (drop (i - 1) path) ≡ f (get_or path i (pos 0)) (of_ys f z (drop (i + 2 - 1) path))
  unfolding of_ys
  next_two path i o h =
      let e : suc (i - 1) ≡ i = omega (arith, o) in
      let g : suc i ≡ i + 2 - 1 = omega arith in
      let d : drop (i - 1) path ≡ get_or path (i - 1) (pos 0) ∷ get_or path i (pos 0) ∷ drop (i + 2 - 1) path =
      drop-cons path (i - 1) (pos 0) (omega arith) ∙ ap (λ (l : List ℤ). get_or path (i - 1) (pos 0) ∷ l) (ap (λ (n : ℕ). drop n path) e ∙ drop-cons path i (pos 0) h ∙ ap (λ (n : ℕ). get_or path i (pos 0) ∷ drop n path) g)
      in
      ap (of_ys f z) d

  pub passed_next : {path : List ℤ} {y : ℤ} {i : ℕ} {m : ℤ} → Passed path y i → i < length path → m ≡ f y (get_or path i (pos 0)) → Passed path m (i + 2)
  passed_next {path} {y} {i} {m} d h e = record {
    odd = omega (arith, d.odd);
    within = omega arith;
    rest = rw e (t.assoc y (get_or path i (pos 0)) (of_ys f z (drop (i + 2 - 1) path)) ∙ ap (f y) (sym (next_two path i d.odd h)) ∙ d.rest);
    up = rw e (taken_up y (get_or path i (pos 0)) d.up);
  }

  -- all
  at_end : (l : List ℤ) → length l ≤ 1 → of_ys f z l ≡ z
  unfolding of_ys
  at_end [] h = refl
  at_end (x ∷ []) h = refl
  at_end (x ∷ y ∷ l) h = absurd (omega arith)

  pub passed_all : {path : List ℤ} {y : ℤ} {i : ℕ} → Passed path y i → length path ≤ i → y ≡ of_ys f z path
  passed_all {path} {y} {i} d h = sym d.up ∙ ap (f y) (sym (at_end (drop (i - 1) path) (omega (arith, d.odd, length-drop (i - 1) path)))) ∙ d.rest
