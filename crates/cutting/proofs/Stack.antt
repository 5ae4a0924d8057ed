-- The stack of edges at the end of an array: what the stores at its top and below it leave from the new top on.
use Prim.Native.Nat.{ℕ, zero, suc, ◌+◌, ◌-◌, ◌≤◌, ◌<◌}
use mathlib.Core.Path.{◌≡◌, ap, ◌∙◌}
use mathlib.Core.List.{List, ◌∷◌}
use native.Mathlib.Omega.{arith}
use native.Mathlib.Numerals.{add-one}
use lib.ListN.{length, drop, get_or, set, length-set}
use lib.Seq.{drop-set-lt, drop-cons, get_or-set_same}
use Rattle.cutting.specs.Held.{front}

module _ {A : Type 0} where
  pub drop_top : (l : List A) (i : ℕ) (d : A) → i < length l → drop i l ≡ get_or l i d ∷ drop (i + 1) l
  drop_top l i d h = rw add-one (drop-cons l i d h)

  pub drop_set : (l : List A) (i : ℕ) (a : A) → i < length l → drop i (set l i a) ≡ a ∷ drop (i + 1) l
  drop_set l i a h =
      let k : i < length (set l i a) = rw length-set h in
      drop-cons (set l i a) i a k ∙ rw (get_or-set_same l i a a h, drop-set-lt (suc i) l i a (omega arith), add-one)

  pub drop_two : (l : List A) (i : ℕ) (a b : A) → 1 ≤ i → i < length l → drop (i - 1) (set (set l i b) (i - 1) a) ≡ a ∷ b ∷ drop (i + 1) l
  drop_two l i a b p h =
      let k : i - 1 < length (set l i b) = rw length-set (omega arith) in
      let e : i - 1 + 1 ≡ i = omega arith in
      drop_set (set l i b) (i - 1) a k ∙ ap (λ (t : List A). a ∷ t) (rw e (drop_set l i b h))

  -- both are stored, and the top is where m of them count
  pub drop_front : (l : List A) (i : ℕ) (a b : A) (m : ℕ) → m ≤ 2 → 1 ≤ i → i < length l → drop (i + 1 - m) (set (set l i b) (i - 1) a) ≡ front m a b (drop (i + 1) l)
  drop_front l i a b zero k p h =
      let e : i + 1 - 0 ≡ i + 1 = omega arith in
      rw e (drop-set-lt (i + 1) (set l i b) (i - 1) a (omega arith) ∙ drop-set-lt (i + 1) l i b (omega arith))
  drop_front l i a b (suc zero) k p h =
      let e : i + 1 - 1 ≡ i = omega arith in
      rw e (drop-set-lt i (set l i b) (i - 1) a (omega arith) ∙ drop_set l i b h)
  drop_front l i a b (suc (suc zero)) k p h =
      let e : i + 1 - 2 ≡ i - 1 = omega arith in
      rw e (drop_two l i a b p h)
  drop_front l i a b (suc (suc (suc m))) k p h = absurd (omega (arith, k))
