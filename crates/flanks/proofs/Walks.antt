-- What the definitions of specs/Walk give in each case of their tests, and in one step of a loop.
use mathlib.Core.Path.{◌≡◌, refl, ap, ◌∙◌}
use mathlib.Core.Bool.{Bool, true, false, cond}
use mathlib.Core.List.{List}
use Prim.Native.Nat.{ℕ, suc, ◌+◌, ◌-◌, min, ◌≤◌, ◌<◌}
use native.Mathlib.Numerals.{add-one}
use native.Mathlib.Omega.{arith}
use lib.IntN.{ℤ, pos, neg_ℤ, ◌-ℤ◌, ◌*ℤ◌}
use lib.ListN.{get_or}
use lib.Signed.{lt_z}
use borrow.Author.Tests.{lt-ltb}
use Rattle.integers.specs.Orders.{◌≺◌}
use Rattle.integers.proofs.Ring.{ring, reify}
use Rattle.integers.proofs.Tests.{same_lt}
use Rattle.integers.proofs.Words.{picked}
use Rattle.ties.specs.Below.{below}
use Rattle.flanks.specs.Walk.{place_of, height_at, walked_for, walked, turn_at, tangent_for}

-- ---- the place of a corner
-- up the right side they come in order
pub place_right : (k n : ℕ) (left : Bool) → left ≡ false → place_of k n left ≡ k
place_right k n left e = rw e

-- both sides begin at place 0
pub place_first : (k n : ℕ) (left : Bool) → k ≡ 0 → place_of k n left ≡ k
place_first k n true e = rw e
place_first k n false e = refl

-- up the left side they are counted from the end
pub place_left : (k n : ℕ) (left : Bool) → left ≡ true → 0 < k → place_of k n left ≡ n - k
place_left k n left e h = rw (e, lt-ltb 0 k h)

-- ---- the walk up a side, of which `last` is the last corner
module _ (ys : List ℤ) (n : ℕ) (left : Bool) (y : ℤ) where
  -- where there are no corners it gives 0
  pub walk_none : (k : ℕ) → n ≡ 0 → walked ys n left y k ≡ 0
  unfolding walked_for
  walk_none k e =
      let none : n - 1 - k ≡ 0 = omega arith in
      let first : min k (n - 1) ≡ 0 = omega arith in
      rw (none, first)

  -- a corner past the last begins there, and as many steps are left as there are corners up to it
  pub walk_starts : (k : ℕ) → walked ys n left y k ≡ walked_for ys n left y (n - 1 - min k (n - 1)) (min k (n - 1))
  walk_starts k = ap (λ (m : ℕ). walked_for ys n left y m (min k (n - 1))) (omega arith)

  -- at the last corner it ends
  pub walk_ends : (last i : ℕ) → last ≤ i → walked_for ys n left y (last - i) i ≡ i
  unfolding walked_for
  walk_ends last i h = let e : last - i ≡ 0 = omega arith in rw e

  -- before it the next corner's height is tested, which stops the walk or has it go on from there
  walk_steps : (last i : ℕ) → i < last → walked_for ys n left y (last - i) i ≡ cond (below y (height_at ys n left (i + 1))) i (walked_for ys n left y (last - (i + 1)) (i + 1))
  unfolding walked_for
  walk_steps last i h = let e : last - i ≡ suc (last - (i + 1)) = omega arith in rw (e, add-one)

  pub walk_stops : (last i : ℕ) → i < last → below y (height_at ys n left (i + 1)) ≡ true → walked_for ys n left y (last - i) i ≡ i
  walk_stops last i h t = walk_steps last i h ∙ rw t

  pub walk_goes : (last i : ℕ) → i < last → below y (height_at ys n left (i + 1)) ≡ false → walked_for ys n left y (last - i) i ≡ walked_for ys n left y (last - (i + 1)) (i + 1)
  walk_goes last i h t = walk_steps last i h ∙ rw t

-- ---- the choice of the place furthest to the right, of n, and of the one furthest to the left
-- place i lies further to the right of the direction (u, v) than place b
abbrev pub further : List ℤ → List ℤ → ℤ → ℤ → ℕ → ℕ → Bool
further xs ys u v b i = lt_z (turn_at xs ys u v b) (turn_at xs ys u v i)

-- turned round, the direction has its left on its right: how far a place lies to the right of it changes its sign
round_lt : (a b : ℤ) → lt_z (neg_ℤ a) (neg_ℤ b) ≡ lt_z b a
round_lt a b =
    let back : (a b : ℤ) → neg_ℤ a ≺ neg_ℤ b → b ≺ a = ring 2 _ (simp reify (omega arith)) in
    let on : (a b : ℤ) → b ≺ a → neg_ℤ a ≺ neg_ℤ b = ring 2 _ (simp reify (omega arith)) in
    same_lt (back a b, on a b)

module _ (xs ys : List ℤ) (u v : ℤ) where
  round_turn : (i : ℕ) → turn_at xs ys (neg_ℤ u) (neg_ℤ v) i ≡ neg_ℤ (turn_at xs ys u v i)
  round_turn i = at (get_or xs i (pos 0)) (get_or ys i (pos 0)) u v
    where
      at : (x y u v : ℤ) → neg_ℤ v *ℤ x -ℤ neg_ℤ u *ℤ y ≡ neg_ℤ (v *ℤ x -ℤ u *ℤ y)
      at = ring 4 _ (simp reify (omega arith))

  -- and so further to the right of it is further to the left of the direction itself
  round_further : (b i : ℕ) → further xs ys (neg_ℤ u) (neg_ℤ v) b i ≡ further xs ys u v i b
  round_further b i = rw (round_turn b, round_turn i) (search round_lt)

module _ (xs ys : List ℤ) (u v : ℤ) (n i : ℕ) where
  -- past the last place the best so far is the choice
  pub tangent_ends : (b : ℕ) → n ≤ i → tangent_for xs ys u v (n - i) i b ≡ b
  unfolding tangent_for
  tangent_ends b h = let e : n - i ≡ 0 = omega arith in rw e

  -- before it the choice goes on with the better of the two
  tangent_goes : (b : ℕ) → i < n → tangent_for xs ys u v (n - i) i b ≡ tangent_for xs ys u v (n - (i + 1)) (i + 1) (cond (further xs ys u v b i) i b)
  unfolding tangent_for
  tangent_goes b h = let e : n - i ≡ suc (n - (i + 1)) = omega arith in rw (e, add-one)

-- with b so far, what is taken after place i is what the choice goes on with: to the right, and to the left
module _ (xs ys : List ℤ) (u v : ℤ) (n i b : ℕ) (h : i < n) where
  pub right_goes : {c : ℕ} → cond (further xs ys u v b i) i b ≡ c → tangent_for xs ys u v (n - i) i b ≡ tangent_for xs ys u v (n - (i + 1)) (i + 1) c
  right_goes e = tangent_goes xs ys u v n i b h ∙ ap (tangent_for xs ys u v (n - (i + 1)) (i + 1)) e

  pub left_goes : {c : ℕ} → cond (further xs ys u v i b) i b ≡ c →
      tangent_for xs ys (neg_ℤ u) (neg_ℤ v) (n - i) i b ≡ tangent_for xs ys (neg_ℤ u) (neg_ℤ v) (n - (i + 1)) (i + 1) c
  left_goes e = tangent_goes xs ys (neg_ℤ u) (neg_ℤ v) n i b h ∙ ap (tangent_for xs ys (neg_ℤ u) (neg_ℤ v) (n - (i + 1)) (i + 1)) (picked i b (round_further xs ys u v b i) ∙ e)
