-- Where a walk up a side of the pen stops. The corners that it has come to are passed, the next one is not; and there is a next one where some corner of the side is not passed.
use Prim.Native.Nat.{ℕ, zero, suc, ◌+◌, ◌-◌, min, ◌≤◌, ◌<◌}
use native.Mathlib.Omega.{arith}
use native.Mathlib.Nat.{le-suc_iff}
use mathlib.Core.Path.{◌≡◌, refl}
use mathlib.Core.Logic.{inl, inr}
use mathlib.Core.Bool.{Bool, true, false, cond}
use mathlib.Core.List.{List}
use lib.Dec.{ltb}
use lib.IntN.{ℤ}
use borrow.Author.Tests.{ltb-true, ltb-false}
use Rattle.integers.proofs.Tests.{clash}
use Rattle.ties.specs.Below.{below}
use Rattle.flanks.specs.Walk.{height_at, walked_for, walked}

-- the corners up to k are passed, and corner c is the last that is, of those up to `last`
record Stop (passes : ℕ → Bool) (last c : ℕ) : Type 0 where
  passed : (i : ℕ) → i ≤ c → passes i ≡ false
  next : c < last → passes (suc c) ≡ true

module _ (ys : List ℤ) (n : ℕ) (left : Bool) (y : ℤ) where
  -- a row at the height y lies below corner i
  abbrev under : ℕ → Bool
  under i = below y (height_at ys n left i)

  walk_stops : (m k : ℕ) → ((i : ℕ) → i ≤ k → under i ≡ false) → Stop under (k + m) (walked_for ys n left y m k)
  unfolding walked_for
  walk_stops zero k p = record { passed = p; next = λ l. absurd (omega (arith, l)) }
  walk_stops (suc m) k p = go (walk_stops m (suc k)) (under (suc k)) refl
    where
      further : under (suc k) ≡ false → (i : ℕ) → i ≤ suc k → under i ≡ false
      further e i h = elim (le-suc_iff.0 h) [ inl l ↦ p i l | inr f ↦ rw f e ]

      go : (((i : ℕ) → i ≤ suc k → under i ≡ false) → Stop under (suc k + m) (walked_for ys n left y m (suc k))) → (t : Bool) → under (suc k) ≡ t →
          Stop under (k + suc m) (cond t k (walked_for ys n left y m (suc k)))
      go on true e = record { passed = p; next = λ _. e }
      go on false e = let s = on (further e) in record { passed = s.passed; next = λ l. s.next (omega (arith, l)) }

  -- from corner k, where a corner j of the side is not passed
  pub walk_crosses : (k : ℕ) → ((i : ℕ) → i ≤ k → under i ≡ false) → (j : ℕ) → j ≤ n - 1 → under j ≡ true →
      (suc (walked ys n left y k) ≤ n - 1) × ((i : ℕ) → i ≤ walked ys n left y k → under i ≡ false) × (under (suc (walked ys n left y k)) ≡ true)
  walk_crosses k p j h u =
      let c = walked ys n left y k in
      let s = walk_stops (n - 1 - k) (min k (n - 1)) (λ i l. p i (omega (arith, l))) in
      let l : c < j = before c s (ltb c j) refl in
      (omega (arith, l, h), s.passed, s.next (omega (arith, l, h)))
    where
      -- else corner j would be passed
      before : (c : ℕ) → Stop under (min k (n - 1) + (n - 1 - k)) c → (t : Bool) → ltb c j ≡ t → c < j
      before c s true e = ltb-true c j e
      before c s false e = absurd (clash u (s.passed j (ltb-false c j e)))
