-- The corner that a tangent takes: no place of the pen lies further to the right of the direction.
use Prim.Native.Nat.{ℕ, zero, suc, ◌+◌, ◌-◌, ◌≤◌, ◌<◌}
use native.Mathlib.Omega.{arith}
use native.Mathlib.Nat.{eq-or-lt_of_le}
use mathlib.Core.Path.{◌≡◌, refl}
use mathlib.Core.Logic.{inl, inr}
use mathlib.Core.Bool.{Bool, true, false, cond}
use mathlib.Core.List.{List}
use lib.IntN.{ℤ}
use lib.Signed.{lt_z}
use Rattle.integers.specs.Orders.{◌≼◌}
use Rattle.integers.proofs.Order.{le_refl, lt_le, le_trans}
use Rattle.integers.proofs.Tests.{lt_true, lt_false}
use Rattle.flanks.specs.Walk.{turn_at, tangent_for, tangent_of}

module _ (xs ys : List ℤ) (u v : ℤ) where
  -- how far out place i lies
  abbrev out : ℕ → ℤ
  out i = turn_at xs ys u v i

  -- c is one of b and the m places from i on, and none of them lies further out
  record Best (m i b c : ℕ) : Type 0 where
    first : out b ≼ out c
    others : (p : ℕ) → i ≤ p → p < i + m → out p ≼ out c
    held : (n : ℕ) → b < n → i + m ≤ n → c < n

  -- place i, or what was best before it, whichever lies further out
  better : (m i b c : ℕ) (t : Bool) → lt_z (out b) (out i) ≡ t → Best m (suc i) (cond t i b) c → Best (suc m) i b c
  better m i b c true e k = record {
    first = le_trans (out b) (out i) (out c) (lt_le (out b) (out i) (lt_true e)) k.first;
    others = λ p l h. elim (eq-or-lt_of_le l) [ inl q ↦ rw (← q) k.first | inr q ↦ k.others p q (omega (arith, h)) ];
    held = λ n l h. k.held n (omega (arith, h)) (omega (arith, h));
  }
  better m i b c false e k = record {
    first = k.first;
    others = λ p l h. elim (eq-or-lt_of_le l) [ inl q ↦ rw (← q) (le_trans (out i) (out b) (out c) (lt_false e) k.first) | inr q ↦ k.others p q (omega (arith, h)) ];
    held = λ n l h. k.held n l (omega (arith, h));
  }

  best : (m i b : ℕ) → Best m i b (tangent_for xs ys u v m i b)
  unfolding tangent_for
  best zero i b = record { first = le_refl (out b); others = λ p l h. absurd (omega (arith, l, h)); held = λ n l h. l }
  best (suc m) i b = better m i b _ (lt_z (out b) (out i)) refl (best m (suc i) (cond (lt_z (out b) (out i)) i b))

  -- of n places
  module _ (n : ℕ) (some : 0 < n) where
    pub tangent_in : tangent_of xs ys n u v < n
    tangent_in = (best (n - 1) 1 0).held n some (omega arith)

    pub tangent_furthest : (p : ℕ) → p < n → out p ≼ out (tangent_of xs ys n u v)
    tangent_furthest zero h = (best (n - 1) 1 0).first
    tangent_furthest (suc p) h = (best (n - 1) 1 0).others (suc p) (omega arith) (omega arith)
