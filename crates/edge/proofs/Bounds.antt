-- From the tests of the definitions to bounds on the numbers, and back.
use mathlib.Core.Path.{◌≡◌}
use mathlib.Core.Bool.{true}
use Prim.Native.Nat.{ℕ, ◌^◌}
use native.Mathlib.Omega.{arith}
use lib.IntN.{ℤ, pos, neg_ℤ}
use Rattle.integers.specs.Orders.{◌≼◌}
use Rattle.integers.specs.Bound.{Abs}
use Rattle.integers.proofs.Ring.{ring, reify}
use Rattle.integers.proofs.Tests.{le_true, le_iff, and_both, and_true}
use Rattle.integers.proofs.Bound.{abs_iff}
use Rattle.edge.specs.declared.Edge.{Edge}
use Rattle.edge.specs.Edge.{up_to, fair}

-- a number that passes the test has the bound
pub test_bound : (m : ℕ) (z : ℤ) → up_to m z ≡ true → Abs z m
test_bound m z e = let p = and_both _ _ e in (abs_iff z m).1 (le_true p.0, le_true p.1)

-- and a number with the bound passes it
pub bound_test : (m : ℕ) (z : ℤ) → Abs z m → up_to m z ≡ true
bound_test m z h = let p = (abs_iff z m).0 h in and_true _ _ ((le_iff (neg_ℤ (pos m)) z).1 p.0) ((le_iff z (pos m)).1 p.1)

-- what lies between two numbers within the bound is within it
pub between_bound : (m : ℕ) (a z b : ℤ) → Abs a m → a ≼ z → z ≼ b → Abs b m → Abs z m
between_bound m a z b h l k i = (abs_iff z m).1 (inside (neg_ℤ (pos m)) a z b (pos m) ((abs_iff a m).0 h).0 l k ((abs_iff b m).0 i).1)
  where
    inside : (lo a z b hi : ℤ) → lo ≼ a → a ≼ z → z ≼ b → b ≼ hi → (lo ≼ z) × (z ≼ hi)
    inside = ring 5 _ (simp reify (omega arith))

-- ---- the numbers of an edge
pub record Small (e : Edge) : Type 0 where
  pub column_small : Abs e.column (2 ^ 40)
  pub rest_small : Abs e.rest (2 ^ 40)
  pub step_small : Abs e.step (2 ^ 40)
  pub more_small : Abs e.more (2 ^ 40)
  pub by_small : Abs e.by (2 ^ 40)

pub fair_small : (e : Edge) → fair e ≡ true → Small e
unfolding fair
fair_small e f =
    let a = and_both _ _ f in
    let b = and_both _ _ a.1 in
    let c = and_both _ _ b.1 in
    let d = and_both _ _ c.1 in
    record {
      column_small = test_bound (2 ^ 40) e.column a.0;
      rest_small = test_bound (2 ^ 40) e.rest b.0;
      step_small = test_bound (2 ^ 40) e.step c.0;
      more_small = test_bound (2 ^ 40) e.more d.0;
      by_small = test_bound (2 ^ 40) e.by d.1;
    }

pub small_fair : (e : Edge) → Small e → fair e ≡ true
unfolding fair
small_fair e s =
    and_true _ _ (bound_test (2 ^ 40) e.column s.column_small)
    (and_true _ _ (bound_test (2 ^ 40) e.rest s.rest_small)
    (and_true _ _ (bound_test (2 ^ 40) e.step s.step_small)
    (and_true _ _ (bound_test (2 ^ 40) e.more s.more_small) (bound_test (2 ^ 40) e.by s.by_small))))
