-- Of two tests one is passed; and the tests of a span.
use Prim.Native.Nat.{ℕ, ◌≤◌, ◌<◌}
use mathlib.Core.Path.{◌≡◌, refl, sym}
use mathlib.Core.Logic.{◌⊎◌, inl, inr, ◌↔◌}
use mathlib.Core.Bool.{Bool, true, false, cond, ◌&&◌, ◌||◌}
use native.Mathlib.Omega.{arith}
use borrow.Author.Tests.{ltb-true, leb-true, lt-ltb, le-leb, le-ltb, lt-leb}
use lib.Dec.{leb, ltb}
use Rattle.integers.proofs.Tests.{clash, and_both, and_true, and_false, false_and}
use Rattle.bits.specs.Bits.{span}

-- ---- one of two
pub one_of : (a b : Bool) → (a || b) ≡ true → (a ≡ true) ⊎ (b ≡ true)
one_of true b h = inl refl
one_of false b h = inr h

pub first_of : (a b : Bool) → a ≡ true → (a || b) ≡ true
first_of true b h = refl
first_of false b h = absurd (clash h refl)

pub second_of : (a b : Bool) → b ≡ true → (a || b) ≡ true
second_of true b h = refl
second_of false b h = h

-- a bit is 1 when both of its tests are passed
pub bit_set : (t u : Bool) → (◌≡◌ {A = ℕ} (cond (t && u) 1 0) 1) ↔ ((t ≡ true) × (u ≡ true))
bit_set true true = ((λ _. (refl, refl)), λ _. refl)
bit_set true false = ((λ e. absurd (omega (arith, e))), λ h. absurd (clash h.1 refl))
bit_set false u = ((λ e. absurd (omega (arith, e))), λ h. absurd (clash h.0 refl))

-- ---- a column of a span
pub in_span : (left end x : ℕ) → span left end x ≡ true → (left ≤ x) × (x < end)
in_span left end x h = let b = and_both (leb left x) (ltb x end) h in (leb-true left x b.0, ltb-true x end b.1)

pub is_in_span : (left end x : ℕ) → left ≤ x → x < end → span left end x ≡ true
is_in_span left end x h k = and_true (leb left x) (ltb x end) (le-leb left x h) (lt-ltb x end k)

-- no column before its first, or from its end on, is in it
pub span_before : (left end x : ℕ) → x < left → span left end x ≡ false
span_before left end x h = sym (false_and (leb left x) (ltb x end) (lt-leb left x h))

pub span_past : (left end x : ℕ) → end ≤ x → span left end x ≡ false
span_past left end x h = and_false (leb left x) (ltb x end) (le-ltb x end h)
