-- The rule of heights: by whether flat tops are kept, it is one order or the other, and each has the laws.
use mathlib.Core.Path.{◌≡◌, refl, sym, ◌∙◌}
use mathlib.Core.Logic.{◌↔◌}
use mathlib.Core.Bool.{Bool, true, false, not, cond}
use native.Mathlib.Omega.{arith}
use lib.IntN.{ℤ, pos, ◌+ℤ◌}
use lib.Signed.{le_z, lt_z}
use Rattle.integers.specs.Orders.{◌≼◌, ◌≺◌}
use Rattle.integers.proofs.Ring.{ring, reify}
use Rattle.integers.proofs.Order.{lt_le, le_trans}
use Rattle.integers.proofs.Tests.{clash, le_iff, lt_iff, le_false, lt_false, same_le, same_lt}
use Rattle.ties.specs.Kept.{kept}
use Rattle.ties.specs.Below.{below}
use Rattle.ties.specs.Theorems.{BelowSays, BelowLaws}
use Rattle.ties.proofs.Laws.{flat_up, flat_down}

-- ---- either order
abbrev order : Bool → ℤ → ℤ → Bool
order t h y = cond t (le_z h y) (lt_z h y)

upto : (t : Bool) (h y : ℤ) → order t h y ≡ true → h ≼ y
upto true h y e = (le_iff h y).0 e
upto false h y e = lt_le h y ((lt_iff h y).0 e)

past : (t : Bool) (h y : ℤ) → order t h y ≡ false → y ≼ h
past true h y e = lt_le y h (le_false e)
past false h y e = lt_false e

lt_le_lt : (a b c : ℤ) → a ≺ b → b ≼ c → a ≺ c
lt_le_lt = ring 3 _ (simp reify (omega arith))

le_lt_lt : (a b c : ℤ) → a ≼ b → b ≺ c → a ≺ c
le_lt_lt = ring 3 _ (simp reify (omega arith))

rising : (t : Bool) (h y z : ℤ) → order t h y ≡ false → order t h z ≡ true → y ≺ z
rising true h y z e f = lt_le_lt y h z (le_false e) ((le_iff h z).0 f)
rising false h y z e f = le_lt_lt y h z (lt_false e) ((lt_iff h z).0 f)

lower : (t : Bool) (g h y : ℤ) → g ≼ h → order t h y ≡ true → order t g y ≡ true
lower true g h y l e = (le_iff g y).1 (le_trans g h y l ((le_iff h y).0 e))
lower false g h y l e = (lt_iff g y).1 (le_lt_lt g h y l ((lt_iff h y).0 e))

higher : (t : Bool) (h y z : ℤ) → y ≼ z → order t h y ≡ true → order t h z ≡ true
higher true h y z l e = (le_iff h z).1 (le_trans h y z ((le_iff h y).0 e) l)
higher false h y z l e = (lt_iff h z).1 (lt_le_lt h y z ((lt_iff h y).0 e) l)

move_le : (h y d : ℤ) → (h +ℤ d ≼ y +ℤ d) ↔ (h ≼ y)
move_le = ring 3 _ (simp reify (omega arith))

move_lt : (h y d : ℤ) → (h +ℤ d ≺ y +ℤ d) ↔ (h ≺ y)
move_lt = ring 3 _ (simp reify (omega arith))

shifted : (t : Bool) (h y d : ℤ) → order t (h +ℤ d) (y +ℤ d) ≡ order t h y
shifted true h y d = same_le (move_le h y d)
shifted false h y d = same_lt (move_lt h y d)

-- where tops are dropped it is the strict order, and so is its opposite where bottoms are
under_top : (t : Bool) (h y : ℤ) → t ≡ false → order t h y ≡ true → h ≺ y
under_top true h y d e = absurd (clash refl d)
under_top false h y d e = (lt_iff h y).0 e

over_bottom : (t : Bool) (h y : ℤ) → not t ≡ false → order t h y ≡ false → y ≺ h
over_bottom true h y d e = le_false e
over_bottom false h y d e = absurd (clash refl d)

-- ---- the rule's
pub below_laws : BelowLaws
unfolding below
below_laws =
    let t = kept (pos 0) (pos 1) in
    record {
      upto = upto t;
      past = past t;
      rising = rising t;
      lower = lower t;
      higher = higher t;
      shifted = shifted t;
      under_top = λ h y b l d. under_top t h y (sym (flat_up b l) ∙ d);
      over_bottom = λ h y b l d. over_bottom t h y (sym (flat_down b l) ∙ d);
    }

-- flat tops are kept
pub below_le : (h y : ℤ) → below h y ≡ le_z h y
unfolding below kept
below_le h y = refl

pub below_says : BelowSays
unfolding below kept
below_says h y = le_iff h y
