-- The first row past a height: the rule of heights goes one way below the height and the other way above it, so that only the row at it has to be asked.
use Prim.Native.Nat.{ℕ, ◌≤◌, ◌<◌}
use native.Mathlib.Nat.{lt_irrefl, le_of_lt}
use native.Mathlib.Omega.{arith}
use mathlib.Core.Path.{◌≡◌, refl}
use mathlib.Core.Bool.{Bool, true, false}
use lib.Dec.{le→leb, lt→ltb, ltb→lt}
use lib.IntN.{ℤ, pos, negsuc, nat_abs, ◌+ℤ◌, ◌*ℤ◌}
use lib.Signed.{le_z_yes, lt_z_yes}
use Rattle.integers.specs.Orders.{◌≼◌, ◌≺◌}
use Rattle.integers.specs.Bound.{Abs}
use Rattle.integers.specs.Floor.{floor_div}
use Rattle.integers.proofs.Ring.{ring, reify}
use Rattle.integers.proofs.Floor.{floor_div_lo, floor_div_hi}
use Rattle.integers.proofs.Tests.{clash}
use Rattle.ties.specs.Below.{below}
use Rattle.ties.proofs.Heights.{below_laws}
use Rattle.band.specs.Rows.{FirstPast, Past}

-- ---- either answer of the rule
-- a row strictly below the height lies below it, and one strictly above it does not
strictly_below : (h y : ℤ) → h ≺ y → below h y ≡ true
strictly_below h y l = go (below h y) refl
  where
    no : (h y : ℤ) → h ≺ y → y ≼ h → ⊥
    no = ring 2 _ (simp reify (omega arith))

    go : (b : Bool) → below h y ≡ b → b ≡ true
    go true e = refl
    go false e = absurd (no h y l (below_laws.past h y e))

strictly_above : (h y : ℤ) → y ≺ h → below h y ≡ false
strictly_above h y l = go (below h y) refl
  where
    no : (h y : ℤ) → y ≺ h → h ≼ y → ⊥
    no = ring 2 _ (simp reify (omega arith))

    go : (b : Bool) → below h y ≡ b → b ≡ false
    go true e = absurd (no h y l (below_laws.upto h y e))
    go false e = refl

-- ---- the row at the height, or the last one under it
abbrev last : ℤ → ℤ
last y = floor_div y (pos 16)

under_last : (y q j : ℤ) → pos 16 *ℤ q ≼ y → j ≺ q → pos 16 *ℤ j ≺ y
under_last = ring 3 _ λ ρ. simp (reify, ρ) (omega arith)

up_to_last : (q j : ℤ) → j ≺ q +ℤ pos 1 → pos 16 *ℤ j ≼ pos 16 *ℤ q
up_to_last = ring 2 _ λ ρ. simp (reify, ρ) (omega arith)

over_last : (y q j : ℤ) → y ≺ pos 16 *ℤ q +ℤ pos 16 → q +ℤ pos 1 ≼ j → y ≺ pos 16 *ℤ j
over_last = ring 3 _ λ ρ. simp (reify, ρ) (omega arith)

from_last : (y q j : ℤ) → q ≼ j → pos 16 *ℤ q ≼ pos 16 *ℤ j
from_last = ring 3 _ λ ρ. simp (reify, ρ) (omega arith)

sixteen : pos 0 ≺ pos 16
sixteen = lt_z_yes tt

-- where it lies below the height, the next row is the first past it
pub first_next : (y : ℤ) → below (pos 16 *ℤ last y) y ≡ true → FirstPast y (last y +ℤ pos 1)
first_next y e = record {
  under = λ j l. below_laws.lower (pos 16 *ℤ j) (pos 16 *ℤ last y) y (up_to_last (last y) j l) e;
  over = λ j l. strictly_above (pos 16 *ℤ j) y (over_last y (last y) j (floor_div_hi y (pos 16) sixteen) l);
}

-- where it does not, it is
pub first_here : (y : ℤ) → below (pos 16 *ℤ last y) y ≡ false → FirstPast y (last y)
first_here y e = record {
  under = λ j l. strictly_below (pos 16 *ℤ j) y (under_last y (last y) j (floor_div_lo y (pos 16) sixteen) l);
  over = λ j l. go j l (below (pos 16 *ℤ j) y) refl;
}
  where
    go : (j : ℤ) → last y ≼ j → (b : Bool) → below (pos 16 *ℤ j) y ≡ b → b ≡ false
    go j l true t = absurd (clash (below_laws.lower (pos 16 *ℤ last y) (pos 16 *ℤ j) y (from_last y (last y) j l) t) e)
    go j l false t = refl

-- ---- the same of the rows from `from` on and before `to`
as_int : {a b : ℕ} → a ≤ b → pos a ≼ pos b
as_int {a} {b} l = le_z_yes (le→leb a b l)

as_less : {a b : ℕ} → a < b → pos a ≺ pos b
as_less {a} {b} l = lt_z_yes (lt→ltb a b l)

trans_le : (a b c : ℤ) → a ≼ b → b ≼ c → a ≼ c
trans_le = ring 3 _ (simp reify (omega arith))

lt_le : (a b c : ℤ) → a ≺ b → b ≼ c → a ≺ c
lt_le = ring 3 _ (simp reify (omega arith))

module _ {y r : ℤ} {from to : ℕ} (f : FirstPast y r) (ordered : from ≤ to) where
  pub past_all : r ≼ pos from → Past y from to from
  past_all l = record {
    after = omega arith;
    before = ordered;
    under = λ j _ h. absurd (lt_irrefl from h);
    over = λ j h _. f.over (pos j) (trans_le r (pos from) (pos j) l (as_int h));
  }

  pub past_none : pos to ≼ r → Past y from to to
  past_none l = record {
    after = ordered;
    before = omega arith;
    under = λ j h _. f.under (pos j) (lt_le (pos j) (pos to) r (as_less h) l);
    over = λ j _ h. absurd (lt_irrefl to h);
  }

pub past_some : {y : ℤ} {from to : ℕ} (r : ℤ) → FirstPast y r → pos from ≺ r → r ≺ pos to → Past y from to (nat_abs r)
past_some {y} {from} {to} (pos n) f l h = record {
  after = le_of_lt (ltb→lt from n l.lt);
  before = le_of_lt (ltb→lt n to h.lt);
  under = λ j i _. f.under (pos j) (as_less i);
  over = λ j i _. f.over (pos j) (as_int i);
}
past_some (negsuc n) f l h = absurd l.lt

-- a row between two fits 16 bits where the upper one does
pub among : (from to : ℕ) (r : ℤ) → pos from ≺ r → r ≺ pos to → to < 65536 → Abs r 65535
among from to (pos n) l h f = record { abs = omega (arith, ltb→lt n to h.lt, f) }
among from to (negsuc n) l h f = absurd l.lt
