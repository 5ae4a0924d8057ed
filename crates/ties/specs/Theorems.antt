-- The rule of kept sides a second way, and the laws that the proofs of demands 2 and 3 use. Each claim is a type; proofs/Theorems.antt proves it.
use Rattle.std.specs.Prelude.{◌≡◌, ◌↔◌, ◌⊎◌, true, false, not, ℤ, pos, neg_ℤ, ◌+ℤ◌, ◌*ℤ◌}
use Rattle.integers.specs.Orders.{◌≼◌, ◌≺◌}
use Rattle.ties.specs.Kept.{kept}
use Rattle.ties.specs.Below.{below}

-- the normals that are kept, one by one: those to the right, and the one straight up
abbrev pub KeptSays : Type 0
KeptSays = (a b : ℤ) → (kept a b ≡ true) ↔ ((pos 0 ≺ a) ⊎ ((a ≡ pos 0) × (pos 0 ≺ b)))

-- What those proofs use: of opposite normals exactly one is kept; a normal with a rightward part is; and a normal's length plays no part. Which of the two flat
-- sides it is that is kept is none of these: so what is proved from them, line weight too, holds either way up.
pub record KeptLaws : Type 0 where
  pub one : (a b : ℤ) → ¬ ((a ≡ pos 0) × (b ≡ pos 0)) → kept (neg_ℤ a) (neg_ℤ b) ≡ not (kept a b)
  pub rightward : (a b : ℤ) → pos 0 ≺ a → kept a b ≡ true
  pub times : (t a b : ℤ) → pos 0 ≺ t → kept (t *ℤ a) (t *ℤ b) ≡ kept a b

abbrev pub KeptHas : Type 0
KeptHas = KeptLaws

-- the rows that meet an edge up to the height y: the one at y too
abbrev pub BelowSays : Type 0
BelowSays = (h y : ℤ) → (below h y ≡ true) ↔ (h ≼ y)

-- What the proofs of the outline use of it. None of these says which end of an edge it is that belongs to it.
pub record BelowLaws : Type 0 where
  -- a row up to y is no higher, and one past y no lower; and a row that is past y and not past z lies on an edge that rises
  pub upto : (h y : ℤ) → below h y ≡ true → h ≼ y
  pub past : (h y : ℤ) → below h y ≡ false → y ≼ h
  pub rising : (h y z : ℤ) → below h y ≡ false → below h z ≡ true → y ≺ z
  -- lower rows, and higher ends; and both moved by as much
  pub lower : (g h y : ℤ) → g ≼ h → below h y ≡ true → below g y ≡ true
  pub higher : (h y z : ℤ) → y ≼ z → below h y ≡ true → below h z ≡ true
  pub shifted : (h y d : ℤ) → below (h +ℤ d) (y +ℤ d) ≡ below h y
  -- it goes with the rule of flat sides: a row that meets a dropped one, straight up at y or straight down, is not among the rows up to y, or past it
  pub under_top : (h y b : ℤ) → pos 0 ≺ b → kept (pos 0) b ≡ false → below h y ≡ true → h ≺ y
  pub over_bottom : (h y b : ℤ) → b ≺ pos 0 → kept (pos 0) b ≡ false → below h y ≡ false → y ≺ h

abbrev pub BelowHas : Type 0
BelowHas = BelowLaws
