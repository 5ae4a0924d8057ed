-- What the number of differing pixels is. The claims are types; proofs/Theorems.antt proves each under its name.
use Rattle.std.specs.Prelude.{ℕ, ◌≤◌, ◌<◌, ◌≡◌, ◌↔◌, ◌⊎◌, true, false, List}
use Rattle.integers.specs.Count.{Number}
use Rattle.wire.specs.Theorems.{AreBytes}
use Rattle.bits.specs.Bits.{bit_at}
use Rattle.difference.specs.Apart.{apart, differing}
use Rattle.difference.specs.RowOnes.{row_ones}

-- what it is to differ: the first row has the column black and the second not, or the second has it and the first not
abbrev pub OneBlack : Type 0
OneBlack = (a b : List ℕ) (x : ℕ) → (apart a b x ≡ true) ↔ (((bit_at a x ≡ true) × (bit_at b x ≡ false)) ⊎ ((bit_at a x ≡ false) × (bit_at b x ≡ true)))

-- "the number of differing pixels": so many columns of the raster are apart
abbrev pub DifferingNumber : Type 0
DifferingNumber = (a b : List ℕ) (columns : ℕ) → Number (λ x. (x < columns) × (apart a b x ≡ true)) (differing a b columns)

-- "and that is the count of ones in the two rows' difference without spare bits"
abbrev pub OnesNumber : Type 0
OnesNumber = (a b : List ℕ) → AreBytes a → AreBytes b → (columns : ℕ) → row_ones a b columns ≡ differing a b columns

-- "without spare bits": only the pixels count, so rows with the same pixels have the same number, whatever their other bits are
abbrev pub SamePixels : Type 0
SamePixels = (a a' b b' : List ℕ) (columns : ℕ) → ((x : ℕ) → x < columns → bit_at a x ≡ bit_at a' x) → ((x : ℕ) → x < columns → bit_at b x ≡ bit_at b' x) →
    differing a b columns ≡ differing a' b' columns

-- a row laid over itself: nothing differs
abbrev pub OverItself : Type 0
OverItself = (a : List ℕ) (columns : ℕ) → differing a a columns ≡ 0

-- no more pixels differ than there are
abbrev pub FewDiffer : Type 0
FewDiffer = (a b : List ℕ) (columns : ℕ) → differing a b columns ≤ columns
