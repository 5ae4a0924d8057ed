-- What is checked of a band, by the tests of the code: the highest row, and the room.
use Prim.Native.Nat.{ℕ, ◌+◌, ◌-◌, ◌/◌, ◌≤◌, ◌<◌}
use native.Mathlib.Nat.{div-zero}
use native.Mathlib.Omega.{arith}
use mathlib.Core.Path.{◌≡◌, refl, sym}
use mathlib.Core.Bool.{Bool, true, false, cond}
use borrow.Author.Tests.{le-leb, lt-leb, lt-ltb, le-ltb}
use lib.Dec.{leb, ltb}
use Rattle.integers.proofs.Tests.{and_true, and_false, false_and}
use Rattle.bits.specs.Bits.{packed_length}
use Rattle.band.specs.Band.{top_row, room_for}

-- ---- the highest row
module _ (rows first n : ℕ) where
  pub top_none : n ≡ 0 → rows ≡ top_row rows first n
  top_none e = rw (sym (false_and (ltb 0 n) (leb (first + n) rows) (le-ltb 0 n (omega arith))))

  pub top_past : rows < first + n → rows ≡ top_row rows first n
  top_past h = rw (and_false (ltb 0 n) (leb (first + n) rows) (lt-leb (first + n) rows h))

  pub top_is : 1 ≤ n → first + n ≤ rows → first + (n - 1) ≡ top_row rows first n
  top_is h k = rw (and_true (ltb 0 n) (leb (first + n) rows) (lt-ltb 0 n h) (le-leb (first + n) rows k))

-- ---- the room
module _ (columns stride len : ℕ) where
  pub room_without : stride ≡ 0 → 0 ≡ room_for columns stride len
  room_without e = go (leb (packed_length columns) stride)
    where
      go : (t : Bool) → 0 ≡ cond t (len / stride) 0
      go true = rw (e, div-zero len)
      go false = refl

  pub room_narrow : stride < packed_length columns → 0 ≡ room_for columns stride len
  room_narrow h = rw (lt-leb (packed_length columns) stride h)

  pub room_is : packed_length columns ≤ stride → len / stride ≡ room_for columns stride len
  room_is h = rw (le-leb (packed_length columns) stride h)
