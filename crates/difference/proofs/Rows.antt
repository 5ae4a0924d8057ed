-- A row by its parts, as the code adds them up.
use Prim.Native.Nat.{ℕ, ◌+◌, ◌*◌, ◌/◌, ◌%◌}
use native.Mathlib.Omega.{arith}
use mathlib.Core.Path.{◌≡◌, sym, ap, ◌∙◌}
use mathlib.Core.List.{List}
use Rattle.difference.specs.Apart.{apart, differing}
use Rattle.difference.specs.Code.{differing_from}
use Rattle.difference.proofs.Counting.{count_add}

module _ (a b : List ℕ) where
  -- the columns before `first`, and n from it on
  part_more : (first n : ℕ) → differing a b first + differing_from a b first n ≡ differing a b (first + n)
  part_more first n = sym (count_add (apart a b) first n)

  -- a word more
  pub word_more : (i : ℕ) → differing a b (64 * i) + differing_from a b (8 * (8 * i)) 64 ≡ differing a b (64 * (i + 1))
  word_more i =
      let place : 8 * (8 * i) ≡ 64 * i = omega arith in
      let after : 64 * i + 64 ≡ 64 * (i + 1) = omega arith in
      ap (λ (m : ℕ). differing a b (64 * i) + differing_from a b m 64) place ∙ part_more (64 * i) 64 ∙ ap (differing a b) after

  -- a byte more
  pub byte_more : (k : ℕ) → differing a b (8 * k) + differing_from a b (8 * k) 8 ≡ differing a b (8 * (k + 1))
  byte_more k = let after : 8 * k + 8 ≡ 8 * (k + 1) = omega arith in part_more (8 * k) 8 ∙ ap (differing a b) after

  -- whole bytes, and the columns of a last byte
  pub rest_more : (columns : ℕ) → differing a b (8 * (columns / 8)) + differing_from a b (8 * (columns / 8)) (columns % 8) ≡ differing a b columns
  rest_more columns =
      let all : 8 * (columns / 8) + columns % 8 ≡ columns = omega arith in part_more (8 * (columns / 8)) (columns % 8) ∙ ap (differing a b) all
