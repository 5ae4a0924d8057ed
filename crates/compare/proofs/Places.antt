-- A row's pixels by the places of the file. They hold of any bytes: where the file ends too early, both sides read 0 past its end.
use Prim.Native.Nat.{ℕ, ◌+◌, ◌-◌, ◌*◌, ◌/◌, ◌%◌, ◌^◌, ◌<◌}
use native.Mathlib.Omega.{arith}
use mathlib.Core.Path.{◌≡◌, sym, ap, ◌∙◌}
use mathlib.Core.Logic.{◌↔◌, inl, inr}
use mathlib.Core.Bool.{true, false}
use mathlib.Core.List.{List}
use borrow.Author.Tests.{eqb-true, eq-eqb, ne_eqb}
use lib.ListN.{length, get_or, drop}
use lib.Seq.{get_or-take, get_or-drop}
use Rattle.integers.proofs.Tests.{clash, same_test}
use Rattle.bits.specs.Bits.{packed_length, bit_at}
use Rattle.pbm.specs.Pbm.{header}
use Rattle.lines.specs.Theorems.{OnlyIn}
use Rattle.compare.specs.Report.{row_in}
use Rattle.compare.specs.Theorems.{BlackIn, OnlyFilm, SamePixel}
use Rattle.compare.proofs.Told.{film_row}

-- byte k of a row stands k bytes behind the row's first
pub row_byte : (f : List ℕ) (columns rows start j k : ℕ) → k < packed_length columns →
    get_or (row_in f columns rows start j) k 0 ≡ get_or f (start + (rows - 1 - j) * packed_length columns + k) 0
row_byte f columns rows start j k h =
    let at : ℕ = start + (rows - 1 - j) * packed_length columns in
    get_or-take (packed_length columns) (drop at f) k 0 h ∙ get_or-drop at f k 0

module _ (columns rows i j : ℕ) (h : i < columns) where
  -- the bit of column i in a byte, and where it is read: in row j, and in the file
  abbrev value : ℕ → ℕ
  value byte = byte / 2 ^ (7 - i % 8) % 2

  abbrev in_row : List ℕ → ℕ
  in_row f = value (get_or (film_row f columns rows j) (i / 8) 0)

  abbrev in_file : List ℕ → ℕ
  in_file f = value (get_or f (length (header columns rows) + (rows - 1 - j) * packed_length columns + i / 8) 0)

  -- the byte of column i is one of the row's, so that its bit is that of the file
  same_bit : (f : List ℕ) → in_row f ≡ in_file f
  same_bit f = ap value (row_byte f columns rows (length (header columns rows)) j (i / 8) (omega arith))

  -- a pixel that is black in its row is black in its film
  pub black_bit : (f : List ℕ) → (bit_at (film_row f columns rows j) i ≡ true) ↔ BlackIn f columns rows i j
  black_bit f = (
    (λ e. sym (same_bit f) ∙ eqb-true (in_row f) 1 e),
    λ e. eq-eqb (in_row f) 1 (same_bit f ∙ e),
  )

  -- and one that is not black is not
  pub clear_bit : (f : List ℕ) → (bit_at (film_row f columns rows j) i ≡ false) ↔ ¬ BlackIn f columns rows i j
  clear_bit f = (
    (λ e b. clash ((black_bit f).1 b) e),
    λ n. ne_eqb (in_row f) 1 (λ e. n (sym (same_bit f) ∙ e)),
  )

  -- so of two films the rows say which has the pixel black
  pub only_bit : (f g : List ℕ) (film : ℕ) → OnlyIn (film_row f columns rows j) (film_row g columns rows j) i film ↔ OnlyFilm f g columns rows i j film
  only_bit f g film = (
    (λ o. elim o [
      | inl k ↦ inl (k.0, ((black_bit f).0 k.1.0, (clear_bit g).0 k.1.1))
      | inr k ↦ inr (k.0, ((clear_bit f).0 k.1.0, (black_bit g).0 k.1.1))
    ]),
    λ o. elim o [
      | inl k ↦ inl (k.0, ((black_bit f).1 k.1.0, (clear_bit g).1 k.1.1))
      | inr k ↦ inr (k.0, ((clear_bit f).1 k.1.0, (black_bit g).1 k.1.1))
    ],
  )

-- films with the same pixels have the same bits in their columns
pub same_bits : (f f' : List ℕ) (columns rows j : ℕ) → SamePixel f f' columns rows → j < rows → (i : ℕ) → i < columns →
    bit_at (film_row f columns rows j) i ≡ bit_at (film_row f' columns rows j) i
same_bits f f' columns rows j same below i h =
    let black = black_bit columns rows i j h in
    same_test (bit_at (film_row f columns rows j) i) (bit_at (film_row f' columns rows j) i)
    (λ e. (black f').1 ((same i j h below).0 ((black f).0 e)))
    (λ e. (black f).1 ((same i j h below).1 ((black f').0 e)))
