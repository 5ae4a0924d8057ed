-- What the drawer writes is a film: its header, the rows behind it, and in their bits the pixels that were packed.
use Prim.Native.Nat.{ℕ, ◌+◌, ◌-◌, ◌*◌, ◌/◌, ◌%◌, ◌^◌, ◌<◌}
use native.Mathlib.Omega.{arith}
use mathlib.Core.Path.{◌≡◌, refl, sym, ap, ◌∙◌}
use mathlib.Core.Logic.{◌↔◌}
use mathlib.Core.Bool.{Bool, true, ◌&&◌}
use mathlib.Core.List.{List}
use lib.Dec.{ltb}
use lib.ListN.{length, get_or, length-append}
use lib.Seq.{get_or-append-add}
use borrow.Author.Tests.{lt-ltb, eqb-true, eq-eqb}
use Rattle.integers.proofs.Tests.{true_and, and_true}
use Rattle.limits.specs.Sizes.{is_size, Size}
use Rattle.limits.proofs.Sizes.{size_iff}
use Rattle.bits.specs.Bits.{packed_length, packed, bit_at}
use Rattle.bits.proofs.Bytes.{packed_length_lem}
use Rattle.bits.proofs.Theorems.{packed_black}
use Rattle.pbm.specs.Pbm.{header, top_first, file}
use Rattle.pbm.specs.Theorems.{Downwards}
use Rattle.pbm.proofs.Headed.{raster_iff}
use Rattle.pbm.proofs.Theorems.{top_first_lem}
use Rattle.compare.specs.Theorems.{Film, BlackIn, DrawnFilm}

-- a row as it is packed, and the file of them all
module _ (black : ℕ → ℕ → Bool) (columns rows : ℕ) where
  abbrev row : ℕ → List ℕ
  row j = packed (black j) columns

  abbrev drawn : List ℕ
  drawn = file columns rows row

  -- each packed row has the same number of bytes, so that the rows lie where the file's form says
  lies : Downwards rows (packed_length columns) row (top_first rows row)
  lies = top_first_lem rows (packed_length columns) row (λ j _. packed_length_lem (black j) columns)

  -- sizes inside their limits are those of a raster
  raster : Size columns → Size rows → (is_size columns && is_size rows) ≡ true
  raster c r = and_true (is_size columns) (is_size rows) ((size_iff columns).1 c) ((size_iff rows).1 r)

  -- the header stands at the start by the file's own definition, and the rows behind it fill as many bytes as a film's do
  whole_film : Size columns → Size rows → Film drawn columns rows
  whole_film c r = record {
    start = length (header columns rows);
    head = record { rest = top_first rows row; text = refl; sizes = (raster_iff columns rows).0 (raster c r); long = refl };
    size = length-append (header columns rows) _ ∙ ap (λ (k : ℕ). length (header columns rows) + k) lies.size;
  }

  -- byte k of row j, found behind the header and the rows above
  drawn_byte : (j k : ℕ) → j < rows → k < packed_length columns →
      get_or drawn (length (header columns rows) + (rows - 1 - j) * packed_length columns + k) 0 ≡ get_or (row j) k 0
  drawn_byte j k hj hk =
      let start = length (header columns rows) in
      let above = (rows - 1 - j) * packed_length columns in
      let place : start + above + k ≡ start + (above + k) = omega arith in
      ap (λ (i : ℕ). get_or drawn i 0) place ∙ get_or-append-add (header columns rows) (top_first rows row) (above + k) 0 ∙ lies.byte j k hj hk

  -- a column of the raster is black in the packed row exactly when it was to be
  packed_pixel : (i j : ℕ) → i < columns → bit_at (row j) i ≡ black j i
  packed_pixel i j h = packed_black (black j) columns i ∙ sym (true_and (ltb i columns) (black j i) (lt-ltb i columns h))

  -- so is its bit in the file, which is the bit of that byte
  drawn_pixel : (i j : ℕ) → i < columns → j < rows → BlackIn drawn columns rows i j ↔ (black j i ≡ true)
  drawn_pixel i j hi hj =
      let byte = drawn_byte j (i / 8) hj (omega arith) in
      let bit = ap (λ (v : ℕ). v / 2 ^ (7 - i % 8) % 2) byte in
      let pixel = packed_pixel i j hi in
      ((λ b. sym pixel ∙ eq-eqb _ 1 (sym bit ∙ b)), λ b. bit ∙ eqb-true _ 1 (pixel ∙ b))

-- both together, for any pixels
pub drawn_film : DrawnFilm
drawn_film black columns rows c r = record { film = whole_film black columns rows c r; pixels = drawn_pixel black columns rows }
