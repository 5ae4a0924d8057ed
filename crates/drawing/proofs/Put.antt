-- How long a band is, and what the raster's check says.
use Prim.Native.Nat.{ℕ, zero, suc, ◌+◌, ◌*◌, ◌≤◌}
use native.Mathlib.Nat.{mul-le-mul}
use native.Mathlib.Omega.{arith}
use mathlib.Core.Path.{◌≡◌, refl, ◌∙◌}
use lib.ListN.{length, length-replicate}
use Rattle.limits.specs.Sizes.{raster_max, Size}
use Rattle.limits.specs.declared.Verdict.TheVariants.{Passed}
use Rattle.limits.proofs.Sizes.{size_iff}
use Rattle.bits.specs.Bits.{packed_length}
use Rattle.bits.proofs.Over.{over_length}
use Rattle.checks.specs.Checks.{raster_verdict}
use Rattle.pbm.proofs.Pieces.{raster_sizes}
use Rattle.pbm.proofs.Theorems.{top_first_lem}
use Rattle.drawing.specs.Strokes.{Drawing}
use Rattle.drawing.specs.Film.{row_up_to, band_of, band_up_to}

-- ---- lengths
pub row_long : (d : Drawing) (columns rows j width k : ℕ) → length (row_up_to d columns rows j width k) ≡ width
unfolding row_up_to
row_long d columns rows j width zero = length-replicate width 0
row_long d columns rows j width (suc k) = over_length (row_up_to d columns rows j width k) _ ∙ row_long d columns rows j width k

pub up_to_long : (d : Drawing) (columns rows first n k : ℕ) → length (band_up_to d columns rows first n k) ≡ n * packed_length columns
up_to_long d columns rows first n k =
    let width = packed_length columns in
    (top_first_lem n width (λ j. row_up_to d columns rows (first + j) width k) (λ j _. row_long d columns rows (first + j) width k)).size

pub band_long : (d : Drawing) (columns rows first n : ℕ) → length (band_of d columns rows first n) ≡ n * packed_length columns
band_long d columns rows first n = up_to_long d columns rows first n (length d.apertures)

-- ---- how long they are at most
pub raster_passed : (columns rows : ℕ) → raster_verdict columns rows ≡ Passed → Size columns × Size rows
raster_passed columns rows e = let b = raster_sizes columns rows refl e in ((size_iff columns).0 b.0, (size_iff rows).0 b.1)

pub rows_most : {columns n : ℕ} → Size columns → n ≤ raster_max → n * packed_length columns ≤ raster_max * 2048
rows_most {columns} {n} s h = let w : packed_length columns ≤ 2048 = omega (arith, s.few) in mul-le-mul h w
