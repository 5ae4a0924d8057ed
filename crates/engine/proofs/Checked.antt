-- Where a row call's checks of a path, a raster and a row are passed: of another row of that raster only the row's own check is left.
use Prim.Native.Nat.{ℕ, ◌<◌}
use native.Mathlib.Omega.{arith}
use mathlib.Core.Path.{◌≡◌, refl}
use mathlib.Core.List.{List}
use lib.IntN.{ℤ}
use Rattle.integers.proofs.Tests.{and_both}
use Rattle.limits.specs.Sizes.{raster_max, is_size, Size}
use Rattle.limits.specs.declared.Verdict.{Verdict}
use Rattle.limits.specs.declared.Verdict.TheVariants.{Passed, Refused}
use Rattle.limits.specs.Refusal.{raster, ◌then◌}
use Rattle.limits.proofs.Sizes.{size_iff}
use Rattle.limits.proofs.Verdicts.{then_both, unless_true}
use Rattle.checks.specs.Checks.{path_verdict, raster_verdict, row_verdict, coordinate_verdict, verdict}

then_passed : (v : Verdict) → (v then Passed) ≡ v
then_passed Passed = refl
then_passed (Refused n place) = refl

module _ (p : List ℤ) (columns rows j : ℕ) (e : verdict p columns rows j ≡ Passed) where
  -- the checks that do not speak of the row
  pub others : (path_verdict p ≡ Passed) × (raster_verdict columns rows ≡ Passed) × (coordinate_verdict p ≡ Passed)
  others =
      let a = then_both (path_verdict p) (raster_verdict columns rows then row_verdict rows j then coordinate_verdict p) e in
      let b = then_both (raster_verdict columns rows) (row_verdict rows j then coordinate_verdict p) a.1 in
      (a.0, b.0, (then_both (row_verdict rows j) (coordinate_verdict p) b.1).1)

  pub row_left_lem : (i : ℕ) → verdict p columns rows i ≡ row_verdict rows i
  row_left_lem i = rw (others.0, others.1, others.2) (then_passed (row_verdict rows i))

  -- and the raster has a size
  pub rows_size : Size rows
  rows_size = (size_iff rows).0 (and_both (is_size columns) (is_size rows) (unless_true _ raster others.1)).1

  pub row_low : (i : ℕ) → i < rows → i < raster_max
  row_low i h = omega (arith, h, rows_size.few)
