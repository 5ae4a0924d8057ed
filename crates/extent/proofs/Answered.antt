-- What is answered: nothing outside the limits or the reach, else the columns that all sides leave. And what the limits say of the numbers.
use Prim.Native.Nat.{ℕ, ◌^◌, ◌<◌}
use mathlib.Core.Path.{◌≡◌, sym, ap, ◌∙◌, subst}
use mathlib.Core.Bool.{true, false, ◌&&◌}
use mathlib.Core.List.{List}
use Rattle.std.specs.Prelude.{None}
use lib.IntN.{ℤ, pos, neg_ℤ, ◌-ℤ◌, ◌*ℤ◌}
use lib.Signed.{le_z}
use borrow.Author.Tests.{ltb-true}
use Rattle.integers.specs.Bound.{Abs}
use Rattle.integers.proofs.Tests.{and_both, le_true}
use Rattle.integers.proofs.Bound.{abs_iff, abs_sub}
use Rattle.limits.proofs.Rows.{row_place}
use Rattle.plane.specs.Point.{Pt}
use Rattle.extent.specs.declared.side.Ends.{Ends}
use Rattle.stroke.specs.Sweep.{Seg}
use Rattle.stroke.specs.Sides.{sides}
use Rattle.stroke.specs.Extent.{Left, narrowed, span_of, reached, extent}
use Rattle.limits.specs.Sizes.{coordinate_max, in_range, raster_max, is_row}
use Rattle.extent.specs.Answer.{seg, allowed, answered, extent_of}
use Rattle.extent.specs.Held.{start, Near, ends, from_row}
use Rattle.extent.proofs.FromRow.{narrowed_from, reached_from}

-- ---- the same ends have the same extent
pub same_extent : (cs : List Pt) (j : ℕ) {ax ay bx by ax' ay' bx' by' : ℤ} → ax ≡ ax' → ay ≡ ay' → bx ≡ bx' → by ≡ by' →
    extent_of cs ax ay bx by j ≡ extent_of cs ax' ay' bx' by' j
same_extent cs j a b c d = cc

-- ---- numbers within the limits
range_small : (z : ℤ) → in_range z ≡ true → Abs z (2 ^ 18)
unfolding in_range
range_small z e =
    let h = and_both (le_z (neg_ℤ (pos coordinate_max)) z) (le_z z (pos coordinate_max)) e in
    (abs_iff z coordinate_max).1 (le_true h.0, le_true h.1)

module _ (ax ay bx by : ℤ) (j : ℕ) (e : allowed ax ay bx by j ≡ true) where
  parts : ((in_range ax ≡ true) × (in_range ay ≡ true)) × ((in_range bx ≡ true) × (in_range by ≡ true)) × (is_row j ≡ true)
  parts =
      let h = and_both (in_range ax && in_range ay) ((in_range bx && in_range by) && is_row j) e in
      let k = and_both (in_range bx && in_range by) (is_row j) h.1 in
      (and_both (in_range ax) (in_range ay) h.0, and_both (in_range bx) (in_range by) k.0, k.1)

  pub allowed_low : j < raster_max
  allowed_low = ltb-true j raster_max parts.2

  pub allowed_near : (g : Ends) → ends g ≡ from_row (pos j) (seg ax ay bx by) → Near g
  allowed_near g q = record {
    ax_small = small (λ s. s.from.x) (range_small ax parts.0.0);
    ay_small = small (λ s. s.from.y) (height ay parts.0.1);
    bx_small = small (λ s. s.to.x) (range_small bx parts.1.0);
    by_small = small (λ s. s.to.y) (height by parts.1.1);
  }
    where
      height : (y : ℤ) → in_range y ≡ true → Abs (y -ℤ pos 16 *ℤ pos j) (2 ^ 19)
      height y h = abs_sub (range_small y h) (row_place allowed_low).abs

      small : {n : ℕ} (f : Seg → ℤ) → Abs (f (from_row (pos j) (seg ax ay bx by))) n → Abs (f (ends g)) n
      small {n} f h = subst (λ (s : Seg). Abs (f s) n) (sym q) h

-- ---- the three answers
module _ (cs : List Pt) (ax ay bx by : ℤ) (j : ℕ) where
  pub none_outside : allowed ax ay bx by j ≡ false → None ≡ extent_of cs ax ay bx by j
  unfolding extent_of
  none_outside e = rw (e, extent_of)

  pub none_beyond : allowed ax ay bx by j ≡ true → reached cs (from_row (pos j) (seg ax ay bx by)) (pos 0) ≡ false → None ≡ extent_of cs ax ay bx by j
  unfolding extent_of extent
  none_beyond e f = let r = sym (reached_from (pos j) cs (seg ax ay bx by)) ∙ f in rw (e, r, extent_of)

  pub some_within : allowed ax ay bx by j ≡ true → reached cs (from_row (pos j) (seg ax ay bx by)) (pos 0) ≡ true →
      answered (span_of (narrowed (pos 0) (sides cs (from_row (pos j) (seg ax ay bx by))) start)) ≡ extent_of cs ax ay bx by j
  unfolding extent_of extent
  some_within e f =
      let r = sym (reached_from (pos j) cs (seg ax ay bx by)) ∙ f in
      ap (λ (l : Left). answered (span_of l)) (narrowed_from (pos j) cs (seg ax ay bx by) start) ∙ rw (e, r, extent_of)
