-- Both tests of the definition, of the numbers that the bits are.
use Rattle.std.proofs.Common.{◌≡◌, ◌∙◌, sym, ap, ◌^◌, ℤ, pos, ◌+ℤ◌, ◌-ℤ◌, ◌*ℤ◌, to_z, w64}
use Rattle.std.specs.Int.{int_max, int_min}
use Rattle.std.specs.Int.Signed.{le_z}
use Rattle.integers.specs.Bound.{Abs}
use Rattle.integers.specs.Compare.{min_z, max_z}
use Rattle.integers.proofs.Greater.{greater_is, lesser_is}
use Rattle.integers.proofs.Tests.{true_and, false_and}
use Rattle.integers.proofs.Machine.{Is, known, num, mul, add, add_fits, sub, sub_fits, le_z_at}
use Rattle.integers.proofs.Words.{bits, ◌⊖◌, ◌⊗◌}
use Rattle.extent.specs.declared.side.Ends.{Ends}
use Rattle.extent.specs.Held.{Near}
use Rattle.extent.proofs.side.reached.Goals as goal

-- how far the pen reaches
far : {r : ℤ} → Abs r 128 → Is w64 (pos 8 *ℤ r) (bits (pos 8) ⊗ bits r) 1024
far h = mul (num (pos 8) tt) (known h tt) tt

module _ {g : Ends} (n : Near g) {r : ℤ} where
  -- the lesser and the greater y of the ends
  low : r ≡ int_min (to_z w64 (bits g.ay)) (to_z w64 (bits g.by)) → Is w64 (min_z g.ay g.by) (bits r) (2 ^ 19)
  low e = lesser_is (known n.ay_small tt) (known n.by_small tt) e

  high : r ≡ int_max (to_z w64 (bits g.ay)) (to_z w64 (bits g.by)) → Is w64 (max_z g.ay g.by) (bits r) (2 ^ 19)
  high e = greater_is (known n.ay_small tt) (known n.by_small tt) e

-- the first test
lower : {g : Ends} {r far_lem R : ℤ} → Near g → Abs far_lem 128 → r ≡ int_min (to_z w64 (bits g.ay)) (to_z w64 (bits g.by)) → far_lem ≡ R →
    le_z (to_z w64 (bits r ⊖ bits (pos 8) ⊗ bits far_lem)) (to_z w64 (bits (pos 0))) ≡ le_z (min_z g.ay g.by -ℤ pos 8 *ℤ R) (pos 0)
lower {g} n h e q = le_z_at (sub (low n e) (far h) tt) (num (pos 0) tt) ∙ ap (λ (d : ℤ). le_z (min_z g.ay g.by -ℤ pos 8 *ℤ d) (pos 0)) q

pub overflow_sub-min : goal.overflow_sub-min
overflow_sub-min c = sub_fits (low c.requires.near c.min.ensures.value) (far c.reach-far.ensures.small) tt

pub overflow_add-result : goal.overflow_add-result
overflow_add-result c = add_fits (high c.requires.near c.max.ensures.value) (far c.reach-far.ensures.small) tt

pub returns-then-min-far-le0 : goal.returns-then-min-far-le0
returns-then-min-far-le0 c xs h =
    let g = c.args.g in
    le_z_at (num (pos 0) tt) (add (high c.requires.near c.max.ensures.value) (far c.reach-far.ensures.small) tt)
    ∙ ap (λ (d : ℤ). le_z (pos 0) (max_z g.ay g.by +ℤ pos 8 *ℤ d)) (c.reach-far.ensures.answer xs h)
    ∙ true_and _ _ (sym (lower c.requires.near c.reach-far.ensures.small c.min.ensures.value (c.reach-far.ensures.answer xs h)) ∙ c.if-min-far-le0.true)

pub returns-else-min-far-le0 : goal.returns-else-min-far-le0
returns-else-min-far-le0 c xs h =
    c.if-min-far-le0.false ∙ false_and _ _ (sym (lower c.requires.near c.reach-far.ensures.small c.min.ensures.value (c.reach-far.ensures.answer xs h)) ∙ c.if-min-far-le0.false)
