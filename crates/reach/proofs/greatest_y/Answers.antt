-- The greatest so far; one entry in two is a y.
use Rattle.std.proofs.Common.{◌≡◌, ◌∙◌, ℕ, ◌+◌, ◌*◌, ◌<◌, ◌≤◌, length, get_or, subst, sym, arith, rules, ℤ, pos, neg_ℤ, w64, to_z, of_z}
use Rattle.std.specs.Int.{int_max}
use Rattle.integers.proofs.Greater.{int_max_is}
use Rattle.limits.specs.Sizes.{coordinate_max}
use Rattle.reach.proofs.Pass.{Passed, passed_none, passed_next, passed_all}
use Rattle.reach.proofs.Heights.{greatest_together}
use Rattle.reach.proofs.greatest_y.Goals as goal

pub loop-k-init : goal.loop-k-init
loop-k-init c =
    let none : to_z w64 (of_z w64 c.from-greatest.result) ≡ neg_ℤ (pos coordinate_max) = search rules in
    subst (λ (y : ℤ). Passed greatest_together c.args.path.now y 1) (sym none) (passed_none greatest_together c.args.path.now)

pub loop-k-preserved : goal.loop-k-preserved
loop-k-preserved c =
    let path = c.args.path.now in
    let k = c.loop-k.k in
    let inside : 2 * k + 1 < length path = omega (arith, c.loop-k-test.true) in
    let i : 2 * k + 1 + 2 ≡ 2 * (k + 1) + 1 = omega arith in
    let next : (m : ℤ) → m ≡ int_max (to_z w64 c.loop-k.greatest-bits) (get_or path (2 * k + 1) (pos 0)) → Passed greatest_together path m (2 * (k + 1) + 1) =
    λ m e. subst (λ (j : ℕ). Passed greatest_together path m j) i (passed_next greatest_together c.loop-k.invariant inside (e ∙ int_max_is (to_z w64 c.loop-k.greatest-bits) (get_or path (2 * k + 1) (pos 0)))) in
    next _ (search rules)

pub returns : goal.returns
returns c = let past : length c.args.path.now ≤ 2 * c.loop-k.k + 1 = omega (arith, c.loop-k-test.false) in passed_all greatest_together c.loop-k.invariant past
