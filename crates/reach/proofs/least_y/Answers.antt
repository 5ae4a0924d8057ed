-- The least so far; one entry in two is a y.
use Rattle.std.proofs.Common.{◌≡◌, ◌∙◌, ℕ, ◌+◌, ◌*◌, ◌<◌, ◌≤◌, length, get_or, subst, sym, arith, rules, ℤ, pos, w64, to_z, of_z}
use Rattle.std.specs.Int.{int_min}
use Rattle.integers.proofs.Greater.{int_min_is}
use Rattle.limits.specs.Sizes.{coordinate_max}
use Rattle.reach.proofs.Pass.{Passed, passed_none, passed_next, passed_all}
use Rattle.reach.proofs.Heights.{least_together}
use Rattle.reach.proofs.least_y.Goals as goal

pub loop-k-init : goal.loop-k-init
loop-k-init c =
    let none : to_z w64 (of_z w64 c.from-least.result) ≡ pos coordinate_max = search rules in
    subst (λ (y : ℤ). Passed least_together c.args.path.now y 1) (sym none) (passed_none least_together c.args.path.now)

pub loop-k-preserved : goal.loop-k-preserved
loop-k-preserved c =
    let path = c.args.path.now in
    let k = c.loop-k.k in
    let inside : 2 * k + 1 < length path = omega (arith, c.loop-k-test.true) in
    let i : 2 * k + 1 + 2 ≡ 2 * (k + 1) + 1 = omega arith in
    let next : (m : ℤ) → m ≡ int_min (to_z w64 c.loop-k.least-bits) (get_or path (2 * k + 1) (pos 0)) → Passed least_together path m (2 * (k + 1) + 1) =
    λ m e. subst (λ (j : ℕ). Passed least_together path m j) i (passed_next least_together c.loop-k.invariant inside (e ∙ int_min_is (to_z w64 c.loop-k.least-bits) (get_or path (2 * k + 1) (pos 0)))) in
    next _ (search rules)

pub returns : goal.returns
returns c = let past : length c.args.path.now ≤ 2 * c.loop-k.k + 1 = omega (arith, c.loop-k-test.false) in passed_all least_together c.loop-k.invariant past
