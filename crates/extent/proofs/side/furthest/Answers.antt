-- The numbers of a turn, and what they add to the greatest over the corners after it.
use Rattle.std.proofs.Common.{◌≡◌, ◌∙◌, sym, ap, ap₂, rules, arith, ◌-◌, ◌^◌, List, ℕ, drop, slice_index_or, ℤ, pos, neg_ℤ, ◌-ℤ◌, ◌*ℤ◌, to_z, w8, w64, FitsSigned}
use lib.Dec.{leb→le}
use Rattle.integers.specs.Compare.{max_z}
use Rattle.integers.proofs.Bound.{abs_pos}
use Rattle.integers.proofs.Greater.{greater_is, lesser_is}
use Rattle.integers.proofs.Signs.{neg_neg}
use Rattle.integers.proofs.Machine.{Is, known, var, weaken, mul, mul_fits, sub, sub_fits, along, bound}
use Rattle.integers.proofs.Words.{bits, ◌⊖◌, ◌⊗◌, widened, opposite}
use Rattle.plane.specs.Point.{corners}
use Rattle.plane.specs.Polygon.{dot}
use Rattle.plane.proofs.Read.{place}
use Rattle.stroke.specs.Sides.{furthest}
use Rattle.extent.specs.Held.{Way}
use Rattle.extent.proofs.Read.{furthest_none, furthest_more, to_right, to_left, least_of}
use Rattle.extent.proofs.side.furthest.Goals as goal

-- the way, as the loop's invariant names it
module _ {u v : ℤ} (w : Way u v) where
  across : Is w64 (to_z w64 (bits u)) (bits u) (2 ^ 19)
  across = let k = known {w = w64} w.u_small tt in along (sym k.reads) k

  up : Is w64 (to_z w64 (bits v)) (bits v) (2 ^ 20)
  up = let k = known {w = w64} w.v_small tt in along (sym k.reads) k

  -- how far to the right of the way the corner (x, y) lies
  out : {x y : ℤ} {m k : ℕ} → Is w64 x m 128 → Is w64 y k 128 → Is w64 (to_z w64 (bits v) *ℤ x -ℤ to_z w64 (bits u) *ℤ y) (bits v ⊗ m ⊖ bits u ⊗ k) (2 ^ 28)
  out x y = weaken (leb→le _ _ tt) (sub (mul up x tt) (mul across y tt) tt)

pub loop-i-init : goal.loop-i-init
loop-i-init c =
    let h = c.requires.held in
    record {
      within = omega arith;
      right = sym (furthest_none _ _ c.args.n _ _ h.in_xs h.in_ys);
      left = ap neg_ℤ (sym (furthest_none _ _ c.args.n _ _ h.in_xs h.in_ys));
      most_small = abs_pos 0 (omega arith);
      least_small = abs_pos 0 (omega arith);
    }

pub overflow_mul-t : goal.overflow_mul-t
overflow_mul-t c =
    let s : FitsSigned w8 (slice_index_or c.args.xs.now (c.loop-i.i - 1) (pos 0)) = search rules in
    mul_fits (up c.requires.way) (widened s c.from.ensures) tt

pub overflow_mul-t-in-loop-i : goal.overflow_mul-t-in-loop-i
overflow_mul-t-in-loop-i c =
    let s : FitsSigned w8 (slice_index_or c.args.ys.now (c.loop-i.i - 1) (pos 0)) = search rules in
    mul_fits (across c.requires.way) (widened s c.from-in-loop-i.ensures) tt

pub overflow_sub-t : goal.overflow_sub-t
overflow_sub-t c =
    let w = c.requires.way in
    let s : FitsSigned w8 (slice_index_or c.args.xs.now (c.loop-i.i - 1) (pos 0)) = search rules in
    let t : FitsSigned w8 (slice_index_or c.args.ys.now (c.loop-i.i - 1) (pos 0)) = search rules in
    let x = widened s c.from.ensures in
    let y = widened t c.from-in-loop-i.ensures in
    sub_fits (mul (up w) x tt) (mul (across w) y tt) tt

pub loop-i-preserved : goal.loop-i-preserved
loop-i-preserved c =
    let h = c.requires.held in
    let inv = c.loop-i.invariant in
    let i = c.loop-i.i in
    let s : FitsSigned w8 (slice_index_or c.args.xs.now (i - 1) (pos 0)) = search rules in
    let t : FitsSigned w8 (slice_index_or c.args.ys.now (i - 1) (pos 0)) = search rules in
    let x = widened s c.from.ensures in
    let y = widened t c.from-in-loop-i.ensures in
    let a = to_z w64 (bits c.args.u) in
    let b = to_z w64 (bits c.args.v) in
    let cs = corners c.args.n c.args.xs.now c.args.ys.now in
    let P = place c.args.xs.now c.args.ys.now (i - 1) in
    let more : (p q : ℤ) → furthest p q (drop (i - 1) cs) ≡ max_z (dot p q P) (furthest p q (drop i cs)) = λ p q. furthest_more p q _ _ _ _ h.in_xs h.in_ys c.loop-i-test.true inv.within in
    let o = out c.requires.way x y in
    let most = along inv.right (var c.loop-i.auto.most-fits inv.most_small) in
    let least = along inv.left (var c.loop-i.auto.least-fits inv.least_small) in
    let most' = greater_is (along (to_right a b P.x P.y) o) most c.max-most.ensures.value in
    let least' = lesser_is (along (to_left a b P.x P.y) o) least c.min-least.ensures.value in
    record {
      within = omega (arith, inv.within);
      right = most'.reads ∙ sym (more b (neg_ℤ a));
      left = least'.reads ∙ least_of (dot (neg_ℤ b) a P) (furthest (neg_ℤ b) a (drop i cs)) ∙ ap neg_ℤ (sym (more (neg_ℤ b) a));
      most_small = bound most';
      least_small = bound least';
    }

-- at the end the corners are all, and the way is the one that was given
module _ {u v : ℤ} (w : Way u v) (n : ℕ) (xs ys : List ℤ) {i : ℕ} (e : i ≡ 0) where
  all_right : furthest (to_z w64 (bits v)) (neg_ℤ (to_z w64 (bits u))) (drop i (corners n xs ys)) ≡ furthest v (neg_ℤ u) (corners n xs ys)
  all_right = rw e (ap₂ (λ (p q : ℤ). furthest p (neg_ℤ q) (corners n xs ys)) (known {w = w64} w.v_small tt).reads (known {w = w64} w.u_small tt).reads)

  all_left : furthest (neg_ℤ (to_z w64 (bits v))) (to_z w64 (bits u)) (drop i (corners n xs ys)) ≡ furthest (neg_ℤ v) u (corners n xs ys)
  all_left = rw e (ap₂ (λ (p q : ℤ). furthest (neg_ℤ p) q (corners n xs ys)) (known {w = w64} w.v_small tt).reads (known {w = w64} w.u_small tt).reads)

pub returns-clause-right : goal.returns-clause-right
returns-clause-right c =
    let e : c.loop-i.i ≡ 0 = omega arith in
    c.loop-i.invariant.right ∙ all_right c.requires.way _ _ _ e

pub returns-clause-left : goal.returns-clause-left
returns-clause-left c =
    let e : c.loop-i.i ≡ 0 = omega arith in
    let inv = c.loop-i.invariant in
    (opposite (along inv.left (var c.loop-i.auto.least-fits inv.least_small)) tt).reads ∙ sym (neg_neg _) ∙ all_left c.requires.way _ _ _ e

pub returns-clause-small : goal.returns-clause-small
returns-clause-small c =
    let inv = c.loop-i.invariant in
    record { right_small = inv.most_small; left_small = bound (opposite (along inv.left (var c.loop-i.auto.least-fits inv.least_small)) tt) }
