-- The numbers of an edge, step by step: within reach each fits.
use Rattle.std.proofs.Common.{◌≡◌, sym, ◌∙◌, Bool, true, ◌+◌, ◌*◌, ℤ, pos, ◌-ℤ◌, ◌*ℤ◌, w64, FitsSigned, to_z, of_z}
use Rattle.integers.specs.Floor.{floor_div}
use Rattle.integers.proofs.Machine.{Is, known, num, add, add_fits, sub, sub_fits, mul, mul_fits, floor, par}
use Rattle.integers.proofs.Words.{bits, ◌⊕◌, ◌⊖◌, ◌⊗◌}
use Rattle.edge.specs.Edge.{numerator}
use Rattle.edge.proofs.Bounds.{test_bound}
use Rattle.edge.proofs.Cases.{Near, all_near, all_near_lem, placed_far, placed_near}
use Rattle.edge.proofs.place.Goals as goal

-- the test, of the numbers that the bits are
tested : {px py qx qy h : ℤ} → FitsSigned w64 px → FitsSigned w64 py → FitsSigned w64 qx → FitsSigned w64 qy → FitsSigned w64 h → {t : Bool} →
    t ≡ all_near (to_z w64 (of_z w64 px)) (to_z w64 (of_z w64 py)) (to_z w64 (of_z w64 qx)) (to_z w64 (of_z w64 qy)) (to_z w64 (of_z w64 h)) → t ≡ all_near px py qx qy h
tested px py qx qy h e = rw ((par {w = w64} px).reads, (par {w = w64} py).reads, (par {w = w64} qx).reads, (par {w = w64} qy).reads, (par {w = w64} h).reads) at e

reached : {px py qx qy h : ℤ} → FitsSigned w64 px → FitsSigned w64 py → FitsSigned w64 qx → FitsSigned w64 qy → FitsSigned w64 h → {t : Bool} →
    t ≡ all_near (to_z w64 (of_z w64 px)) (to_z w64 (of_z w64 py)) (to_z w64 (of_z w64 qx)) (to_z w64 (of_z w64 qy)) (to_z w64 (of_z w64 h)) → t ≡ true → Near px py qx qy h
reached {px} {py} {qx} {qy} {h} a b c d e f t = all_near_lem px py qx qy h (sym (tested a b c d e f) ∙ t)

-- ---- where all five are within reach
module _ {px' py' qx' qy' h' : ℤ} (reach : Near px' py' qx' qy' h') where
  px : Is w64 px' (bits px') 263168
  px = known (test_bound 263168 px' reach.px_near) tt

  py : Is w64 py' (bits py') 263168
  py = known (test_bound 263168 py' reach.py_near) tt

  qx : Is w64 qx' (bits qx') 263168
  qx = known (test_bound 263168 qx' reach.qx_near) tt

  qy : Is w64 qy' (bits qy') 263168
  qy = known (test_bound 263168 qy' reach.qy_near) tt

  h : Is w64 h' (bits h') 263168
  h = known (test_bound 263168 h' reach.h_near) tt

  dx : Is w64 (qx' -ℤ px') (bits qx' ⊖ bits px') 526336
  dx = sub qx px tt

  dy : Is w64 (qy' -ℤ py') (bits qy' ⊖ bits py') 526336
  dy = sub qy py tt

  up : Is w64 (h' -ℤ py') (bits h' ⊖ bits py') 526336
  up = sub h py tt

  by : Is w64 (pos 16 *ℤ (qy' -ℤ py')) (bits (pos 16) ⊗ (bits qy' ⊖ bits py')) 8421376
  by = mul (num (pos 16) tt) dy tt

  line : Is w64 (numerator px' py' qx' qy' h') (bits px' ⊗ (bits qy' ⊖ bits py') ⊕ (bits h' ⊖ bits py') ⊗ (bits qx' ⊖ bits px')) (263168 * 526336 + 526336 * 526336)
  line = add (mul px dy tt) (mul up dx tt) tt

  -- the two quotients
  column : {r : ℤ} → r ≡ floor_div (to_z w64 (bits px' ⊗ (bits qy' ⊖ bits py') ⊕ (bits h' ⊖ bits py') ⊗ (bits qx' ⊖ bits px'))) (to_z w64 (bits (pos 16) ⊗ (bits qy' ⊖ bits py'))) →
      Is w64 (floor_div (numerator px' py' qx' qy' h') (pos 16 *ℤ (qy' -ℤ py'))) (bits r) (263168 * 526336 + 526336 * 526336)
  column e = floor line by e

  step : {r : ℤ} → r ≡ floor_div (to_z w64 (bits qx' ⊖ bits px')) (to_z w64 (bits qy' ⊖ bits py')) → Is w64 (floor_div (qx' -ℤ px') (qy' -ℤ py')) (bits r) 526336
  step e = floor dx dy e

-- ---- the goals
pub returns-then-not-all_near : goal.returns-then-not-all_near
returns-then-not-all_near c =
    let a = c.args in
    let f = c.ranges in
    c.nowhere.ensures ∙ sym (placed_far a.px a.py a.qx a.qy a.h (sym (tested f.px f.py f.qx f.qy f.h c.all_near.ensures) ∙ c.if-not-all_near.true))

pub overflow_sub-dx : goal.overflow_sub-dx
overflow_sub-dx c =
    let f = c.ranges in
    let n = reached f.px f.py f.qx f.qy f.h c.all_near.ensures c.if-not-all_near.false in
    sub_fits (qx n) (px n) tt

pub overflow_sub-dy : goal.overflow_sub-dy
overflow_sub-dy c =
    let f = c.ranges in
    let n = reached f.px f.py f.qx f.qy f.h c.all_near.ensures c.if-not-all_near.false in
    sub_fits (qy n) (py n) tt

pub overflow_mul-by : goal.overflow_mul-by
overflow_mul-by c =
    let f = c.ranges in
    let n = reached f.px f.py f.qx f.qy f.h c.all_near.ensures c.if-not-all_near.false in
    mul_fits (num (pos 16) tt) (dy n) tt

pub overflow_mul-num : goal.overflow_mul-num
overflow_mul-num c =
    let f = c.ranges in
    let n = reached f.px f.py f.qx f.qy f.h c.all_near.ensures c.if-not-all_near.false in
    mul_fits (px n) (dy n) tt

pub overflow_sub-num : goal.overflow_sub-num
overflow_sub-num c =
    let f = c.ranges in
    let n = reached f.px f.py f.qx f.qy f.h c.all_near.ensures c.if-not-all_near.false in
    sub_fits (h n) (py n) tt

pub overflow_mul-num-2 : goal.overflow_mul-num-2
overflow_mul-num-2 c =
    let f = c.ranges in
    let n = reached f.px f.py f.qx f.qy f.h c.all_near.ensures c.if-not-all_near.false in
    mul_fits (up n) (dx n) tt

pub overflow_add-num : goal.overflow_add-num
overflow_add-num c =
    let f = c.ranges in
    let n = reached f.px f.py f.qx f.qy f.h c.all_near.ensures c.if-not-all_near.false in
    add_fits (mul (px n) (dy n) tt) (mul (up n) (dx n) tt) tt

pub overflow_mul-result : goal.overflow_mul-result
overflow_mul-result c =
    let f = c.ranges in
    let n = reached f.px f.py f.qx f.qy f.h c.all_near.ensures c.if-not-all_near.false in
    mul_fits (by n) (column n c.floor_div-column.ensures) tt

pub overflow_sub-result : goal.overflow_sub-result
overflow_sub-result c =
    let f = c.ranges in
    let n = reached f.px f.py f.qx f.qy f.h c.all_near.ensures c.if-not-all_near.false in
    sub_fits (line n) (mul (by n) (column n c.floor_div-column.ensures) tt) tt

pub overflow_mul-result-2 : goal.overflow_mul-result-2
overflow_mul-result-2 c =
    let f = c.ranges in
    let n = reached f.px f.py f.qx f.qy f.h c.all_near.ensures c.if-not-all_near.false in
    mul_fits (dy n) (step n c.slope-step.ensures) tt

pub overflow_sub-result-2 : goal.overflow_sub-result-2
overflow_sub-result-2 c =
    let f = c.ranges in
    let n = reached f.px f.py f.qx f.qy f.h c.all_near.ensures c.if-not-all_near.false in
    sub_fits (dx n) (mul (dy n) (step n c.slope-step.ensures) tt) tt

pub overflow_mul-result-3 : goal.overflow_mul-result-3
overflow_mul-result-3 c =
    let f = c.ranges in
    let n = reached f.px f.py f.qx f.qy f.h c.all_near.ensures c.if-not-all_near.false in
    mul_fits (num (pos 16) tt) (sub (dx n) (mul (dy n) (step n c.slope-step.ensures) tt) tt) tt

pub returns : goal.returns
returns c =
    let f = c.ranges in
    let n = reached f.px f.py f.qx f.qy f.h c.all_near.ensures c.if-not-all_near.false in
    let d = column n c.floor_div-column.ensures in
    let s = step n c.slope-step.ensures in
    let b = by n in
    rw ((sub (line n) (mul b d tt) tt).reads, (mul (num (pos 16) tt) (sub (dx n) (mul (dy n) s tt) tt) tt).reads, d.reads, s.reads, b.reads)
    (sym (placed_near c.args.px c.args.py c.args.qx c.args.qy c.args.h n))
