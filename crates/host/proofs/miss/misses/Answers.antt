-- The row is asked for by the rule of heights, under the path and over it.
use Rattle.std.proofs.Common.{◌≡◌, sym, ap₂, ◌∙◌, List, ◌+◌, ◌/◌, ◌≤◌, arith, ℤ, pos, ◌+ℤ◌, ◌-ℤ◌, ◌*ℤ◌, w64}
use borrow.Author.Tests.{not-true}
use Rattle.integers.proofs.Machine.{Is, num, known, call, of_nat, mul, sub, sub_fits, add, add_fits}
use Rattle.integers.proofs.Words.{bits, ◌⊗◌, ◌⊖◌, ◌⊕◌}
use Rattle.limits.specs.Sizes.{Drawable}
use Rattle.setting.specs.Setting.{Taken, Dy}
use Rattle.setting.proofs.Limits.{box_high}
use Rattle.ties.specs.Below.{below}
use Rattle.reach.specs.Reach.{least_y, greatest_y}
use Rattle.reach.proofs.Heights.{least_small, greatest_small}
use Rattle.host.specs.declared.answer.Call.{Call}
use Rattle.host.proofs.Missed.{missed_under, missed_over}
use Rattle.host.proofs.miss.misses.Goals as goal

module _ (k : Call) (path : List ℤ) (t : Taken k.setting) (d : Drawable path k.columns k.row) where
  -- half the pen's height, and the height of the row
  half_small : (k.setting.w + 8) / 16 ≤ 32
  unfolding Dy
  half_small = (box_high t).1

  half : Is w64 (pos 8 *ℤ pos (Dy k.setting)) (bits (pos 8) ⊗ ((k.setting.w + 8) / 16)) 256
  unfolding Dy
  half = mul (num (pos 8) tt) (of_nat ((k.setting.w + 8) / 16) {a = 32} half_small tt) tt

  height : Is w64 (pos 16 *ℤ pos k.row) (bits (pos 16) ⊗ k.row) 262144
  height = mul (num (pos 16) tt) (of_nat k.row {a = 16384} (omega (arith, d.low)) tt) tt

  -- how far down and up the stroke reaches
  least : {r : ℤ} → r ≡ least_y path → Is w64 (least_y path) (bits r) 262144
  least e = call e (known (least_small path d.coordinates) tt)

  lowest : {r : ℤ} → r ≡ least_y path → Is w64 (least_y path -ℤ pos 8 *ℤ pos (Dy k.setting)) (bits r ⊖ (bits (pos 8) ⊗ ((k.setting.w + 8) / 16))) 262400
  lowest e = sub (least e) half tt

  greatest : {r : ℤ} → r ≡ greatest_y path → Is w64 (greatest_y path) (bits r) 262144
  greatest e = call e (known (greatest_small path d.coordinates) tt)

  highest : {r : ℤ} → r ≡ greatest_y path → Is w64 (greatest_y path +ℤ pos 8 *ℤ pos (Dy k.setting)) (bits r ⊕ (bits (pos 8) ⊗ ((k.setting.w + 8) / 16))) 262400
  highest e = add (greatest e) half tt

pub overflow_sub-least_y : goal.overflow_sub-least_y
overflow_sub-least_y c =
    let k = c.args.call in
    let r = c.requires in
    sub_fits (least k c.args.path.now r.taken r.checked c.least_y.ensures) (half k c.args.path.now r.taken r.checked) tt

pub returns-then-below : goal.returns-then-below
returns-then-below c =
    let k = c.args.call in
    let p = c.args.path.now in
    let r = c.requires in
    let asked = c.below.ensures ∙ ap₂ below (height k p r.taken r.checked).reads (lowest k p r.taken r.checked c.least_y.ensures).reads in
    λ _. missed_under k r.taken p (sym asked ∙ c.if-below.true)

pub overflow_add-greatest_y : goal.overflow_add-greatest_y
overflow_add-greatest_y c =
    let k = c.args.call in
    let r = c.requires in
    add_fits (greatest k c.args.path.now r.taken r.checked c.greatest_y.ensures) (half k c.args.path.now r.taken r.checked) tt

pub returns : goal.returns
returns c =
    let k = c.args.call in
    let p = c.args.path.now in
    let r = c.requires in
    let asked = c.below-2.ensures ∙ ap₂ below (height k p r.taken r.checked).reads (highest k p r.taken r.checked c.greatest_y.ensures).reads in
    λ e. missed_over k r.taken p (sym asked ∙ not-true _ e)
