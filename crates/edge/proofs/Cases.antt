-- What `raised` and `placed` give in each case of their tests.
use mathlib.Core.Path.{◌≡◌}
use mathlib.Core.Bool.{Bool, true, false, ◌&&◌}
use lib.IntN.{ℤ, pos, ◌+ℤ◌, ◌-ℤ◌, ◌*ℤ◌}
use lib.Signed.{lt_z}
use Rattle.integers.specs.Floor.{floor_div}
use Rattle.integers.proofs.Tests.{and_both}
use Rattle.edge.specs.declared.Edge.{Edge}
use Rattle.edge.specs.Edge.{nowhere, fair, near, numerator, placed, raised}

-- ---- one row up: without a column carried, and with one
abbrev pub kept : Edge → Edge
kept e = record { column = e.column +ℤ e.step; rest = e.rest +ℤ e.more; step = e.step; more = e.more; by = e.by }

abbrev pub over : Edge → Edge
over e = record { column = e.column +ℤ e.step +ℤ pos 1; rest = e.rest +ℤ e.more -ℤ e.by; step = e.step; more = e.more; by = e.by }

module _ (e : Edge) where
  pub raised_unfair : fair e ≡ false → raised e ≡ e
  unfolding raised
  raised_unfair f = rw f

  pub raised_kept : fair e ≡ true → lt_z (e.rest +ℤ e.more) e.by ≡ true → raised e ≡ kept e
  unfolding raised
  raised_kept f t = rw (f, t)

  pub raised_over : fair e ≡ true → lt_z (e.rest +ℤ e.more) e.by ≡ false → raised e ≡ over e
  unfolding raised
  raised_over f t = rw (f, t)

-- ---- in the row where it is placed
-- all five numbers are within reach
pub record Near (px py qx qy h : ℤ) : Type 0 where
  pub px_near : near px ≡ true
  pub py_near : near py ≡ true
  pub qx_near : near qx ≡ true
  pub qy_near : near qy ≡ true
  pub h_near : near h ≡ true

abbrev pub all_near : ℤ → ℤ → ℤ → ℤ → ℤ → Bool
all_near px py qx qy h = near px && (near py && (near qx && (near qy && near h)))

abbrev pub numbers : ℤ → ℤ → ℤ → ℤ → ℤ → Edge
numbers px py qx qy h =
    let dx = qx -ℤ px in
    let dy = qy -ℤ py in
    let by = pos 16 *ℤ dy in
    let num = numerator px py qx qy h in
    let column = floor_div num by in
    let step = floor_div dx dy in
    record { column = column; rest = num -ℤ by *ℤ column; step = step; more = pos 16 *ℤ (dx -ℤ dy *ℤ step); by = by }

module _ (px py qx qy h : ℤ) where
  pub all_near_lem : all_near px py qx qy h ≡ true → Near px py qx qy h
  all_near_lem e =
      let a = and_both _ _ e in
      let b = and_both _ _ a.1 in
      let c = and_both _ _ b.1 in
      let d = and_both _ _ c.1 in
      record { px_near = a.0; py_near = b.0; qx_near = c.0; qy_near = d.0; h_near = d.1 }

  pub placed_far : all_near px py qx qy h ≡ false → placed px py qx qy h ≡ nowhere
  unfolding placed
  placed_far e = rw e

  pub placed_near : Near px py qx qy h → placed px py qx qy h ≡ numbers px py qx qy h
  unfolding placed
  placed_near n = rw (n.px_near, n.py_near, n.qx_near, n.qy_near, n.h_near)
