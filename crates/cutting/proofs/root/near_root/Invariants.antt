-- Each try keeps the near root, brought into the interval; where one value is left, that is it. Each leaves at most half of an interval that is at most 8192
-- long, and 8192 < 2 ^ 14: so one value is left after fourteen tries, and sixteen are enough.
use Rattle.std.proofs.Common.{ℕ, ◌≡◌, ◌*◌, ◌-◌, ◌^◌, ◌≤◌, ◌<◌}
use Rattle.setting.specs.declared.Setting.{Setting}
use Rattle.quarter.specs.declared.Interval.{Interval}
use Rattle.quarter.specs.NearRoot.{norm, near_root}
use Rattle.quarter.proofs.Halving.{brought}
use Rattle.cutting.proofs.root.near_root.Given as goal

-- the interval brings the near root to what low..high brings it to, and what is left of fourteen tries is enough for it
pub record Sought (σ : Setting) (u v low high square : ℕ) (i : Interval) (tries : ℕ) : Type 0 where
  pub square_is : square ≡ σ.w * σ.w * norm σ u v
  pub ordered : i.low ≤ i.high
  pub small : i.high ≤ 8192
  pub same : brought i.low i.high (near_root σ u v) ≡ brought low high (near_root σ u v)
  pub short : i.high - i.low < 2 ^ (14 - tries)

abbrev pub invariant-loop-tries : goal.invariant-loop-tries
invariant-loop-tries l = Sought l.s l.u l.v l.low l.high l.square l.i l.tries

abbrev pub decreases-loop-tries : goal.decreases-loop-tries
decreases-loop-tries l = 16 - l.tries
