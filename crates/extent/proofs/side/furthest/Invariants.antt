-- The loop runs downwards, so that it holds the greatest over the corners from i on: to the right, and to the left with the other sign.
use Rattle.std.proofs.Common.{◌≡◌, ◌^◌, ◌≤◌, drop, neg_ℤ}
use Rattle.integers.specs.Bound.{Abs}
use Rattle.plane.specs.Point.{corners}
use Rattle.stroke.specs.Sides.{furthest}
use Rattle.extent.proofs.side.furthest.Given as goal

abbrev pub invariant-loop-i : goal.invariant-loop-i
invariant-loop-i l = record {
  within : l.i ≤ l.n;
  right : l.most ≡ furthest l.fn.v (neg_ℤ l.fn.u) (drop l.i (corners l.n l.xs l.ys));
  left : l.least ≡ neg_ℤ (furthest (neg_ℤ l.fn.v) l.fn.u (drop l.i (corners l.n l.xs l.ys)));
  most_small : Abs l.most (2 ^ 28);
  least_small : Abs l.least (2 ^ 28);
}
