-- Where the loop stands at place i with the furthest so far to each side, and how far each lies, the answers are the choices of those and the places from i on.
use Rattle.std.proofs.Common.{◌≡◌, ◌-◌, neg_ℤ}
use Rattle.flanks.specs.Walk.{turn_at, tangent_of, tangent_for}
use Rattle.flanks.proofs.walk.tangents.Given as goal

abbrev pub invariant-loop-i : goal.invariant-loop-i
invariant-loop-i l = record {
  least : l.least ≡ turn_at l.xs l.ys l.u l.v l.left;
  most : l.most ≡ turn_at l.xs l.ys l.u l.v l.right;
  left : tangent_of l.xs l.ys l.n (neg_ℤ l.u) (neg_ℤ l.v) ≡ tangent_for l.xs l.ys (neg_ℤ l.u) (neg_ℤ l.v) (l.n - l.i) l.i l.left;
  right : tangent_of l.xs l.ys l.n l.u l.v ≡ tangent_for l.xs l.ys l.u l.v (l.n - l.i) l.i l.right;
}
