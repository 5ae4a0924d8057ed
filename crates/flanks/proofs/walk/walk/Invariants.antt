-- Where the loop stands at corner i, the answer is the walk from there.
use Rattle.std.proofs.Common.{◌≡◌, ◌-◌, ◌≤◌}
use Rattle.flanks.specs.Walk.{walked, walked_for}
use Rattle.flanks.proofs.walk.walk.Given as goal

abbrev pub invariant-loop-i : goal.invariant-loop-i
invariant-loop-i l = record { inside : l.i ≤ l.last; answer : walked l.ys l.n l.left l.y l.fn.k ≡ walked_for l.ys l.n l.left l.y (l.last - l.i) l.i }
