-- The number of points, and with it of segments, of the definition.
use Rattle.std.proofs.Common.{arith}
use Rattle.stroke.specs.Sweep.{path_points}
use Rattle.stroke.proofs.Segments.{points_long, segments_few, segments_some}
use Rattle.segments.proofs.count.Goals as goal

pub returns-then-points-le1 : goal.returns-then-points-le1
returns-then-points-le1 c = let p = c.args.path.now in omega (arith, points_long p, segments_few (path_points p) (omega (arith, points_long p)))

pub returns : goal.returns
returns c = let p = c.args.path.now in omega (arith, points_long p, segments_some (path_points p) (omega (arith, points_long p)))
