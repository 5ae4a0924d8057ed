-- The pen's edges, and then the sides along the path.
use Rattle.std.proofs.Common.{◌∙◌, sym, ap, map, pos}
use Rattle.plane.specs.Polygon.{edges}
use Rattle.plane.specs.Point.{corners}
use Rattle.stroke.specs.Sides.{moved, path_sides, sides}
use Rattle.stroke.specs.Extent.{narrowed}
use Rattle.extent.specs.Held.{start, ends}
use Rattle.extent.proofs.Round.{narrowed_append}
use Rattle.extent.proofs.side.narrowed.Goals as goal

pub returns-clause-answer : goal.returns-clause-answer
unfolding sides
returns-clause-answer c =
    let r = c.args in
    let j = pos 0 in
    let g = ends r.g in
    let es = map (moved g) (edges (corners r.n r.xs.now r.ys.now)) in
    let ps = path_sides (corners r.n r.xs.now r.ys.now) g in
    let e = c.edges-s.ensures.answer ∙ ap (narrowed j es) c.all.ensures.answer in
    c.along.ensures.answer ∙ ap (narrowed j ps) e ∙ sym (narrowed_append j es ps start)
