-- Document 01, "Which pixels are black": the sides of a segment's sweep.
use Rattle.std.specs.Prelude.{cond, List, [], ◌∷◌, ◌++◌, map, ℤ, pos, neg_ℤ, ◌+ℤ◌, ◌-ℤ◌, ◌*ℤ◌}
use Rattle.integers.specs.Compare.{max_z}
use Rattle.plane.specs.Point.{Pt, same}
use Rattle.plane.specs.Polygon.{Side, dot, edges}
use Rattle.stroke.specs.Sweep.{Seg}

-- "the pen's edge lines, each moved to whichever end carries it further out"
abbrev pub moved : Seg → Side → Side
moved g e = record { a = e.a; b = e.b; c = pos 8 *ℤ e.c +ℤ max_z (dot e.a e.b g.from) (dot e.a e.b g.to) }

-- the greatest a x + b y over the corners (and 0, which is no more for a pen: it has the middle inside)
unfoldable pub furthest : ℤ → ℤ → List Pt → ℤ
furthest a b [] = pos 0
furthest a b (P ∷ l) = max_z (dot a b P) (furthest a b l)

-- the line with the normal (a, b) through P, moved out to touch the pen
abbrev pub touching : List Pt → Pt → ℤ → ℤ → Side
touching cs P a b = record { a = a; b = b; c = pos 8 *ℤ furthest a b cs +ℤ dot a b P }

-- "and, where the ends differ, the two lines along the path that touch the pen"
abbrev pub path_sides : List Pt → Seg → List Side
path_sides cs g =
    let u = g.to.x -ℤ g.from.x in
    let v = g.to.y -ℤ g.from.y in
    cond (same g.from g.to) [] (touching cs g.from v (neg_ℤ u) ∷ touching cs g.from (neg_ℤ v) u ∷ [])

unfoldable pub sides : List Pt → Seg → List Side
sides cs g = map (moved g) (edges cs) ++ path_sides cs g
