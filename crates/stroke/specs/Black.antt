-- Document 01, "Which pixels are black": black by the edge rule. Which sides are kept is said in ties/specs/Kept.
use Rattle.std.specs.Prelude.{◌≡◌, true, List}
use Rattle.integers.specs.Count.{◌∈◌}
use Rattle.plane.specs.Point.{Pt}
use Rattle.plane.specs.Polygon.{Side, dot}
use Rattle.ties.specs.Kept.{kept}
use Rattle.stroke.specs.Sweep.{Seg, Sweep, segments}
use Rattle.stroke.specs.Sides.{sides}

-- "A centre outside a segment's sweep is not black for that segment .. within the sweep and on none of its sides is black .. on sides is black for it
-- exactly when each side through it is kept"
pub record Black (cs : List Pt) (g : Seg) (X : Pt) : Type 0 where
  pub swept : Sweep cs g X
  pub sides_kept : (e : Side) → e ∈ sides cs g → dot e.a e.b X ≡ e.c → kept e.a e.b ≡ true

-- "A pixel is black when any segment makes it so"
pub record BlackPath (cs : List Pt) (path : List Pt) (X : Pt) : Type 0 where
  pub segment : Seg
  pub on_path : segment ∈ segments path
  pub black : Black cs segment X
