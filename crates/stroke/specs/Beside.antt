-- The edge rule a second way, with no side and no normal in it: a centre is black exactly when the point a little to the left of it, and by far less below it,
-- lies in the sweep. (So it stands in source document 000, section 1.1, with right for left.) Numbers are whole here, so the whole drawing is enlarged instead: m * m
-- times, and the point is moved by m to the left and by 1 down, which is by 1/m and by 1/(m*m) of a unit. "A little" is every m from some number on.
use Rattle.std.specs.Prelude.{◌↔◌, List, map, ℤ, pos, ◌-ℤ◌, ◌*ℤ◌}
use Rattle.integers.specs.Orders.{◌≼◌}
use Rattle.plane.specs.Point.{Pt, pt}
use Rattle.stroke.specs.Sweep.{Seg, Sweep}
use Rattle.stroke.specs.Black.{Black}

-- n times as large
abbrev pub larger : ℤ → Pt → Pt
larger n P = pt (n *ℤ P.x) (n *ℤ P.y)

abbrev pub larger_seg : ℤ → Seg → Seg
larger_seg n g = record { from = larger n g.from; to = larger n g.to }

-- the point beside X, in the drawing m * m times as large
abbrev pub beside : ℤ → Pt → Pt
beside m X = pt (m *ℤ m *ℤ X.x -ℤ m) (m *ℤ m *ℤ X.y -ℤ pos 1)

abbrev pub SweptBeside : List Pt → Seg → Pt → ℤ → Type 0
SweptBeside cs g X m = Sweep (map (larger (m *ℤ m)) cs) (larger_seg (m *ℤ m) g) (beside m X)

-- from some m on, the same
abbrev pub BesideDecides : List Pt → Seg → Pt → Type 0
BesideDecides cs g X = (n : ℤ) × ((m : ℤ) → n ≼ m → Black cs g X ↔ SweptBeside cs g X m)
