-- A path of one point or two is one segment: from its first point to its last, the same where it has one.
use Prim.Native.Nat.{ℕ, ◌+◌, ◌-◌, ◌<◌}
use native.Mathlib.Omega.{arith}
use mathlib.Core.Path.{◌≡◌, refl}
use mathlib.Core.List.{List, [], ◌∷◌}
use lib.ListN.{length, get_or}
use lib.IntN.{ℤ, pos}
use Rattle.plane.specs.Point.{pt}
use Rattle.stroke.specs.Sweep.{Seg, path_points, segments}
use Rattle.checks.proofs.Entries.{Entries, dot, line}

abbrev pub last : List ℤ → ℕ
last p = length p - 2

abbrev pub segment_of : List ℤ → Seg
segment_of p = record { from = pt (get_or p 0 (pos 0)) (get_or p 1 (pos 0)); to = pt (get_or p (last p) (pos 0)) (get_or p (last p + 1) (pos 0)) }

pub one_segment : {p : List ℤ} → Entries p → segments (path_points p) ≡ segment_of p ∷ []
unfolding path_points
one_segment dot = refl
one_segment line = refl

-- the entries that are read are the path's
pub entries_in : {p : List ℤ} → Entries p → (1 < length p) × (last p + 1 < length p)
entries_in dot = (omega arith, omega arith)
entries_in line = (omega arith, omega arith)
