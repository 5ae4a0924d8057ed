use mathlib.Core.List.{List}
use mathlib.Core.Bool.{Bool}
use mathlib.Core.Path.{◌≡◌}
use Prim.Native.Nat.{ℕ}
use lib.ListN.{take}
use Rattle.plane.specs.Point.{Pt, corners}
use Rattle.bits.specs.Bits.{blackened}
use Rattle.stroke.specs.Sweep.{Seg, segments, path_points}
use Rattle.stroke.specs.Runs.{any}
use Rattle.band.specs.Rows.{shaped, segment_black}
use Rattle.band.proofs.path.lay_path.Given as goal

-- the first k segments
abbrev pub some_black : List Pt → List Seg → ℕ → ℕ → ℕ → Bool
some_black cs l k j x = any (λ g. segment_black cs g j x) (take k l)

-- they are laid over the bytes
abbrev pub invariant-loop-k : goal.invariant-loop-k
invariant-loop-k l =
    l.bytes ≡ blackened (shaped (some_black (corners l.count l.xs l.ys) (segments (path_points l.path)) l.k) l.s l.from l.to) l.initial.bytes
