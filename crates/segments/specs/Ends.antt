-- Where a segment of a path stands among the path's entries.
use Rattle.std.specs.Prelude.{ℕ, ◌+◌, ◌*◌, ◌≤◌, ◌<◌, ◌≡◌, List, length, get_or, ℤ, pos}
use Rattle.plane.specs.Point.{pt}
use Rattle.stroke.specs.Sweep.{Seg, segments, path_points}

-- segment k of a path starts at the entry 2 k, and ends at the entry `end`
pub record EndsAt (path : List ℤ) (k end : ℕ) : Type 0 where
  pub after : 2 * k ≤ end
  pub held : end + 1 < length path
  pub segment : (g : Seg) → get_or (segments (path_points path)) k g
      ≡ record { from = pt (get_or path (2 * k) (pos 0)) (get_or path (2 * k + 1) (pos 0)); to = pt (get_or path end (pos 0)) (get_or path (end + 1) (pos 0)) }
