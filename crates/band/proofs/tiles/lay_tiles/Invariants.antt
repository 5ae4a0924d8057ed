use Rattle.std.proofs.Common.{◌≡◌, ◌-◌, ◌≤◌}
use Rattle.plane.specs.Point.{corners}
use Rattle.bits.specs.Bits.{blackened}
use Rattle.band.specs.Rows.{shaped, path_black}
use Rattle.band.proofs.tiles.lay_tiles.Given as goal

-- the rows from `from` on and before t are laid over the bytes
abbrev pub invariant-loop-t : goal.invariant-loop-t
invariant-loop-t l = record {
  before : l.t ≤ l.to;
  laid : l.bytes ≡ blackened (shaped (path_black (corners l.count l.xs l.ys) l.path) l.s l.from l.t) l.initial.bytes;
}

abbrev pub decreases-loop-t : goal.decreases-loop-t
decreases-loop-t l = l.to - l.t
