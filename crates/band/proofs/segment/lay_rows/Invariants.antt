use Rattle.std.proofs.Common.{◌≡◌, ◌-◌}
use Rattle.bits.specs.Bits.{blackened}
use Rattle.band.specs.Rows.{shaped, risen_by, flank_black}
use Rattle.band.proofs.segment.lay_rows.Given as goal

abbrev pub invariant-loop-row : goal.invariant-loop-row
invariant-loop-row l = record {
  carried : l.f ≡ risen_by l.count l.xs l.ys l.initial.f l.from (l.row - l.from);
  laid : l.bytes ≡ blackened (shaped (flank_black l.count l.xs l.ys l.initial.f l.s.columns l.from) l.s l.from l.row) l.initial.bytes;
}
