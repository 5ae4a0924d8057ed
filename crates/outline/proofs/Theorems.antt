-- The claims of specs/Theorems.antt, each under its name there.
use Rattle.outline.specs.Theorems.{CrossedExtent, OutsideNone}
use Rattle.outline.proofs.Rows as rows
use Rattle.outline.proofs.Outside as outside

pub crossed_extent : CrossedExtent
crossed_extent = rows.crossed_extent

pub outside_none : OutsideNone
outside_none = outside.outside_none
