-- The tiles of the pen that was built, which is the setting's.
use mathlib.Core.List.{List}
use mathlib.Core.Path.{ap, ◌∙◌}
use Rattle.plane.specs.Point.{Pt}
use Rattle.bits.specs.Bits.{blackened}
use Rattle.band.specs.Rows.{shaped, path_black}
use Rattle.band.proofs.Built.{built_corners_lem, built_pen}
use Rattle.band.proofs.drawn.lay_pen.Goals as goal

pub lay_tiles-requires-clause-pen : goal.lay_tiles-requires-clause-pen
lay_tiles-requires-clause-pen c = built_pen c.requires.taken c.build-built.ensures

pub returns : goal.returns
returns c =
    let a = c.args in
    c.lay_tiles.ensures
    ∙ ap (λ (cs : List Pt). blackened (shaped (path_black cs a.path.now) a.s a.from a.to) a.bytes.now) (built_corners_lem c.requires.taken c.build-built.ensures)
