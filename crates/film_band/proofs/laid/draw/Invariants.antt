-- After k strokes the bytes are the band of these strokes.
use Rattle.std.proofs.Common.{◌≡◌}
use Rattle.drawing.specs.Strokes.{drawing_of}
use Rattle.drawing.specs.Film.{band_up_to}
use Rattle.film_band.proofs.laid.draw.Given as goal

abbrev pub invariant-loop-k : goal.invariant-loop-k
invariant-loop-k l = l.bytes ≡ band_up_to (drawing_of l.settings l.apertures l.starts l.entries) l.columns l.rows l.first l.n l.k
