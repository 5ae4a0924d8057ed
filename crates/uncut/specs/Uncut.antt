-- Document 02, W8: "The extent of one segment in one row, its first and last black column, is to be given uncut, as signed columns, or as none."
use Rattle.std.specs.Prelude.{ℕ, Option, None, List, [], ◌∷◌, ℤ, pos}
use Rattle.limits.specs.Sizes.{raster_max}
use Rattle.limits.specs.declared.Verdict.{Verdict}
use Rattle.limits.specs.declared.Verdict.TheVariants.{Passed, Refused}
use Rattle.plane.specs.Point.{Pt}
use Rattle.aperture.specs.declared.Table.{Table}
use Rattle.aperture.specs.Table.{held_corners}
use Rattle.stroke.specs.Sweep.{Seg, path_points, segments}
use Rattle.stroke.specs.Extent.{extent}
use Rattle.extent.specs.declared.Extent.{Extent}
use Rattle.extent.specs.Answer.{answered}
use Rattle.checks.specs.Answer.{done, answer_of}
use Rattle.engine.specs.Engine.{start_verdict}
use Rattle.uncut.specs.declared.Reached.{Reached}

-- "It is asked as W2's start is, without a raster (so a row above 16,383 is 5)": in the greatest raster there is, which is never refused itself, and has every row up to 16,383
abbrev pub reach_verdict : Table → ℕ → List ℤ → ℕ → Verdict
reach_verdict t n p j = start_verdict t n p raster_max raster_max j

-- "The extent of one segment in one row": of the first of a list. (A path of one or two points has one.)
abbrev pub first_extent : List Pt → List Seg → ℕ → Option Extent
first_extent cs [] j = None
first_extent cs (g ∷ l) j = answered (extent cs g (pos j))

-- where a check refuses there is no extent
abbrev pub reached_by : Verdict → Option Extent → Reached
reached_by Passed e = record { answer = done 0; extent = e }
reached_by (Refused n place) e = record { answer = answer_of (Refused n place); extent = None }

unfoldable pub reached_in : Table → ℕ → List ℤ → ℕ → Reached
reached_in t n p j = reached_by (reach_verdict t n p j) (first_extent (held_corners t n) (segments (path_points p)) j)
