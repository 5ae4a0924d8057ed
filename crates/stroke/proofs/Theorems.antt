-- The claims of specs/Theorems.antt, each under its name there.
use Rattle.stroke.specs.Theorems.{PointsAre, DotIs, SegmentsAre, SweepSides, BlackTest, BlackBeside, BlackSideways, BlackShifted, ExtentBlack, RunsLongest, LongestUnique, OffsetGreatest, RowsHold, ColumnHolds, ColumnBand}
use Rattle.stroke.proofs.Segments as paths
use Rattle.stroke.proofs.Sweep.{sweep_iff}
use Rattle.stroke.proofs.Black.{test_iff}
use Rattle.stroke.proofs.Beside as besides
use Rattle.stroke.proofs.Sideways as sideways
use Rattle.stroke.proofs.Shifted as shifts
use Rattle.stroke.proofs.Columns.{extent_iff}
use Rattle.stroke.proofs.Furthest as furthest
use Rattle.stroke.proofs.WeightTheorems as weights

pub points_are : PointsAre
points_are = paths.points_are

pub dot_is : DotIs
dot_is = paths.dot_is

pub segments_are : SegmentsAre
segments_are = paths.segments_are

pub sweep_sides : SweepSides
sweep_sides = sweep_iff

pub black_test_lem : BlackTest
black_test_lem = test_iff

pub black_beside : BlackBeside
black_beside = besides.black_beside

pub black_sideways : BlackSideways
black_sideways = sideways.black_sideways

pub black_shifted : BlackShifted
black_shifted = shifts.black_shifted

pub extent_black : ExtentBlack
extent_black = extent_iff

pub runs_longest : RunsLongest
runs_longest = weights.runs_longest

pub longest_unique : LongestUnique
longest_unique = weights.longest_unique

pub offset_greatest : OffsetGreatest
offset_greatest = furthest.offset_greatest

pub rows_hold : RowsHold
rows_hold = weights.rows_hold

pub column_holds : ColumnHolds
column_holds = weights.column_holds

pub column_band : ColumnBand
column_band = weights.column_band
