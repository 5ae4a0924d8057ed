-- Every stroke of the legend is taken: its aperture is one of the table's, and its path is whole, short enough and within the limits.
use native.Mathlib.Omega.{arith}
use mathlib.Core.Path.{refl}
use Rattle.limits.specs.Sizes.{in_range}
use Rattle.setting.specs.Setting.{taken}
use Rattle.setting.specs.Answer.{checked}
use Rattle.aperture.specs.Table.{defined, looked}
use Rattle.checks.specs.Checks.{coordinate_from}
use Rattle.setting_list.specs.Settings.{tabled_from}
use Rattle.drawing.specs.Strokes.{path_of, first_from}
use Rattle.output.proofs.Order.{passes, put}
use Rattle.film.specs.Legend.{settings, strokes, legend}
use Rattle.film.specs.Theorems.{LegendTaken, LegendDone}

pub legend_taken : LegendTaken
unfolding settings strokes legend tabled_from defined checked taken looked path_of first_from coordinate_from in_range
legend_taken = refl

pub legend_done : LegendDone
legend_done first n b h k l = record {
  wide = record { enough = omega arith; least = omega arith };
  answer = put legend 640 400 first n b (passes legend 640 400 first n legend_taken h k) (omega arith);
}
