-- The prover reads the text itself: the lists that the definitions compute are the legend's.
use Rattle.std.proofs.Common.{◌≡◌, ℕ, List, ap, ◌∙◌}
use Rattle.limits.specs.Sizes.{in_range}
use Rattle.setting.specs.Setting.{taken}
use Rattle.setting.specs.Answer.{checked}
use Rattle.aperture.specs.Table.{defined}
use Rattle.chunks.specs.Machine as chunks·
use Rattle.scan.specs.Scanner.{stepped}
use Rattle.trace.specs.Trace.{lined}
use Rattle.units.specs.Units.{in_units}
use Rattle.gerber.specs.Reader.{started, obeyed, acted, step_of}
use Rattle.gather.specs.Gather.{Gathered, Ended, noted, all_noted, gathered, finishing}
use Rattle.setting_list.specs.Settings.{tabled_from, table_of}
use Rattle.film.specs.Legend.{settings, strokes, legend}
use Rattle.film.proofs.Reading.{left_by, reads, left_legend, ended_legend}
use Rattle.film.proofs.read.Goals as goal

-- a call's text, and what the call left
record Read : Type 0 where
  text : List ℕ
  left : Gathered
  is : left ≡ left_by text

tabled : (c : goal.After-slice_known-5-1) → c.table-table.result ≡ (table_of settings).table
unfolding settings
tabled c = c.table-table.ensures

abbrev read : goal.After-slice_known-5-1 → Read
read c =
    let r = c.requires in
    record { text = _; left = _; is = c.gather-gathering.ensures ∙ reads _ _ _ _ _ _ c.start-begun.ensures (tabled c) r.entries_value r.apertures_value r.starts_value }

-- what it left is computed
left : (c : goal.After-slice_known-5-1) → (read c).left ≡ left_legend
unfolding
    settings strokes legend in_range taken checked defined tabled_from
    chunks·.read stepped lined in_units started obeyed acted step_of noted all_noted gathered
left c = (read c).is

pub returns : goal.returns
returns c =
    let l = left c in
    let e = c.finish.ensures ∙ ap (λ (g : Gathered). finishing g.gathering g.starts) l ∙ ended_legend in
    record {
      answer = ap (λ (d : Ended). d.answer) e;
      entries = ap (λ (g : Gathered). g.path) l;
      apertures = ap (λ (g : Gathered). g.apertures) l;
      starts = ap (λ (d : Ended). d.starts) e;
    }
