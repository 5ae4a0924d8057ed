-- Where a turn stands those before setting i passed; the first that is refused is told.
use Rattle.std.proofs.Common.{◌<◌, sym, arith}
use Rattle.setting_list.specs.Settings.{setting_count}
use Rattle.setting_list.proofs.Held.{reached_none, reached_more, reached_bad, reached_all}
use Rattle.setting_list.proofs.settings_check.Goals as goal

pub loop-i-init : goal.loop-i-init
loop-i-init c = reached_none _

pub returns-in-Refused : goal.returns-in-Refused
returns-in-Refused c =
    let below : c.loop-i.i < setting_count c.args.settings.now = omega (arith, c.count_of-i-end.ensures, c.loop-i-test.true) in
    reached_bad c.args.settings.now c.loop-i.i c.loop-i.invariant below (sym c.in-Refused.ensures)

pub loop-i-preserved : goal.loop-i-preserved
loop-i-preserved c =
    let below : c.loop-i.i < setting_count c.args.settings.now = omega (arith, c.count_of-i-end.ensures, c.loop-i-test.true) in
    reached_more c.args.settings.now c.loop-i.i c.loop-i.invariant below (sym c.in_default.ensures)

pub returns : goal.returns
returns c = reached_all c.args.settings.now c.loop-i.i c.loop-i.invariant (omega (arith, c.count_of-i-end.ensures, c.loop-i-test.false))
