-- What the test says of entry i, and what the definition then is there.
use Rattle.std.proofs.Common.{◌∙◌, sym, ap, rules, add-one, slice_index_or, w32, pos, FitsSigned}
use Rattle.std.proofs.Math.Facts.{to_z-of_z}
use Rattle.std.proofs.Math.ListN.{drop_of_length-le}
use Rattle.limits.specs.Sizes.{in_range}
use Rattle.checks.proofs.Verdicts.{bad_entry, good_entry, no_entry}
use Rattle.checks.proofs.coordinate_check.Goals as goal

pub returns-then-not-in_range : goal.returns-then-not-in_range
returns-then-not-in_range c =
    let s : FitsSigned w32 (slice_index_or c.args.path.now c.loop-i.i (pos 0)) = search rules in
    sym (bad_entry _ _ c.loop-i-test.true (ap in_range (sym (to_z-of_z {w = w32} s)) ∙ sym c.in_range.ensures ∙ c.if-not-in_range.true)) ∙ c.loop-i.invariant.1

pub loop-i-preserved : goal.loop-i-preserved
loop-i-preserved c =
    let s : FitsSigned w32 (slice_index_or c.args.path.now c.loop-i.i (pos 0)) = search rules in
    (search rules, rw add-one (sym (good_entry _ _ c.loop-i-test.true (ap in_range (sym (to_z-of_z {w = w32} s)) ∙ sym c.in_range.ensures ∙ c.if-not-in_range.false)) ∙ c.loop-i.invariant.1))

pub returns : goal.returns
returns c = sym (no_entry _ (drop_of_length-le _ {i = c.loop-i.i} c.loop-i-test.false)) ∙ c.loop-i.invariant.1
