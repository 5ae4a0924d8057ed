-- The cut of segment k is done: none is left after it, or it is the third that touches the row.
use Rattle.std.proofs.Common.{◌∙◌, ap, add-one}
use Rattle.cuts.specs.Cuts.{touched}
use Rattle.cuts.proofs.Passed.{searched_step, searched_end, several_end}
use Rattle.cuts.proofs.cut.first_touches.Goals as goal

pub returns-in-Several : goal.returns-in-Several
returns-in-Several c =
    several_end (searched_step c.loop-k.invariant c.loop-k-test.true (c.touched-t.ensures ∙ ap (touched c.loop-k.t) c.cut_at.ensures.cut)) c.in-Several.is

pub loop-k-preserved : goal.loop-k-preserved
loop-k-preserved c = rw add-one (searched_step c.loop-k.invariant c.loop-k-test.true (c.touched-t.ensures ∙ ap (touched c.loop-k.t) c.cut_at.ensures.cut))

pub returns : goal.returns
returns c = searched_end c.loop-k.invariant c.loop-k-test.false
