-- A step further where no number stands; the message where one does, and at the end.
use Rattle.std.proofs.Common.{◌∙◌, sym, arith}
use Rattle.tell.proofs.Seen.{looked, past, found, whole}
use Rattle.tell.proofs.message.Goals as goal

pub loop-i-preserved : goal.loop-i-preserved
loop-i-preserved c =
    let text = c.args.text.now in
    past text c.loop-i.i (omega arith) (looked text c.loop-i.i c.starts_with.ensures.value c.if-starts_with.false) ∙ c.loop-i.invariant

pub returns-then-starts_with : goal.returns-then-starts_with
returns-then-starts_with c =
    let text = c.args.text.now in
    sym (found text c.loop-i.i (omega arith) (looked text c.loop-i.i c.starts_with.ensures.value c.if-starts_with.true)) ∙ c.loop-i.invariant

pub returns : goal.returns
returns c = sym (whole c.args.text.now c.loop-i.i (omega arith)) ∙ c.loop-i.invariant
