-- What is left to read gives, byte by byte, what the whole text gives.
use Rattle.std.proofs.Common.{◌≡◌, ◌∙◌, Err, sym, arith, rules}
use Rattle.inputs.proofs.Reading.{begun, empty, past, one, none}
use Rattle.inputs.proofs.read_number.Goals as goal

pub returns-then-is_empty : goal.returns-then-is_empty
returns-then-is_empty c = sym (empty c.args.text.now (search rules))

pub loop-b-preserved : goal.loop-b-preserved
loop-b-preserved c =
    one c.loop-b.n c.args.text.now c.loop-b.b-index (omega arith) (sym (c.in_ok-n.was) ∙ c.lengthened.ensures) ∙ c.loop-b.invariant

pub returns-in_err-n : goal.returns-in_err-n
returns-in_err-n c =
    let e : c.from_residual.result ≡ Err c.in_err-n.field-0.0 = search rules in
    e ∙ none c.loop-b.n c.args.text.now c.loop-b.b-index (omega arith) (sym (c.in_err-n.was) ∙ c.lengthened.ensures)
    ∙ c.loop-b.invariant
    ∙ begun c.args.text.now (search rules)

pub returns : goal.returns
returns c = sym (past c.loop-b.n c.args.text.now c.loop-b.b-index (omega arith)) ∙ c.loop-b.invariant ∙ begun c.args.text.now (search rules)
