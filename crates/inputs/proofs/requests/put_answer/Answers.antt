-- The count is written behind the place, and that behind the refusal.
use Rattle.std.proofs.Common.{◌++◌}
use Rattle.wire.specs.Write.{number_bytes}
use Rattle.inputs.proofs.Stream.{both_written, last_written}
use Rattle.inputs.proofs.requests.put_answer.Goals as goal

pub returns-clause-written : goal.returns-clause-written
returns-clause-written g c =
    let W = g.W.Write.contents in
    let a = c.args.a in
    let r = number_bytes a.refusal in
    let p = number_bytes a.place in
    last_written c.put_number-3.result (W c.args.out.now) (W c.put_number-2.new.out) (W c.put_number-3.new.out) (r ++ p) (number_bytes a.count)
    (both_written (W c.args.out.now) (W c.put_number.new.out) (W c.put_number-2.new.out) r p c.in_ok-put_number.ensures.written c.in_ok-put_number-2.ensures.written)
    c.put_number-3.ensures.written
