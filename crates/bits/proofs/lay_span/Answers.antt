-- A span without columns leaves the bytes.
use Rattle.bits.proofs.SpanBytes.{span_empty}
use Rattle.bits.proofs.lay_span.Goals as goal

pub returns-else-left-end : goal.returns-else-left-end
returns-else-left-end c = span_empty c.args.left c.args.end c.args.bytes.now c.if-left-end.false
