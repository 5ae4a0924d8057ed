-- The span of the part is the span of the whole, further to the right.
use Rattle.std.proofs.Common.{rules}
use Rattle.bits.proofs.Shifted.{span_part, span_beyond}
use Rattle.bits.proofs.lay_span_from.Goals as goal

pub returns-then-at-bytes : goal.returns-then-at-bytes
returns-then-at-bytes c = let a = c.args in span_part a.at a.left a.end a.bytes.now (search rules) c.lay_span.ensures

pub returns-else-at-bytes : goal.returns-else-at-bytes
returns-else-at-bytes c = let a = c.args in span_beyond a.at a.left a.end a.bytes.now c.if-at-bytes.false
