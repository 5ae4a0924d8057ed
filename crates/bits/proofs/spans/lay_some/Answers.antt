-- The span by its bytes, where they are several: a first, whole ones and a last.
use Rattle.std.proofs.Common.{◌≡◌, ◌+◌, ◌-◌, ◌*◌, ◌/◌, ◌%◌, ℕ, min, ap, ◌∙◌}
use Rattle.bits.specs.Bits.{span, blackened}
use Rattle.bits.proofs.SpanBytes.{span_several}
use Rattle.bits.proofs.spans.lay_some.Goals as goal

pub returns-then-first-last : goal.returns-then-first-last
returns-then-first-last c =
    let a = c.args in
    let first : c.lay_byte.new.bytes ≡ blackened (span (8 * (a.left / 8) + a.left % 8) (8 * (a.left / 8) + min (a.end - 8 * (a.left / 8)) 8)) a.bytes.now =
    c.lay_byte.ensures ∙ ap (λ (m : ℕ). blackened (span (8 * (a.left / 8) + a.left % 8) (8 * (a.left / 8) + m)) a.bytes.now) c.min.ensures in
    c.lay_byte-then-first-last.ensures ∙ ap (blackened _) (c.lay_bytes.ensures ∙ ap (blackened _) first)
    ∙ span_several a.left a.end c.requires a.bytes.now c.if-first-last.true
