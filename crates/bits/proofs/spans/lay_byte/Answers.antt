-- An entry of the table less another is the byte of these columns, as `ones_byte` says; it is or-ed with the byte, where that is one of the bytes.
use Rattle.std.proofs.Common.{◌≡◌, ◌+◌, ◌-◌, ◌*◌, ◌≤◌, ℕ, get_or, arith}
use Rattle.bits.specs.Bits.{bits_from, span}
use Rattle.bits.proofs.Masks.{ones, ones_byte}
use Rattle.bits.proofs.SpanBytes.{byte_laid, byte_past}
use Rattle.bits.proofs.spans.lay_byte.Goals as goal

-- the entries of the table that are read make the byte
made : (k l e : ℕ) → l ≤ e → e ≤ 8 →
    (get_or ones e 0 ≤ get_or ones l 0) × (get_or ones l 0 - get_or ones e 0 ≡ bits_from (span (8 * k + l) (8 * k + e)) (8 * k) 8 0)
made k l e p q = ones_byte (8 * k + l) (8 * k + e) (8 * k) {l = l} {e = e} (omega arith) (omega arith) (omega arith)

pub overflow_sub-bytes : goal.overflow_sub-bytes
overflow_sub-bytes c = (made c.args.k c.args.l c.args.e c.requires.ordered c.requires.few).0

pub returns-then-k-bytes : goal.returns-then-k-bytes
returns-then-k-bytes c =
    let a = c.args in
    byte_laid a.k a.l a.e c.requires.few a.bytes.now (made a.k a.l a.e c.requires.ordered c.requires.few).1

pub returns-else-k-bytes : goal.returns-else-k-bytes
returns-else-k-bytes c = let a = c.args in byte_past a.k a.l a.e c.requires.few a.bytes.now c.if-k-bytes.false
