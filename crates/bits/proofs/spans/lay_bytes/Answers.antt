-- The bytes between the two are filled; where there are none nothing is laid over.
use Rattle.std.proofs.Common.{◌≡◌, ◌-◌, ◌∙◌, ap, arith, rules, ℕ, length, take, drop, replicate, get_or, Fits, w8}
use borrow.Rule.Slice.PartMut.{put_mid}
use Rattle.std.proofs.lemmas.List.{places}
use Rattle.bits.proofs.SpanBytes.{bytes_filled, bytes_absent}
use Rattle.bits.proofs.spans.lay_bytes.Goals as goal

pub returns-then-first-n : goal.returns-then-first-n
returns-then-first-n c =
    let a = c.args in
    let k = c.min-n.result - a.first in
    let long : length (take k (drop a.first a.bytes.now)) ≡ k = search (rules, places) in
    let filled = c.fill.ensures.after (λ y e. e) ∙ ap (λ (j : ℕ). replicate j 255) long in
    ap (put_mid a.first k a.bytes.now) filled
    ∙ bytes_filled a.first a.last a.bytes.now c.min-n.result (λ i h. let f : Fits w8 (get_or a.bytes.now i 0) = search rules in omega (arith, f.fits)) c.min-n.ensures c.if-first-n.true

pub returns-else-first-n : goal.returns-else-first-n
returns-else-first-n c = let a = c.args in bytes_absent a.first a.last a.bytes.now (omega (arith, c.min-n.ensures, c.if-first-n.false))
