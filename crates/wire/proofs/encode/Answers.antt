-- As many numbers as are asked for, as the list has, and as fit.
use Rattle.std.proofs.Common.{◌≡◌, ℕ, ◌/◌, length, min, ap, ◌∙◌}
use Rattle.wire.proofs.Laws.{encoded_is}
use Rattle.wire.proofs.encode.Goals as goal

pub returns : goal.returns
returns c =
    let l = c.args.list.now in
    let k = min c.args.count (length c.args.bytes.now / 2) in
    let fewest : c.min-n.result ≡ min k (length l) = c.min-n.ensures ∙ ap (λ (n : ℕ). min n (length l)) c.min.ensures in
    c.pairs.ensures ∙ encoded_is l c.args.count c.args.bytes.now c.min-n.result fewest
