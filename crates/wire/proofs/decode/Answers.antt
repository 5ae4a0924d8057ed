-- As many fours as there are, or as fit.
use Rattle.std.proofs.Common.{◌≡◌, length, min, ◌∙◌}
use Rattle.wire.specs.Read.{entries_of}
use Rattle.wire.proofs.Front.{over_is}
use Rattle.wire.proofs.Entries.{entries_length}
use Rattle.wire.proofs.decode.Goals as goal

pub returns : goal.returns
returns c =
    let held = entries_of c.args.bytes.now in
    let fewer : c.min-n.result ≡ min (length held) (length c.args.entries.now) = c.min-n.ensures ∙ rw (entries_length c.args.bytes.now) in
    c.fours.ensures ∙ over_is c.args.entries.now held c.min-n.result fewer
