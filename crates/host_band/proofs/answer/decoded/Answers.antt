-- The array's front holds the path's coordinates.
use Rattle.std.proofs.Common.{ap, ◌∙◌, ◌*◌, ◌/◌, ◌≤◌, List, ℤ, pos, length, take, replicate, arith}
use Rattle.std.proofs.Math.ListN.{length-replicate}
use Rattle.wire.proofs.Laws.{decoded_front}
use Rattle.host_band.specs.Call.{entries_call}
use Rattle.host_band.proofs.answer.decoded.Goals as goal

pub returns : goal.returns
returns g c =
    let a = c.args in
    let e = replicate g.row.N (pos 0) in
    let short : length a.path.now ≤ 4 * length e = omega (arith, length-replicate g.row.N (pos 0), c.requires.short) in
    c.of_entries.ensures
    ∙ ap (λ (p : List ℤ). entries_call a.call p a.bytes.now) (ap (take (length a.path.now / 4)) c.decode.ensures ∙ decoded_front a.path.now e short)
