-- The bytes that are written are the list's.
use Rattle.std.proofs.Common.{ℕ, List, length, take, ◌*◌, ◌≤◌, ◌∙◌, ap, subst, arith}
use Rattle.std.proofs.lemmas.List.{length-replicate}
use Rattle.std.specs.Prelude.{OnOk, replicate}
use Rattle.std.specs.Io.KnownBytes.{Appends}
use Rattle.inputs.proofs.Stream.{listed}
use Rattle.inputs.proofs.requests.put_list.Goals as goal

pub returns-clause-written : goal.returns-clause-written
returns-clause-written g c =
    let W = g.W.Write.contents in
    let l = c.args.list.now in
    let zeros : List ℕ = replicate g.row.BYTES 0 in
    let room : 2 * length l ≤ length zeros = omega (arith, c.requires.room, length-replicate {A = ℕ} g.row.BYTES 0) in
    subst (λ (b : List ℕ). OnOk c.put.result (Appends (W c.args.out.now) (W c.put.new.out) b))
    (ap (take (2 * length l)) c.encode.ensures ∙ listed l zeros room)
    c.put.ensures.written
