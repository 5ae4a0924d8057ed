-- What `entry` answered is the next coordinate, and the copy has it at its place.
use Rattle.std.proofs.Common.{◌≡◌, ◌+◌, ◌*◌, ◌<◌, length, get_or, set, List, ℤ, pos, sym, ap, ap₂, ◌∙◌, add-one, arith, w32, to_z, of_z}
use Rattle.std.proofs.Math.Seq.{paste}
use Rattle.integers.proofs.Machine.{par}
use Rattle.wire.specs.Read.{entries_of}
use Rattle.wire.proofs.Front.{front_suc}
use Rattle.wire.proofs.Entries.{entries_length, entry_at}
use Rattle.wire.proofs.read.fours.Goals as goal

pub loop-i-preserved : goal.loop-i-preserved
loop-i-preserved c =
    let i = c.loop-i.i in
    let b = c.args.bytes.now in
    let d = c.args.entries.now in
    let inside : 4 * i + 3 < length b = omega arith in
    let room : i < length d = omega arith in
    let from : i < length (entries_of b) = omega (arith, entries_length b) in
    let next : to_z w32 (of_z w32 c.entry.result) ≡ get_or (entries_of b) i (pos 0) =
    (par {w = w32} (record { sfits = c.entry.type_inv })).reads ∙ c.entry.ensures ∙ sym (entry_at b i inside) in
    ap₂ (λ (l : List ℤ) (x : ℤ). set l i x) c.loop-i.invariant next
    ∙ front_suc d (entries_of b) i (pos 0) room from
    ∙ ap (paste d 0 (entries_of b)) (sym (add-one i))
