-- The loop ends at the count, and what it leaves then is what the contract says.
use Rattle.std.proofs.Common.{◌≡◌, ◌∙◌, arith, ap, ℕ}
use Rattle.records.proofs.Written.{filled, filled_written}
use Rattle.records.proofs.write.Goals as goal

pub returns : goal.returns
returns c =
    let i : c.loop-i.i ≡ c.args.count = omega arith in
    let a = c.args in
    c.loop-i.invariant ∙ ap (λ (n : ℕ). filled n a.plain.now a.out.now) i ∙ filled_written a.count a.plain.now a.out.now c.requires.numbers c.requires.records
