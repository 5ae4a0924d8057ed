-- The loop stores one corner after the other behind the two bytes that stand before it.
use Rattle.std.proofs.Common.{ℕ, ◌≡◌, ◌+◌, ◌*◌, ◌<◌, length, take, refl, sym, ap, ◌∙◌, arith, rules, w8}
use Rattle.std.proofs.Math.ListN.{length-set}
use Rattle.integers.proofs.Machine.{known}
use Rattle.try_pens.proofs.Bytes.{begun, more, two_more}
use Rattle.try_pens.proofs.answer.encode.Goals as goal

pub loop-i-init : goal.loop-i-init
loop-i-init c = begun _ _ (simp length-set c.requires.room)

pub loop-i-preserved : goal.loop-i-preserved
loop-i-preserved c =
    let b = c.requires.fits in
    let k = c.loop-i in
    more k.invariant (search rules) b.few b.x_long b.y_long
    (rw (← (known {w = w8} (b.x_small k.i) tt).reads, ← (known {w = w8} (b.y_small k.i) tt).reads) c.put.ensures)

pub returns-clause-bytes : goal.returns-clause-bytes
returns-clause-bytes c =
    let e : c.loop-i.i ≡ c.args.b.pen.count = omega arith in
    let two : 0 + 1 < length c.args.out.now = omega (arith, c.requires.room) in
    ap (λ (n : ℕ). take (2 * n + 2) c.loop-i.out) (sym e) ∙ c.loop-i.invariant.held ∙ rw (two_more c.args.out.now 0, e) refl
