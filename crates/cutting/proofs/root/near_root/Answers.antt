-- A try that is made leaves what `Sought` says; halved_shrinks, halved_keeps and one_fewer (quarter) are its parts.
use Rattle.std.proofs.Common.{ℕ, ◌≡◌, ◌+◌, ◌-◌, ◌*◌, ◌^◌, ◌<◌, ap, subst, ◌∙◌, arith}
use Rattle.quarter.specs.Tries.{halved}
use Rattle.quarter.specs.NearRoot.{norm, lower}
use Rattle.quarter.proofs.Halving.{Shrunk, halved_shrinks, one_fewer, halved_keeps}
use Rattle.cutting.proofs.root.near_root.Goals as goal

pub loop-tries-preserved : goal.loop-tries-preserved
loop-tries-preserved c =
    let a = c.args in
    let i = c.loop-tries.i in
    let v = c.loop-tries.invariant in
    let e : c.halved-i.result ≡ halved (lower a.s) (a.s.w * a.s.w * norm a.s a.u a.v) i =
    c.halved-i.ensures ∙ ap (λ (q : ℕ). halved (lower a.s) q i) v.square_is in
    let k : Shrunk i c.halved-i.result = halved_shrinks _ _ i c.if-i.true e in
    let fewer = one_fewer (14 - c.loop-tries.tries) _ _ (omega (arith, c.if-i.true)) k.half v.short in
    let d : 14 - c.loop-tries.tries - 1 ≡ 14 - (c.loop-tries.tries + 1) = omega arith in
    record {
      square_is = v.square_is;
      ordered = k.ordered;
      small = omega (arith, k.high, v.small);
      same = halved_keeps a.s c.requires.setting a.u a.v c.requires.summed i c.if-i.true e ∙ v.same;
      short = subst (λ (b : ℕ). c.halved-i.result.high - c.halved-i.result.low < 2 ^ b) d fewer.1;
    }
