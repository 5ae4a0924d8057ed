-- What is kept after a place to each side: how far it lies, and that the definition goes on with it.
use Rattle.std.proofs.Common.{◌≡◌, sym, ap, ap₂, ◌∙◌, cond, neg_ℤ, ℕ, ℤ, w64, to_z}
use Rattle.integers.proofs.Machine.{par}
use Rattle.integers.proofs.Words.{bits}
use Rattle.flanks.specs.Walk.{turn_at, tangent_of}
use Rattle.flanks.proofs.Numbers.{reads_as_lem}
use Rattle.flanks.proofs.Walks.{further, tangent_ends, right_goes, left_goes}
use Rattle.flanks.proofs.walk.tangents.Goals as goal
use Rattle.flanks.proofs.walk.tangents.Goals.{then-t-least, else-t-least, then-most-t, else-most-t}

same_far : (f : ℕ → ℤ) {z z' : ℤ} {b b' : ℕ} → z' ≡ z → b' ≡ b → z ≡ f b → z' ≡ f b'
same_far f p q e = p ∙ e ∙ ap f (sym q)

pub loop-i-preserved : goal.loop-i-preserved
loop-i-preserved c =
    let a = c.args in
    let t = c.loop-i in
    let x : ℤ = to_z w64 (bits a.u) in
    let y : ℤ = to_z w64 (bits a.v) in
    let far : ℕ → ℤ = λ i. turn_at a.xs.now a.ys.now x y i in
    let e : to_z w64 (bits c.turn-t.result) ≡ far t.i = reads_as_lem c.turn-t.type_inv c.turn-t.ensures in
    let l : (to_z w64 c.if-t-least.least-bits ≡ far c.if-t-least.left) × (cond (further a.xs.now a.ys.now x y t.i t.left) t.i t.left ≡ c.if-t-least.left) = elim c.if-t-least.branch [
      | then-t-least w ↦ (same_far far w.least-is w.left-is e, rw (rw (e, t.invariant.least) at w.if-t-least.true) (sym w.left-is))
      | else-t-least w ↦ (same_far far w.least-is w.left-is t.invariant.least, rw (rw (e, t.invariant.least) at w.if-t-least.false) (sym w.left-is))
    ] in
    let r : (to_z w64 c.if-most-t.most-bits ≡ far c.if-most-t.right) × (cond (further a.xs.now a.ys.now x y t.right t.i) t.i t.right ≡ c.if-most-t.right) = elim c.if-most-t.branch [
      | then-most-t w ↦ (same_far far w.most-is w.right-is e, rw (rw (e, t.invariant.most) at w.if-most-t.true) (sym w.right-is))
      | else-most-t w ↦ (same_far far w.most-is w.right-is t.invariant.most, rw (rw (e, t.invariant.most) at w.if-most-t.false) (sym w.right-is))
    ] in
    record {
      least = l.0;
      most = r.0;
      left = t.invariant.left ∙ left_goes a.xs.now a.ys.now x y a.n t.i t.left c.loop-i-test.true l.1;
      right = t.invariant.right ∙ right_goes a.xs.now a.ys.now x y a.n t.i t.right c.loop-i-test.true r.1;
    }

pub returns-clause-left : goal.returns-clause-left
returns-clause-left c =
    let a = c.args in
    let u = par {w = w64} c.ranges.u in
    let v = par {w = w64} c.ranges.v in
    sym (tangent_ends a.xs.now a.ys.now (neg_ℤ (to_z w64 (bits a.u))) (neg_ℤ (to_z w64 (bits a.v))) a.n c.loop-i.i c.loop-i.left c.loop-i-test.false) ∙ sym c.loop-i.invariant.left
    ∙ ap₂ (λ (x y : ℤ). tangent_of a.xs.now a.ys.now a.n (neg_ℤ x) (neg_ℤ y)) u.reads v.reads

pub returns-clause-right : goal.returns-clause-right
returns-clause-right c =
    let a = c.args in
    let u = par {w = w64} c.ranges.u in
    let v = par {w = w64} c.ranges.v in
    sym (tangent_ends a.xs.now a.ys.now (to_z w64 (bits a.u)) (to_z w64 (bits a.v)) a.n c.loop-i.i c.loop-i.right c.loop-i-test.false) ∙ sym c.loop-i.invariant.right
    ∙ ap₂ (tangent_of a.xs.now a.ys.now a.n) u.reads v.reads
