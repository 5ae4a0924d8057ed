-- The tests are the definition's, of the next corner; where the loop ends the walk does.
use Rattle.std.proofs.Common.{◌≡◌, sym, ap, ◌∙◌, ◌-◌, ℤ, arith, w64, to_z}
use Rattle.integers.proofs.Machine.{known, par}
use Rattle.integers.proofs.Words.{bits}
use Rattle.ties.specs.Below.{below}
use Rattle.flanks.specs.Walk.{walked}
use Rattle.flanks.proofs.Walks.{walk_none, walk_ends, walk_stops, walk_goes}
use Rattle.flanks.proofs.walk.walk.Goals as goal

pub returns-then-n-eq0-clause-answer : goal.returns-then-n-eq0-clause-answer
returns-then-n-eq0-clause-answer c = let a = c.args in sym (walk_none a.ys.now a.n a.left a.y a.k c.if-n-eq0.true)

pub returns-then-below-clause-answer : goal.returns-then-below-clause-answer
returns-then-below-clause-answer c =
    let a = c.args in
    let row = to_z w64 (bits a.y) in
    let t = c.below.ensures ∙ ap (below row) ((known {w = w64} c.height.ensures.small tt).reads ∙ c.height.ensures.same) in
    let stops = walk_stops a.ys.now a.n a.left row (a.n - 1) c.loop-i.i c.loop-i-test.true (sym t ∙ c.if-below.true) in
    sym stops ∙ sym c.loop-i.invariant.answer ∙ ap (λ (y : ℤ). walked a.ys.now a.n a.left y a.k) (par {w = w64} c.ranges.y).reads

pub loop-i-preserved : goal.loop-i-preserved
loop-i-preserved c =
    let a = c.args in
    let row = to_z w64 (bits a.y) in
    let t = c.below.ensures ∙ ap (below row) ((known {w = w64} c.height.ensures.small tt).reads ∙ c.height.ensures.same) in
    let goes = walk_goes a.ys.now a.n a.left row (a.n - 1) c.loop-i.i c.loop-i-test.true (sym t ∙ c.if-below.false) in
    record { inside = omega arith; answer = c.loop-i.invariant.answer ∙ goes }

pub returns-clause-answer : goal.returns-clause-answer
returns-clause-answer c =
    let a = c.args in
    let row = to_z w64 (bits a.y) in
    let last : a.n - 1 ≡ c.loop-i.i = omega (arith, c.loop-i.invariant.inside, c.loop-i-test.false) in
    last ∙ sym (walk_ends a.ys.now a.n a.left row (a.n - 1) c.loop-i.i c.loop-i-test.false) ∙ sym c.loop-i.invariant.answer
    ∙ ap (λ (y : ℤ). walked a.ys.now a.n a.left y a.k) (par {w = w64} c.ranges.y).reads
