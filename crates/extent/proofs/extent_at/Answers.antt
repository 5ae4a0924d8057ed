-- The three answers of the definition. As many corners as both arrays have are all that `count` names.
use Rattle.std.proofs.Common.{◌≡◌, ◌∙◌, sym, ap, ap₂, Bool, List, ℕ, min, length, ℤ, pos, to_z, of_z, w32, arith, FitsSigned}
use Rattle.integers.proofs.Machine.{par}
use Rattle.plane.specs.Point.{Pt, pt, corners}
use Rattle.plane.proofs.Read.{corners_all}
use Rattle.stroke.specs.Sweep.{Seg}
use Rattle.stroke.specs.Sides.{sides}
use Rattle.stroke.specs.Extent.{Left, narrowed, span_of, reached}
use Rattle.extent.specs.Answer.{seg, allowed, answered}
use Rattle.extent.specs.Held.{start, from_row}
use Rattle.extent.proofs.Answered.{allowed_near, none_outside, none_beyond, some_within}
use Rattle.extent.proofs.extent_at.Goals as goal

-- what the calls were told of the ends
ends_read : {ax ay bx by : ℤ} → FitsSigned w32 ax → FitsSigned w32 ay → FitsSigned w32 bx → FitsSigned w32 by →
    seg (to_z w32 (of_z w32 ax)) (to_z w32 (of_z w32 ay)) (to_z w32 (of_z w32 bx)) (to_z w32 (of_z w32 by)) ≡ seg ax ay bx by
ends_read a b c d =
    let both : Pt → Pt → Seg = λ A B. record { from = A; to = B } in
    ap₂ both (ap₂ pt (par {w = w32} a).reads (par {w = w32} b).reads) (ap₂ pt (par {w = w32} c).reads (par {w = w32} d).reads)

-- so the first test is that of the definition
abbrev test : ℕ → Seg → Bool
test j g = allowed g.from.x g.from.y g.to.x g.to.y j

pub returns-then-not-allowed : goal.returns-then-not-allowed
returns-then-not-allowed c =
    let a = c.args in
    let f = c.ranges in
    let told = c.allowed.ensures ∙ ap (test a.row) (ends_read f.ax f.ay f.bx f.by) in
    none_outside (corners a.count a.xs.now a.ys.now) _ _ _ _ _ (sym told ∙ c.if-not-allowed.true)

pub reached-requires-clause-near : goal.reached-requires-clause-near
reached-requires-clause-near c =
    let a = c.args in
    let f = c.ranges in
    let read = ends_read f.ax f.ay f.bx f.by in
    let yes = sym (c.allowed.ensures ∙ ap (test a.row) read) ∙ c.if-not-allowed.false in
    allowed_near a.ax a.ay a.bx a.by a.row yes c.from_row-g.result (c.from_row-g.ensures ∙ ap (from_row (pos a.row)) read)

-- the corners are in the arrays, and are all; so the second test is that of the definition
fewest : (count l m : ℕ) {k n : ℕ} → k ≡ min l m → n ≡ min count k → n ≡ min count (min l m)
fewest count l m e f = f ∙ ap (min count) e

pub returns-then-not-reached : goal.returns-then-not-reached
returns-then-not-reached c =
    let a = c.args in
    let f = c.ranges in
    let read = ends_read f.ax f.ay f.bx f.by in
    let yes = sym (c.allowed.ensures ∙ ap (test a.row) read) ∙ c.if-not-allowed.false in
    let n = c.min-n.result in
    let few : n ≡ min a.count (min (length a.xs.now) (length a.ys.now)) = fewest _ _ _ c.min.ensures c.min-n.ensures in
    let segment = c.from_row-g.ensures ∙ ap (from_row (pos a.row)) read in
    let reach = c.reached.ensures a.xs.now (omega (arith, few)) ∙ ap₂ (λ (cs : List Pt) (g : Seg). reached cs g (pos 0)) (sym (corners_all _ _ _ _ few)) segment in
    none_beyond (corners a.count a.xs.now a.ys.now) _ _ _ _ _ yes (sym reach ∙ c.if-not-reached.true)

pub narrowed-requires-clause-near : goal.narrowed-requires-clause-near
narrowed-requires-clause-near c =
    let a = c.args in
    let f = c.ranges in
    let read = ends_read f.ax f.ay f.bx f.by in
    let yes = sym (c.allowed.ensures ∙ ap (test a.row) read) ∙ c.if-not-allowed.false in
    allowed_near a.ax a.ay a.bx a.by a.row yes c.from_row-g.result (c.from_row-g.ensures ∙ ap (from_row (pos a.row)) read)

pub returns : goal.returns
returns c =
    let a = c.args in
    let f = c.ranges in
    let read = ends_read f.ax f.ay f.bx f.by in
    let yes = sym (c.allowed.ensures ∙ ap (test a.row) read) ∙ c.if-not-allowed.false in
    let n = c.min-n.result in
    let few : n ≡ min a.count (min (length a.xs.now) (length a.ys.now)) = fewest _ _ _ c.min.ensures c.min-n.ensures in
    let segment = c.from_row-g.ensures ∙ ap (from_row (pos a.row)) read in
    let all = sym (corners_all _ _ _ _ few) in
    let reach = c.reached.ensures a.xs.now (omega (arith, few)) ∙ ap₂ (λ (cs : List Pt) (g : Seg). reached cs g (pos 0)) all segment in
    let e = c.narrowed.ensures.answer ∙ ap₂ (λ (cs : List Pt) (g : Seg). narrowed (pos 0) (sides cs g) start) all segment in
    c.columns.ensures ∙ ap (λ (l : Left). answered (span_of l)) e
    ∙ some_within (corners a.count a.xs.now a.ys.now) _ _ _ _ _ yes (sym reach ∙ c.if-not-reached.false)
