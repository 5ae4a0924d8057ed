-- The two corners of the pen's edge, at the end: each number is the one that is meant.
use Rattle.std.proofs.Common.{ap, ◌∙◌, ℕ, suc, ℤ, pos, w64, get_or, add-one}
use Rattle.integers.proofs.Machine.{known, add, sub}
use Rattle.flanks.specs.Walk.{place_of, walked}
use Rattle.flanks.proofs.Numbers.{answered, sixteenths, same_placed, same_flank}
use Rattle.flanks.proofs.turn.on_pen.Goals as goal

pub returns : goal.returns
returns c =
    let a = c.args in
    let ex = known {w = w64} c.requires.across tt in
    let ey = known {w = w64} c.requires.up tt in
    let h = known {w = w64} c.requires.row tt in
    -- the corner that the walk comes to, and the places of it and of the next
    let corner_is = c.walk-corner.ensures.answer ∙ ap (λ (y : ℤ). walked a.ys.now a.n a.left y a.k) (sub h ey tt).reads in
    let p_is = c.place_of-p.ensures ∙ ap (λ (k : ℕ). place_of k a.n a.left) corner_is in
    let q_is = c.place_of-q.ensures ∙ ap (λ (k : ℕ). place_of k a.n a.left) (add-one c.walk-corner.result ∙ ap suc corner_is) in
    -- the coordinates of the edge's corners
    let px = add ex (sixteenths (answered (c.at.ensures.same ∙ ap (λ (i : ℕ). get_or a.xs.now i (pos 0)) p_is) c.at.ensures.small tt)) tt in
    let py = add ey (sixteenths (answered (c.at-2.ensures.same ∙ ap (λ (i : ℕ). get_or a.ys.now i (pos 0)) p_is) c.at-2.ensures.small tt)) tt in
    let qx = add ex (sixteenths (answered (c.at-3.ensures.same ∙ ap (λ (i : ℕ). get_or a.xs.now i (pos 0)) q_is) c.at-3.ensures.small tt)) tt in
    let top = add ey (sixteenths (answered (c.at-4.ensures.same ∙ ap (λ (i : ℕ). get_or a.ys.now i (pos 0)) q_is) c.at-4.ensures.small tt)) tt in
    same_flank (c.place.ensures ∙ same_placed px.reads py.reads qx.reads top.reads h.reads) top.reads corner_is
