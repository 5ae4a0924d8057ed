-- The numbers of the definition, step by step: each within its bound.
use Rattle.std.proofs.Common.{◌≡◌, refl, sym, ap, ap₂, ◌∙◌, List, ℕ, get_or, ℤ, pos, neg_ℤ, ◌+ℤ◌, ◌-ℤ◌, ◌*ℤ◌, w32, FitsSigned, rules}
use Rattle.integers.proofs.Machine.{par, add, sub}
use Rattle.integers.proofs.Words.{widened_from}
use Rattle.flanks.specs.declared.Ends.{Ends}
use Rattle.flanks.specs.declared.Flanks.{Flanks}
use Rattle.flanks.specs.Walk.{tangent_of}
use Rattle.flanks.specs.Flanks.{ordered, held_of, idle, begun}
use Rattle.flanks.proofs.Numbers.{answered, sixteenths, flanks, same_flanks}
use Rattle.flanks.proofs.begin.Goals as goal

-- ---- the definition, of the ends in their order
module _ (count : ℕ) (xs ys : List ℤ) where
  abbrev depth_of : ℤ
  depth_of = pos 8 *ℤ get_or ys 0 (pos 0)

  -- the place of the corner furthest to the right of a direction
  abbrev furthest : ℤ → ℤ → ℕ
  furthest u v = tangent_of xs ys (held_of count xs ys) u v

  abbrev from_ends : Ends → Flanks
  from_ends e =
      let u = e.ux -ℤ e.lx in
      let v = e.uy -ℤ e.ly in
      let low = e.ly +ℤ depth_of in
      flanks e low (e.uy -ℤ depth_of) (idle low (furthest (neg_ℤ u) (neg_ℤ v))) (idle low (furthest u v))

  begun_ordered : (ax ay bx by : ℤ) → begun count xs ys ax ay bx by ≡ from_ends (ordered ax ay bx by)
  unfolding begun
  begun_ordered ax ay bx by = refl

-- ---- the goal
pub returns : goal.returns
returns c =
    let a = c.args in
    let f = c.ranges in
    let e = c.ordered-ends.result in
    let lx : FitsSigned w32 e.lx = search rules in
    let ly : FitsSigned w32 e.ly = search rules in
    let ux : FitsSigned w32 e.ux = search rules in
    let uy : FitsSigned w32 e.uy = search rules in
    let ends_are = rw ((par {w = w32} f.ax).reads, (par {w = w32} f.ay).reads, (par {w = w32} f.bx).reads, (par {w = w32} f.by).reads) at c.ordered-ends.ensures in
    -- the way from the lower end to the upper, how deep the pen reaches, and the sweep
    let ly_is = widened_from ly c.from-ly.ensures tt in
    let uy_is = widened_from uy c.from-uy.ensures tt in
    let u = sub (widened_from ux c.from-ux.ensures tt) (widened_from lx c.from-lx.ensures tt) tt in
    let v = sub uy_is ly_is tt in
    let depth = sixteenths (answered c.at-depth.ensures.same c.at-depth.ensures.small tt) in
    let low = add ly_is depth tt in
    let high = sub uy_is depth tt in
    -- the corners that the segment runs along
    let n = c.held-n in
    let left = c.tangents-tangents.ensures.left ∙ ap₂ (tangent_of a.xs.now a.ys.now n.result) (ap neg_ℤ u.reads) (ap neg_ℤ v.reads)
    ∙ ap (λ (n : ℕ). tangent_of a.xs.now a.ys.now n (neg_ℤ (e.ux -ℤ e.lx)) (neg_ℤ (e.uy -ℤ e.ly))) n.ensures in
    let right = c.tangents-tangents.ensures.right ∙ ap₂ (tangent_of a.xs.now a.ys.now n.result) u.reads v.reads
    ∙ ap (λ (n : ℕ). tangent_of a.xs.now a.ys.now n (e.ux -ℤ e.lx) (e.uy -ℤ e.ly)) n.ensures in
    same_flanks low.reads high.reads (c.idle.ensures ∙ ap₂ idle low.reads left) (c.idle-2.ensures ∙ ap₂ idle low.reads right)
    ∙ ap (from_ends a.count a.xs.now a.ys.now) ends_are
    ∙ sym (begun_ordered a.count a.xs.now a.ys.now a.ax a.ay a.bx a.by)
