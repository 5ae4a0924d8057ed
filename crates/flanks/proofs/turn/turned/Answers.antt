-- The three cases of the definition, by the two tests of it; each number within its bound.
use Rattle.std.proofs.Common.{◌≡◌, refl, sym, ap, ap₂, ◌∙◌, Bool, true, false, List, ℕ, get_or, ℤ, pos, ◌+ℤ◌, ◌*ℤ◌, w32, w64, FitsSigned, rules}
use Rattle.integers.specs.Compare.{min_z}
use Rattle.integers.proofs.Bound.{fits_abs}
use Rattle.integers.proofs.Machine.{known, par, rebound, add}
use Rattle.integers.proofs.Words.{ap₃, widened_from}
use Rattle.integers.proofs.Greater.{lesser_is}
use Rattle.ties.specs.Below.{below}
use Rattle.edge.specs.Edge.{placed}
use Rattle.flanks.specs.declared.Ends.{Ends}
use Rattle.flanks.specs.declared.Flank.{Flank}
use Rattle.flanks.specs.Flanks.{on_pen, turned}
use Rattle.flanks.proofs.Numbers.{answered, sixteenths, same_placed, flank, same_flank}
use Rattle.flanks.proofs.turn.turned.Goals as goal

-- ---- the definition in its three cases
-- a coordinate of the corner that the segment runs along, in sixteenths of a pixel
abbrev tangent_at : List ℤ → Flank → ℤ
tangent_at zs f = pos 8 *ℤ get_or zs f.tangent (pos 0)

module _ (f : Flank) (xs ys : List ℤ) (n : ℕ) (left : Bool) (e : Ends) (h : ℤ) where
  abbrev pen_at : ℤ → ℤ → Flank
  pen_at x y = on_pen xs ys n left f.tangent f.corner x y h

  abbrev lower_edge : Flank → Flank
  lower_edge p = flank p.edge (min_z p.top (e.ly +ℤ tangent_at ys f)) p.corner p.tangent

  turned_lower : below h (e.ly +ℤ tangent_at ys f) ≡ true → turned f xs ys n left e h ≡ lower_edge (pen_at e.lx e.ly)
  turned_lower t = rw t

  turned_along : below h (e.ly +ℤ tangent_at ys f) ≡ false → below h (e.uy +ℤ tangent_at ys f) ≡ true → turned f xs ys n left e h ≡
      flank (placed (e.lx +ℤ tangent_at xs f) (e.ly +ℤ tangent_at ys f) (e.ux +ℤ tangent_at xs f) (e.uy +ℤ tangent_at ys f) h) (e.uy +ℤ tangent_at ys f) f.corner f.tangent
  turned_along t u = rw (t, u)

  turned_upper : below h (e.ly +ℤ tangent_at ys f) ≡ false → below h (e.uy +ℤ tangent_at ys f) ≡ false → turned f xs ys n left e h ≡ pen_at e.ux e.uy
  turned_upper t u = rw (t, u)

-- ---- the goals
pub returns-then-below : goal.returns-then-below
returns-then-below c =
    let a = c.args in
    let lx : FitsSigned w32 a.e.lx = search rules in
    let ly : FitsSigned w32 a.e.ly = search rules in
    let h = known {w = w64} c.requires tt in
    let ty = sixteenths (answered c.at-ty.ensures.same c.at-ty.ensures.small tt) in
    let py = add (widened_from ly c.from-ly.ensures tt) ty tt in
    let lower = c.below.ensures ∙ ap₂ below h.reads py.reads in
    let lower_is = c.on_pen-lower.ensures ∙ ap₃ (on_pen a.xs.now a.ys.now a.n a.left a.f.tangent a.f.corner) (widened_from lx c.from-lx.ensures tt).reads (widened_from ly c.from-ly.ensures tt).reads h.reads in
    let pen_top : FitsSigned w64 c.on_pen-lower.result.top = search rules in
    let top = lesser_is (par {w = w64} pen_top) (rebound (fits_abs py.fits) py) c.min.ensures.value in
    same_flank refl top.reads refl
    ∙ ap (lower_edge a.f a.xs.now a.ys.now a.n a.left a.e a.h) lower_is
    ∙ sym (turned_lower a.f a.xs.now a.ys.now a.n a.left a.e a.h (sym lower ∙ c.if-below.true))

pub returns-then-below-2 : goal.returns-then-below-2
returns-then-below-2 c =
    let a = c.args in
    let lx : FitsSigned w32 a.e.lx = search rules in
    let ly : FitsSigned w32 a.e.ly = search rules in
    let ux : FitsSigned w32 a.e.ux = search rules in
    let uy : FitsSigned w32 a.e.uy = search rules in
    let h = known {w = w64} c.requires tt in
    let tx = sixteenths (answered c.at-tx.ensures.same c.at-tx.ensures.small tt) in
    let ty = sixteenths (answered c.at-ty.ensures.same c.at-ty.ensures.small tt) in
    let px = add (widened_from lx c.from-lx.ensures tt) tx tt in
    let py = add (widened_from ly c.from-ly.ensures tt) ty tt in
    let qx = add (widened_from ux c.from-ux.ensures tt) tx tt in
    let qy = add (widened_from uy c.from-uy.ensures tt) ty tt in
    let lower = c.below.ensures ∙ ap₂ below h.reads py.reads in
    let upper = c.below-2.ensures ∙ ap₂ below h.reads qy.reads in
    same_flank (c.place.ensures ∙ same_placed px.reads py.reads qx.reads qy.reads h.reads) qy.reads refl
    ∙ sym (turned_along a.f a.xs.now a.ys.now a.n a.left a.e a.h (sym lower ∙ c.if-below.false) (sym upper ∙ c.if-below-2.true))

pub returns : goal.returns
returns c =
    let a = c.args in
    let ly : FitsSigned w32 a.e.ly = search rules in
    let ux : FitsSigned w32 a.e.ux = search rules in
    let uy : FitsSigned w32 a.e.uy = search rules in
    let h = known {w = w64} c.requires tt in
    let ty = sixteenths (answered c.at-ty.ensures.same c.at-ty.ensures.small tt) in
    let py = add (widened_from ly c.from-ly.ensures tt) ty tt in
    let qy = add (widened_from uy c.from-uy.ensures tt) ty tt in
    let lower = c.below.ensures ∙ ap₂ below h.reads py.reads in
    let upper = c.below-2.ensures ∙ ap₂ below h.reads qy.reads in
    c.on_pen.ensures ∙ ap₃ (on_pen a.xs.now a.ys.now a.n a.left a.f.tangent a.f.corner) (widened_from ux c.from-ux.ensures tt).reads (widened_from uy c.from-uy.ensures tt).reads h.reads
    ∙ sym (turned_upper a.f a.xs.now a.ys.now a.n a.left a.e a.h (sym lower ∙ c.if-below.false) (sym upper ∙ c.if-below-2.false))
