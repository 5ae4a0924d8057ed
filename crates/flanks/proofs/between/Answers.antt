-- The cases of the definition.
use Rattle.std.proofs.Common.{◌≡◌, sym, ap, ap₂, ◌∙◌, true, false, ℕ, ℤ, w64, FitsSigned, rules}
use Rattle.integers.proofs.Machine.{par}
use Rattle.flanks.specs.declared.Flanks.{Flanks}
use Rattle.flanks.specs.declared.Cut.{Cut}
use Rattle.flanks.specs.Flanks.{inside, inside_of, count_to, cut_at}
use Rattle.flanks.proofs.between.Goals as goal

-- ---- the definition in either case
module _ (f : Flanks) (row columns : ℕ) where
  cut_outside : inside f row ≡ false → cut_at f row columns ≡ record { first = 0; end = 0 }
  unfolding cut_at
  cut_outside e = rw e

  cut_inside : inside f row ≡ true → cut_at f row columns ≡ record { first = count_to columns f.left.edge.column; end = count_to columns f.right.edge.column }
  unfolding cut_at
  cut_inside e = rw e

-- ---- the goals
pub returns-then-not-inside : goal.returns-then-not-inside
returns-then-not-inside c =
    let a = c.args in
    let low : FitsSigned w64 a.f.low = search rules in
    let high : FitsSigned w64 a.f.high = search rules in
    let tested = c.inside.ensures ∙ ap₂ (λ (l h : ℤ). inside_of l h a.row) (par {w = w64} low).reads (par {w = w64} high).reads in
    sym (cut_outside a.f a.row a.columns (sym tested ∙ c.if-not-inside.true))

pub returns : goal.returns
returns c =
    let a = c.args in
    let low : FitsSigned w64 a.f.low = search rules in
    let high : FitsSigned w64 a.f.high = search rules in
    let left : FitsSigned w64 a.f.left.edge.column = search rules in
    let right : FitsSigned w64 a.f.right.edge.column = search rules in
    let tested = c.inside.ensures ∙ ap₂ (λ (l h : ℤ). inside_of l h a.row) (par {w = w64} low).reads (par {w = w64} high).reads in
    let first = c.count_to.ensures ∙ ap (count_to a.columns) (par {w = w64} left).reads in
    let end = c.count_to-2.ensures ∙ ap (count_to a.columns) (par {w = w64} right).reads in
    let cut : ℕ → ℕ → Cut = λ first end. record { first = first; end = end } in
    ap₂ cut first end ∙ sym (cut_inside a.f a.row a.columns (sym tested ∙ c.if-not-inside.false))
