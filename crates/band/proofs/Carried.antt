-- The rows of a segment, one after another: the flanks after so many rows, and one row more over the bytes.
use Prim.Native.Nat.{ℕ, suc, ◌+◌, ◌-◌, ◌*◌, ◌≤◌, ◌<◌}
use native.Mathlib.Nat.{mul_assoc}
use native.Mathlib.Omega.{arith}
use mathlib.Core.Path.{◌≡◌, refl, sym, ap, ap₂, ◌∙◌}
use mathlib.Core.Bool.{Bool}
use mathlib.Core.List.{List}
use lib.IntN.{ℤ}
use Rattle.bits.specs.Bits.{span, blackened}
use Rattle.bits.proofs.Blackened.{blackened_ext}
use Rattle.flanks.specs.declared.Flanks.{Flanks}
use Rattle.flanks.specs.Flanks.{risen, count_to}
use Rattle.flanks.proofs.Counts.{count_most}
use Rattle.band.specs.declared.Shape.{Shape}
use Rattle.band.specs.Rows.{shaped, risen_by, flank_black, Fits}
use Rattle.band.proofs.Layers.{laid_none, laid_after}
use Rattle.band.proofs.OneRow.{rows_ext, row_span}

module _ (count : ℕ) (xs ys : List ℤ) (f₀ : Flanks) (from : ℕ) where
  abbrev by : ℕ → Flanks
  by = risen_by count xs ys f₀ from

  pub risen_none : by 0 ≡ f₀
  unfolding risen_by
  risen_none = refl

  pub risen_more : (k : ℕ) → by (suc k) ≡ risen count xs ys (by k) (from + k)
  unfolding risen_by
  risen_more k = refl

  -- in row j, from the row before it
  pub risen_next : (f : Flanks) (j : ℕ) → from ≤ j → f ≡ by (j - from) → risen count xs ys f j ≡ by (suc (j - from))
  risen_next f j l e = ap₂ (risen count xs ys) e (omega arith) ∙ sym (risen_more (j - from))

  -- ---- one row more
  module _ (s : Shape) where
    abbrev black : ℕ → ℕ → Bool
    black = flank_black count xs ys f₀ s.columns from

    pub rows_at_first : (b : List ℕ) → b ≡ blackened (shaped black s from from) b
    rows_at_first b = laid_none black s from from b (λ j x l h. absurd (omega (arith, l, h)))

    module _ (fits : Fits s) (g : Flanks) (row : ℕ) (held : row ≤ s.top) (after : from ≤ row) (stands : g ≡ by (suc (row - from))) where
      abbrev left : ℕ
      left = count_to s.columns g.left.edge.column

      abbrev right : ℕ
      right = count_to s.columns g.right.edge.column

      -- the row by itself: the span between the flanks that stand in it
      this_row : (z : ℕ) → span (8 * s.stride * (s.top - row) + left) (8 * s.stride * (s.top - row) + right) z ≡ shaped black s row (suc row) z
      this_row z =
          row_span s.columns s.top (8 * s.stride) row left right held (count_most s.columns g.right.edge.column) fits.wide z
          ∙ rows_ext (λ _ x. span left right x) black s.columns s.top (8 * s.stride) row (suc row) same z
        where
          at : (j x : ℕ) → j ≡ row → span left right x ≡ black j x
          at j x e = ap (λ (h : Flanks). span (count_to s.columns h.left.edge.column) (count_to s.columns h.right.edge.column) x) (stands ∙ ap (λ (k : ℕ). by (suc (k - from))) (sym e))

          same : (j x : ℕ) → row ≤ j → j < suc row → x < s.columns → span left right x ≡ black j x
          same j x l h _ = at j x (omega (arith, l, h))

      abbrev place : ℕ
      place = 8 * (s.stride * (s.top - row))

      moved : (z : ℕ) → span (place + left) (place + right) z ≡ shaped black s row (suc row) z
      moved z = ap (λ (p : ℕ). span (p + left) (p + right) z) (sym (mul_assoc 8 s.stride (s.top - row))) ∙ this_row z

      pub one_row_more : (b c : List ℕ) → b ≡ blackened (shaped black s from row) c → blackened (span (place + left) (place + right)) b ≡ blackened (shaped black s from (row + 1)) c
      one_row_more b c e =
          blackened_ext (span (place + left) (place + right)) (shaped black s row (suc row)) b (λ z _. moved z)
          ∙ laid_after black s from row (suc row) c after (omega arith) e
          ∙ ap (λ (n : ℕ). blackened (shaped black s from n) c) (omega arith)
