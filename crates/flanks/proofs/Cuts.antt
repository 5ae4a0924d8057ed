-- The columns between the flanks cut to the raster: a column of it lies past the left edge where it is not among those that are counted up to there, and up to the right edge where
-- it is.
use Prim.Native.Nat.{ℕ, ◌≤◌, ◌<◌}
use native.Mathlib.Omega.{arith}
use mathlib.Core.Path.{◌≡◌, refl, sym}
use mathlib.Core.Logic.{inl, inr}
use mathlib.Core.Bool.{Bool, true, false, cond, ◌&&◌}
use lib.Dec.{leb, ltb}
use lib.IntN.{ℤ, pos}
use lib.Signed.{clash_ℤ}
use borrow.Author.Tests.{ltb-true, leb-true, leb-false, lt-ltb, le-ltb, le-leb}
use Rattle.integers.specs.Orders.{◌≼◌, ◌≺◌}
use Rattle.integers.proofs.Order.{le_or_lt}
use Rattle.integers.proofs.Tests.{same_test, and_both, and_true, and_false}
use Rattle.stroke.specs.Extent.{none}
use Rattle.stroke.specs.Runs.{in_span}
use Rattle.stroke.proofs.Path.{in_span_iff}
use Rattle.outline.specs.Outline.{past}
use Rattle.outline.proofs.Spans.{past_iff}
use Rattle.flanks.specs.declared.Cut.{Cut}
use Rattle.flanks.specs.Flanks.{inside, count_to, cut_at}
use Rattle.flanks.specs.Theorems.{CutIs}
use Rattle.flanks.proofs.Counts.{count_iff, count_most}

-- a column of the raster between two edges: past the left one, up to the right one
between_is : (columns x : ℕ) (l r : ℤ) → x < columns → in_span (past l r) (pos x) ≡ (leb (count_to columns l) x && ltb x (count_to columns r))
between_is columns x l r h =
    let a = count_iff columns x l h in
    let b = count_iff columns x r h in
    let s = in_span_iff (past l r) (pos x) in
    let p = past_iff l r (pos x) in
    same_test (in_span (past l r) (pos x)) (leb (count_to columns l) x && ltb x (count_to columns r))
    (λ e. let q = p.0 (s.0 e) in and_true _ _ (le-leb (count_to columns l) x (not_among (count_to columns l) x (λ k. clash_ℤ q.0 (a.0 k)))) (lt-ltb x (count_to columns r) (b.1 q.1)))
    (λ e. let q = and_both _ _ e in s.1 (p.1 (not_up_to l (pos x) (λ k. lt_irrefl (leb-true (count_to columns l) x q.0) (a.1 k)), b.0 (ltb-true x (count_to columns r) q.1))))
  where
    not_among : (c x : ℕ) → ¬ (x < c) → c ≤ x
    not_among c x h = go (leb c x) refl
      where
        go : (t : Bool) → leb c x ≡ t → c ≤ x
        go true e = leb-true c x e
        go false e = absurd (h (leb-false c x e))

    not_up_to : (l x : ℤ) → ¬ (x ≼ l) → l ≺ x
    not_up_to l x h = elim (le_or_lt x l) [ inl k ↦ absurd (h k) | inr k ↦ k ]

    lt_irrefl : {c x : ℕ} → c ≤ x → x < c → ⊥
    lt_irrefl l h = omega (arith, l, h)

pub cut_is : CutIs
unfolding cut_at
cut_is f j columns = go (inside f j)
  where
    go : (t : Bool) →
        let c : Cut = cond t (record { first = count_to columns f.left.edge.column; end = count_to columns f.right.edge.column }) (record { first = 0; end = 0 }) in
        (c.end ≤ columns) × ((x : ℕ) → x < columns → in_span (cond t (past f.left.edge.column f.right.edge.column) none) (pos x) ≡ (leb c.first x && ltb x c.end))
    go true = (count_most columns f.right.edge.column, λ x h. between_is columns x f.left.edge.column f.right.edge.column h)
    go false = (omega arith, λ x h. sym (and_false (leb 0 x) (ltb x 0) (le-ltb x 0 (omega arith))))
