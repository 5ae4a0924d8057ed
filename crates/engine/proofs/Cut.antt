-- The columns of a cut are the one run of a row, or none.
use Prim.Native.Nat.{ℕ, ◌-◌, ◌≤◌, ◌<◌}
use native.Mathlib.Omega.{arith}
use mathlib.Core.Path.{◌≡◌, refl, ap, ◌∙◌}
use mathlib.Core.Bool.{Bool, true, false, cond, ◌&&◌}
use mathlib.Core.List.{[], ◌∷◌}
use lib.Dec.{leb, ltb}
use lib.IntN.{pos}
use borrow.Author.Tests.{ltb-true, ltb-false, leb-true, lt-ltb, le-ltb, le-leb}
use Rattle.integers.proofs.Tests.{same_test, and_both, clash}
use Rattle.stroke.specs.Runs.{runs_of, in_span}
use Rattle.row.proofs.OneRun.{runs_one, runs_none}
use Rattle.flanks.specs.declared.Cut.{Cut}
use Rattle.flanks.specs.declared.Flanks.{Flanks}
use Rattle.flanks.specs.Flanks.{span_at, cut_at}
use Rattle.flanks.proofs.Theorems.{cut_is}
use Rattle.engine.specs.Engine.{cut_runs}

-- ---- the runs of a cut, by its two columns
pub cut_none : (c : Cut) → c.end ≤ c.first → cut_runs c ≡ []
cut_none c h = ap (λ (t : Bool). cond t (record { left = c.first; right = c.end - 1 } ∷ []) []) (le-ltb c.first c.end h)

pub cut_some : (c : Cut) → c.first < c.end → cut_runs c ≡ record { left = c.first; right = c.end - 1 } ∷ []
cut_some c h = ap (λ (t : Bool). cond t (record { left = c.first; right = c.end - 1 } ∷ []) []) (lt-ltb c.first c.end h)

-- ---- they are the runs of a row in which the columns of the cut are black
-- a column is before the end when it is at most the one before the end
before_end : (x end : ℕ) → 1 ≤ end → ltb x end ≡ leb x (end - 1)
before_end x end h = same_test _ _ (λ q. le-leb x (end - 1) (omega (arith, ltb-true x end q))) (λ q. lt-ltb x end (omega (arith, leb-true x (end - 1) q)))

-- a cut that ends before it begins has no column
none_between : (first end x : ℕ) → end ≤ first → (leb first x && ltb x end) ≡ false
none_between first end x h =
    same_test _ _ (λ q. let b = and_both (leb first x) (ltb x end) q in absurd (omega (arith, leb-true first x b.0, ltb-true x end b.1))) (λ q. absurd (clash q refl))

-- a row in which the columns of a cut are black, and no others
pub runs_cut : (c : Cut) (columns : ℕ) → c.end ≤ columns → (f : ℕ → Bool) → ((x : ℕ) → x < columns → f x ≡ (leb c.first x && ltb x c.end)) → runs_of f columns ≡ cut_runs c
runs_cut c columns h f e = go (ltb c.first c.end) refl
  where
    go : (t : Bool) → ltb c.first c.end ≡ t → runs_of f columns ≡ cond t (record { left = c.first; right = c.end - 1 } ∷ []) []
    go true q =
        let some = ltb-true c.first c.end q in
        runs_one c.first (c.end - 1) columns (omega (arith, some)) (omega (arith, some)) f (λ x l. e x l ∙ ap (λ (b : Bool). leb c.first x && b) (before_end x c.end (omega (arith, some))))
    go false q = runs_none columns f (λ x l. e x l ∙ none_between c.first c.end x (ltb-false c.first c.end q))

-- so the runs of a row between flanks are those of their cut
pub flanks_runs : (f : Flanks) (j columns : ℕ) → runs_of (λ x. in_span (span_at f j) (pos x)) columns ≡ cut_runs (cut_at f j columns)
flanks_runs f j columns = let c = cut_is f j columns in runs_cut (cut_at f j columns) columns c.0 _ c.1
