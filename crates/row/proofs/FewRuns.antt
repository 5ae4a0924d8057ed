-- How many runs a row has at most: no more than the path has segments. Each run starts where the columns of some segment start, and those of one segment
-- start once.
use mathlib.Core.Path.{◌≡◌, refl, ap, ◌∙◌}
use mathlib.Core.Bool.{Bool, true, false, not, cond, ◌&&◌, ◌||◌}
use mathlib.Core.List.{List, [], ◌∷◌}
use Prim.Native.Nat.{ℕ, zero, suc, ◌+◌, ◌*◌, ◌≤◌}
use native.Mathlib.Omega.{arith}
use lib.IntN.{ℤ, pos}
use lib.ListN.{length}
use Rattle.plane.specs.Point.{Pt}
use Rattle.stroke.specs.Sweep.{Seg, segments, path_points}
use Rattle.stroke.specs.Extent.{Span, extent}
use Rattle.stroke.specs.Runs.{runs_of, in_span, any, row_runs}
use Rattle.stroke.proofs.Runs.{runs_ext}
use Rattle.extent.specs.Answer.{answered}
use Rattle.std.specs.Prelude.{Option, Some, None}
use Rattle.cuts.specs.declared.cut.Cut.{Cut}
use Rattle.cuts.specs.Cuts.{cut_to, in_cut, Below}
use Rattle.cuts.proofs.Raster.{in_cut_lem, cut_below}
use Rattle.segments.proofs.Ends.{start_in}
use Rattle.row.specs.Pass.{before}
use Rattle.row.proofs.Grown.{runs_grown, grown_length}
use Rattle.row.proofs.OneRun.{runs_one, runs_none}

-- ---- two lots of columns
-- a run starts at a column: the column is black, and the one before it is not
starts : (ℕ → Bool) → ℕ → ℕ
starts f i = cond (f i && not (before f i)) 1 0

one_more : (t : Bool) (n : ℕ) → cond t (suc n) n ≡ n + cond t 1 0
one_more true n = omega arith
one_more false n = omega arith

runs_next : (f : ℕ → Bool) (i : ℕ) → length (runs_of f (suc i)) ≡ length (runs_of f i) + starts f i
unfolding starts
runs_next f i = grown_length (runs_grown f i) ∙ one_more (f i && not (before f i)) (length (runs_of f i))

-- a run of both starts where one of either does
either_starts : (a a' b b' : Bool) → cond ((a || b) && not (a' || b')) 1 0 ≤ cond (a && not a') 1 0 + cond (b && not b') 1 0
either_starts false a' false b' = omega arith
either_starts false true true b' = omega arith
either_starts false false true b' = omega arith
either_starts true true b b' = omega arith
either_starts true false b true = omega arith
either_starts true false b false = omega arith

before_both : (f g : ℕ → Bool) (i : ℕ) → before (λ x. f x || g x) i ≡ (before f i || before g i)
before_both f g zero = refl
before_both f g (suc i) = refl

both_start : (f g : ℕ → Bool) (i : ℕ) → starts (λ x. f x || g x) i ≤ starts f i + starts g i
unfolding starts
both_start f g i = rw (before_both f g i) (either_starts (f i) (before f i) (g i) (before g i))

runs_both : (f g : ℕ → Bool) (n : ℕ) → length (runs_of (λ x. f x || g x) n) ≤ length (runs_of f n) + length (runs_of g n)
unfolding runs_of Rattle.stroke.specs.Runs.runs_from
runs_both f g zero = omega arith
runs_both f g (suc n) = omega (arith, runs_next (λ x. f x || g x) n, runs_next f n, runs_next g n, both_start f g n, runs_both f g n)

-- ---- the columns of one segment
cut_few : (c : Option Cut) (columns : ℕ) → Below columns c → length (runs_of (λ x. in_cut x c) columns) ≤ 1
cut_few None columns w = omega (arith, ap length (runs_none columns (λ x. false) (λ x h. refl)))
cut_few (Some c) columns w = let i = w c refl in omega (arith, ap length (runs_one c.left c.right columns i.0 i.1 (λ x. in_cut x (Some c)) (λ x h. refl)))

span_few : (s : Span) (columns : ℕ) → length (runs_of (λ x. in_span s (pos x)) columns) ≤ 1
span_few s columns =
    omega (arith, ap length (runs_ext {n = columns} (λ x h. in_cut_lem s x columns h)), cut_few (cut_to columns (answered s)) columns (cut_below (answered s) refl))

-- ---- and of all
any_few : (cs : List Pt) (columns j : ℕ) (l : List Seg) → length (runs_of (λ x. any (λ g. in_span (extent cs g (pos j)) (pos x)) l) columns) ≤ length l
any_few cs columns j [] = omega (arith, ap length (runs_none columns (λ x. false) (λ x h. refl)))
any_few cs columns j (g ∷ l) =
    let both = runs_both (λ x. in_span (extent cs g (pos j)) (pos x)) (λ x. any (λ g. in_span (extent cs g (pos j)) (pos x)) l) columns in
    omega (arith, both, span_few (extent cs g (pos j)) columns, any_few cs columns j l)

pub runs_segments : (cs path : List Pt) (columns j : ℕ) → length (row_runs cs path columns j) ≤ length (segments path)
runs_segments cs path columns j = any_few cs columns j (segments path)

-- a segment has the two entries of its start
two_entries : (p : List ℤ) (n : ℕ) → n ≡ length (segments (path_points p)) → 2 * n ≤ length p
two_entries p zero e = omega arith
two_entries p (suc n) e = omega (arith, start_in p n (omega arith))

-- so a list as long as the path has room for the runs
pub runs_entries : (cs : List Pt) (p : List ℤ) (columns j : ℕ) → 2 * length (row_runs cs (path_points p) columns j) ≤ length p
runs_entries cs p columns j = omega (arith, runs_segments cs (path_points p) columns j, two_entries p (length (segments (path_points p))) refl)
