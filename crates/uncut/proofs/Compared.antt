-- For a path of one or two points the row answer is the extent cut to the raster; and the engine has the same columns between its edges.
use Prim.Native.Nat.{ℕ, ◌+◌}
use mathlib.Core.Path.{◌≡◌, refl, sym, ap, ◌∙◌}
use mathlib.Core.List.{List}
use lib.IntN.{ℤ, pos}
use borrow.Author.Tests.{lt-ltb}
use Rattle.limits.specs.Sizes.{raster_max}
use Rattle.limits.specs.declared.Verdict.TheVariants.{Passed}
use Rattle.limits.specs.Refusal.{row, unless}
use Rattle.limits.proofs.Verdicts.{then_both}
use Rattle.aperture.specs.declared.Table.{Table}
use Rattle.aperture.specs.Table.{looked, looked_verdict, held_corners}
use Rattle.stroke.specs.Sweep.{path_points}
use Rattle.stroke.specs.Extent.{Span, extent}
use Rattle.stroke.specs.Runs.{runs_of, row_runs, in_span}
use Rattle.extent.specs.Answer.{answered}
use Rattle.std.specs.Prelude.{Option, Some, None}
use Rattle.cuts.specs.declared.cut.Cut.{Cut}
use Rattle.cuts.specs.Cuts.{cut_to, in_cut}
use Rattle.cuts.proofs.Raster.{in_cut_lem, cut_below}
use Rattle.checks.specs.Checks.{verdict, call_verdict}
use Rattle.checks.proofs.Entries.{Entries, entries}
use Rattle.row.specs.Calls.{row_call}
use Rattle.row.proofs.OneRun.{runs_one, runs_none}
use Rattle.engine.proofs.Checked.{row_left_lem}
use Rattle.engine.proofs.OneSegment.{segment_of, one_segment}
use Rattle.engine.proofs.Starting.{Passes}
use Rattle.engine.proofs.Same.{same_given, one_runs}
use Rattle.engine.proofs.Driven.{driven_passes}
use Rattle.engine.proofs.Theorems.{engine_extent}
use Rattle.uncut.specs.declared.Reached.{Reached}
use Rattle.uncut.specs.Uncut.{reached_in}
use Rattle.uncut.specs.Theorems.{run_of, RowCutsExtent, EngineReaches}
use Rattle.uncut.proofs.Reaching.{passes_reached, greatest_passed}
use Rattle.uncut.proofs.Pixels.{pen_extent}

-- ---- the row answer
-- the runs of a row in which the columns of a span are black are the run of its cut
span_runs : (s : Span) (columns : ℕ) → runs_of (λ x. in_span s (pos x)) columns ≡ run_of (cut_to columns (answered s))
span_runs s columns = go (cut_to columns (answered s)) refl
  where
    go : (c : Option Cut) → cut_to columns (answered s) ≡ c → runs_of (λ x. in_span s (pos x)) columns ≡ run_of c
    go None e = runs_none columns _ (λ x h. in_cut_lem s x columns h ∙ ap (in_cut x) e)
    go (Some c) e =
        let b = cut_below (answered s) refl c e in
        runs_one c.left c.right columns b.0 b.1 _ (λ x h. in_cut_lem s x columns h ∙ ap (in_cut x) e)

module _ (t : Table) (n : ℕ) (p : List ℤ) (columns rows j : ℕ) (h : Entries p) where
  -- a row call that has passed its checks has passed those of a call without a raster
  row_passes : call_verdict (looked_verdict (looked t n)) p columns rows j ≡ Passed → Passes t n p raster_max raster_max j
  row_passes e =
      let b = then_both (looked_verdict (looked t n)) (verdict p columns rows j) e in
      record { held = b.0; entries = h; checked = greatest_passed p columns rows j b.1 }

  cut_runs_lem : call_verdict (looked_verdict (looked t n)) p columns rows j ≡ Passed → row_runs (held_corners t n) (path_points p) columns j ≡ run_of (cut_to columns (reached_in t n p j).extent)
  cut_runs_lem e =
      one_runs (held_corners t n) columns j h ∙ span_runs (extent (held_corners t n) (segment_of p) (pos j)) columns
      ∙ sym (ap (λ (r : Reached). run_of (cut_to columns r.extent)) (passes_reached (row_passes e)))

pub row_cuts_extent : RowCutsExtent
unfolding row_call
row_cuts_extent t n p columns rows j two l =
    same_given (call_verdict (looked_verdict (looked t n)) p columns rows j) _ _ l (cut_runs_lem t n p columns rows j (entries p two))

-- ---- the engine
-- what it has passed in the row in which it was started, it has in every row that it comes to
pub engine_reaches : EngineReaches
engine_reaches σ t n h p columns rows j k e d low =
    let q = driven_passes d in
    let checked = row_left_lem p columns rows j q.checked (j + k) ∙ ap (λ b. unless b row) (lt-ltb (j + k) rows low) in
    let r : Passes t n p raster_max raster_max (j + k) = record { held = q.held; entries = q.entries; checked = greatest_passed p columns rows (j + k) checked } in (
      ap (λ (r : Reached). r.answer.refusal) (passes_reached r),
      ap answered (engine_extent σ t n h p columns rows j k e d low (segment_of p) (one_segment q.entries)) ∙ sym (pen_extent h r),
    )
