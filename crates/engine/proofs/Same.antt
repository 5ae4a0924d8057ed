-- Why the engine and the row answer agree. A driven engine has passed the checks of its start, which are the row call's but for the row and the room; so in the row in which it
-- stands the row call can be refused only with 5 and with 7. Its flanks are those of the path's one segment, k rows above the first: between them lies the segment's extent
-- (`FlanksBound`), and a row of one segment is black where its extent is. So both calls offer the same runs.
use Prim.Native.Nat.{ℕ, ◌+◌, ◌<◌}
use native.Mathlib.Omega.{arith}
use mathlib.Core.Path.{◌≡◌, refl, sym, ap, subst, ◌∙◌}
use mathlib.Core.Bool.{or-false}
use mathlib.Core.List.{List, [], ◌∷◌}
use lib.ListN.{get_or}
use lib.IntN.{ℤ, pos}
use borrow.Author.Tests.{ltb-true, le-leb}
use Rattle.integers.specs.Orders.{◌≼◌}
use Rattle.integers.proofs.Tests.{le_iff}
use Rattle.limits.specs.declared.Verdict.{Verdict}
use Rattle.limits.specs.declared.Verdict.TheVariants.{Passed, Refused}
use Rattle.limits.specs.Refusal.{row, ◌then◌}
use Rattle.limits.proofs.Verdicts.{unless_true}
use Rattle.plane.specs.Point.{Pt}
use Rattle.plane.specs.Polygon.{PenLaws}
use Rattle.setting.specs.declared.Setting.{Setting}
use Rattle.setting.specs.Setting.{Dx, Dy}
use Rattle.setting.proofs.Limits.{box_wide, box_high}
use Rattle.pen.specs.declared.Pen.{Pen}
use Rattle.pen.specs.Polygon.{pen}
use Rattle.pen.proofs.Theorems.{pen_is_pen}
use Rattle.aperture.specs.declared.Table.{Table}
use Rattle.aperture.specs.Table.{place_of, held_corners}
use Rattle.aperture.specs.Reachable.{Holds}
use Rattle.aperture.proofs.Held.{held_corners_lem}
use Rattle.stroke.specs.Sweep.{Seg, path_points}
use Rattle.stroke.specs.Extent.{Span, extent}
use Rattle.stroke.specs.Runs.{Run, runs_of, row_runs, in_span, any}
use Rattle.stroke.proofs.Runs.{runs_ext}
use Rattle.checks.specs.Checks.{row_verdict, verdict}
use Rattle.checks.specs.Answer.{given}
use Rattle.checks.proofs.Verdicts.{verdict_passed}
use Rattle.checks.proofs.Entries.{Entries}
use Rattle.row.specs.Answer.{runs_offer, row_given, row_result}
use Rattle.row.specs.Calls.{row_call}
use Rattle.row.proofs.Filled.{call_is}
use Rattle.flanks.specs.Flanks.{span_at}
use Rattle.flanks.proofs.Theorems.{flanks_bound}
use Rattle.engine.specs.declared.Engine.{Engine}
use Rattle.engine.specs.Engine.{engine_runs, step_result}
use Rattle.engine.specs.Theorems.{EngineIsRow, EnginesMeet, EngineExtent}
use Rattle.engine.proofs.OneSegment.{segment_of, one_segment, entries_in, last}
use Rattle.engine.proofs.Checked.{row_left_lem, row_low}
use Rattle.engine.proofs.Starting.{Passes}
use Rattle.engine.proofs.Driven.{flanks_of, driven_to, driven_is, driven_passes}

-- ---- a result depends on its offer only where the checks are passed
pub same_given : (v : Verdict) (rs ss : List Run) (l : List ℕ) → (v ≡ Passed → rs ≡ ss) → given v (runs_offer rs l) ≡ given v (runs_offer ss l)
same_given Passed rs ss l f = ap (λ (rs : List Run). given Passed (runs_offer rs l)) (f refl)
same_given (Refused n place) rs ss l f = refl

-- ---- the row of one segment
pub one_runs : (cs : List Pt) {p : List ℤ} (columns j : ℕ) → Entries p → row_runs cs (path_points p) columns j ≡ runs_of (λ x. in_span (extent cs (segment_of p) (pos j)) (pos x)) columns
one_runs cs {p} columns j h =
    runs_ext (λ x _. ap (any (λ g. in_span (extent cs g (pos j)) (pos x))) (one_segment h) ∙ or-false (in_span (extent cs (segment_of p) (pos j)) (pos x)))

-- ---- the pen that an aperture holds
module _ {t : Table} {n : ℕ} {σ : Setting} (h : Holds t n σ) where
  held_laws : PenLaws (held_corners t n) (pos (Dx σ)) (pos (Dy σ))
  held_laws = subst (λ (cs : List Pt). PenLaws cs (pos (Dx σ)) (pos (Dy σ))) (sym (held_corners_lem h)) (pen_is_pen σ h.taken)

  wide : pos (Dx σ) ≼ pos 128
  wide = (le_iff (pos (Dx σ)) (pos 128)).0 (le-leb (Dx σ) 128 (omega (arith, box_wide h.taken)))

  high : pos (Dy σ) ≼ pos 128
  high = (le_iff (pos (Dy σ)) (pos 128)).0 (le-leb (Dy σ) 128 (omega (arith, box_high h.taken)))

-- ---- an engine that has been driven
module _ {t : Table} {n : ℕ} {σ : Setting} (h : Holds t n σ) {p : List ℤ} {columns rows j : ℕ} (q : Passes t n p columns rows j) (k : ℕ) where
  abbrev z : Pen
  z = (place_of t n).pen

  -- between its flanks lies the extent of the path's segment
  between : j + k < rows → span_at (flanks_of z p j k) (j + k) ≡ extent (held_corners t n) (segment_of p) (pos (j + k))
  between low =
      let d = verdict_passed p columns rows j q.checked in
      let i = entries_in q.entries in
      flanks_bound z.count z.x z.y (pos (Dx σ)) (pos (Dy σ)) (held_laws h) (wide h) (high h)
      (get_or p 0 (pos 0)) (get_or p 1 (pos 0)) (get_or p (last p) (pos 0)) (get_or p (last p + 1) (pos 0))
      (d.coordinates 0 (omega (arith, i.0))) (d.coordinates 1 i.0) (d.coordinates (last p) (omega (arith, i.1))) (d.coordinates (last p + 1) i.1)
      j k (row_low p columns rows j q.checked (j + k) low)

  -- so its runs are the row's
  same_runs : j + k < rows → engine_runs (driven_to z p columns rows j k) ≡ row_runs (held_corners t n) (path_points p) columns (j + k)
  same_runs low = ap (λ (s : Span). runs_of (λ x. in_span s (pos x)) columns) (between low) ∙ sym (one_runs (held_corners t n) columns (j + k) q.entries)

  -- and with the row's own check left both calls are the same
  same_result_lem : (l : List ℕ) → step_result (driven_to z p columns rows j k) l ≡ row_call t n p columns rows (j + k) l
  unfolding step_result row_call
  same_result_lem l =
      same_given (row_verdict rows (j + k)) (engine_runs (driven_to z p columns rows j k)) _ l (λ e. same_runs (ltb-true (j + k) rows (unless_true _ row e)))
      ∙ ap (λ (v : Verdict). row_given v (held_corners t n) p columns (j + k) l) (sym (row_left_lem p columns rows j q.checked (j + k)) ∙ sym (ap (λ (v : Verdict). v then verdict p columns rows (j + k)) q.held))

pub engine_is_row : EngineIsRow
engine_is_row σ t n h p columns rows j k e d l = ap (λ (e : Engine). step_result e l) (driven_is d) ∙ same_result_lem h (driven_passes d) k l

-- the row call of two tables that hold the same setting is the same, and so are two engines' steps
pub engines_meet : EnginesMeet
engines_meet σ t t' n n' h h' p columns rows j j' k k' e e' d d' s l =
    engine_is_row σ t n h p columns rows j k e d l ∙ call_is h p columns rows (j + k) l
    ∙ ap (λ (i : ℕ). row_result (pen σ) p columns rows i l) s
    ∙ sym (engine_is_row σ t' n' h' p columns rows j' k' e' d' l ∙ call_is h' p columns rows (j' + k') l)

pub engine_extent : EngineExtent
engine_extent σ t n h p columns rows j k e d low g s =
    let q = driven_passes d in
    ap (λ (e : Engine). span_at e.flanks (j + k)) (driven_is d) ∙ between h q k low
    ∙ ap (λ (cs : List Pt). extent cs (segment_of p) (pos (j + k))) (held_corners_lem h) ∙ ap (λ (g : Seg). extent (pen σ) g (pos (j + k))) (only_one (sym (one_segment q.entries) ∙ s))
  where
    only_one : {a b : Seg} → (a ∷ []) ≡ (b ∷ []) → a ≡ b
    only_one e = cc
