-- A call by what its checks answer; and a call that is answered 0: what it has passed, and its extent.
use Prim.Native.Nat.{ℕ, ◌<◌}
use native.Mathlib.Omega.{arith}
use mathlib.Core.Path.{◌≡◌, refl, sym, ap, ◌∙◌}
use mathlib.Core.List.Memᴰ.{head}
use mathlib.Core.List.{List, [], ◌∷◌}
use lib.ListN.{length, get_or}
use lib.IntN.{ℤ, pos}
use borrow.Author.Tests.{lt-ltb}
use Rattle.limits.specs.Sizes.{raster_max, Drawable}
use Rattle.limits.specs.declared.Verdict.{Verdict}
use Rattle.limits.specs.declared.Verdict.TheVariants.{Passed, Refused}
use Rattle.limits.specs.Refusal.{◌then◌}
use Rattle.plane.specs.Point.{Pt}
use Rattle.aperture.specs.declared.Table.{Table}
use Rattle.aperture.specs.Table.{held_corners, place_of}
use Rattle.stroke.specs.Sweep.{Seg, path_points, segments}
use Rattle.stroke.specs.Extent.{extent}
use Rattle.std.specs.Prelude.{Option, None}
use Rattle.extent.specs.declared.Extent.{Extent}
use Rattle.extent.specs.Answer.{answered}
use Rattle.cuts.specs.Cuts.{extent_in}
use Rattle.cuts.proofs.Raster.{Near, near_extent}
use Rattle.cuts.proofs.Segments.{drawable_near}
use Rattle.checks.specs.declared.Answer.{Answer}
use Rattle.checks.specs.Checks.{segment_verdict, verdict}
use Rattle.checks.specs.Answer.{done, answer_of}
use Rattle.checks.proofs.Verdicts.{verdict_passed}
use Rattle.checks.proofs.Entries.{entries_passed}
use Rattle.engine.specs.declared.Engine.{Engine}
use Rattle.engine.specs.Engine.{engine_of, started_by, started}
use Rattle.engine.proofs.Checked.{others}
use Rattle.engine.proofs.OneSegment.{segment_of, one_segment}
use Rattle.engine.proofs.Starting.{Passes, started_passes}
use Rattle.uncut.specs.declared.Reached.{Reached}
use Rattle.uncut.specs.Uncut.{reach_verdict, first_extent, reached_by, reached_in}
use Rattle.uncut.specs.Theorems.{ReachIsStart}

module _ (t : Table) (n : ℕ) (p : List ℤ) (j : ℕ) where
  -- the extent of its segment
  abbrev pub own : Option Extent
  own = first_extent (held_corners t n) (segments (path_points p)) j

  -- a check refuses
  pub reach_refused : {v : Verdict} {m place : ℕ} {r : Reached} → reach_verdict t n p j ≡ v → v ≡ Refused m place → r ≡ record { answer = answer_of v; extent = None } → r ≡ reached_in t n p j
  unfolding reached_in
  reach_refused e f g = g ∙ ap (λ (v : Verdict). record { answer = answer_of v; extent = None }) f ∙ sym (ap (λ (v : Verdict). reached_by v own) (e ∙ f))

  -- none does
  pub reach_done : {a : Answer} {e : Option Extent} → reach_verdict t n p j ≡ Passed → a ≡ done 0 → e ≡ own → record { answer = a; extent = e } ≡ reached_in t n p j
  unfolding reached_in
  reach_done f g h = rw (g, h) (sym (ap (λ (v : Verdict). reached_by v own) f))

-- ---- the extent that the code finds
-- for a path that has passed the checks it is that of the first segment
pub found_first : (cs : List Pt) {p : List ℤ} {j : ℕ} → Drawable p raster_max j → (past : Seg) → 0 < length (segments (path_points p)) →
    extent_in cs j (get_or (segments (path_points p)) 0 past) ≡ first_extent cs (segments (path_points p)) j
found_first cs {p} {j} d past h = go (segments (path_points p)) (drawable_near d) h
  where
    go : (l : List Seg) → Near l j → 0 < length l → extent_in cs j (get_or l 0 past) ≡ first_extent cs l j
    go [] n h = absurd (omega arith)
    go (g ∷ l) n h = sym (near_extent cs g j (n g (head refl)))

-- ---- it is asked as a start is
same_answer : (v : Verdict) (e : Option Extent) (f : Engine) → (reached_by v e).answer ≡ (started_by v f).answer
same_answer Passed e f = refl
same_answer (Refused n place) e f = refl

pub reach_is_start : ReachIsStart
unfolding reached_in started
reach_is_start t n p j = same_answer (reach_verdict t n p j) (own t n p j) (engine_of (place_of t n).pen p raster_max raster_max j)

-- ---- a call that is answered 0
module _ {t : Table} {n : ℕ} {p : List ℤ} {j : ℕ} where
  -- has passed what a start has
  pub reach_passes : (reached_in t n p j).answer.refusal ≡ 0 → Passes t n p raster_max raster_max j
  reach_passes z = started_passes t n p raster_max raster_max j (ap (λ (a : Answer). a.refusal) (sym (reach_is_start t n p j)) ∙ z)

  -- and what has passed that is answered 0, with the extent of the path's segment
  passes_verdict : Passes t n p raster_max raster_max j → reach_verdict t n p j ≡ Passed
  passes_verdict q =
      ap (λ (v : Verdict). (v then segment_verdict p) then verdict p raster_max raster_max j) q.held
      ∙ ap (λ (v : Verdict). v then verdict p raster_max raster_max j) (entries_passed q.entries).0 ∙ q.checked

  pub passes_reached : Passes t n p raster_max raster_max j → reached_in t n p j ≡ record { answer = done 0; extent = answered (extent (held_corners t n) (segment_of p) (pos j)) }
  passes_reached q =
      sym (reach_done t n p j (passes_verdict q) refl refl)
      ∙ ap (λ (l : List Seg). record { answer = done 0; extent = first_extent (held_corners t n) l j }) (one_segment q.entries)

-- ---- a row call that has passed its checks
-- would pass them in the greatest raster
pub greatest_passed : (p : List ℤ) (columns rows j : ℕ) → verdict p columns rows j ≡ Passed → verdict p raster_max raster_max j ≡ Passed
greatest_passed p columns rows j e =
    let o = others p columns rows j e in
    rw (o.0, lt-ltb j raster_max (verdict_passed p columns rows j e).low, o.2)
