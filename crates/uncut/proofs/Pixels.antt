-- The extent over pixels: its columns are exactly the black ones. And how far it can reach: no black centre lies further sideways from the segment's ends than half
-- the pen's width (`BlackSideways`).
use Prim.Native.Nat.{ℕ}
use native.Mathlib.Omega.{arith}
use mathlib.Core.Path.{◌≡◌, refl, sym, ap, ap₂, subst, ◌∙◌}
use mathlib.Core.Logic.Iff
use mathlib.Core.Logic.{◌↔◌, inl, inr}
use mathlib.Core.Bool.{true}
use mathlib.Core.List.Memᴰ.{cases_cons as cases}
use mathlib.Core.List.Memᴰ.{head}
use mathlib.Core.List.Memᴰ.{not-nil}
use mathlib.Core.List.{List, [], ◌∷◌}
use lib.IntN.{ℤ, pos, neg_ℤ, ◌-ℤ◌, ◌+ℤ◌, ◌*ℤ◌}
use borrow.Author.Tests.{le-leb}
use Rattle.integers.specs.Orders.{◌≼◌, ◌≺◌}
use Rattle.integers.specs.Compare.{min_z, max_z}
use Rattle.integers.specs.Count.{◌∈◌}
use Rattle.integers.proofs.Ring.{ring, reify}
use Rattle.integers.proofs.Order.{le_refl, le_antisymm}
use Rattle.integers.proofs.Bound.{abs_iff}
use Rattle.integers.proofs.Tests.{le_iff, max_le, le_min}
use Rattle.limits.specs.Sizes.{raster_max, in_range}
use Rattle.limits.specs.declared.Verdict.{Verdict}
use Rattle.limits.specs.declared.Verdict.TheVariants.{Passed, Refused}
use Rattle.plane.specs.Point.{Pt}
use Rattle.setting.specs.declared.Setting.{Setting}
use Rattle.setting.specs.Setting.{Dx, Dy}
use Rattle.setting.proofs.Limits.{box_wide}
use Rattle.pen.specs.Polygon.{pen}
use Rattle.pen.proofs.Theorems.{pen_is_pen}
use Rattle.aperture.specs.declared.Table.{Table}
use Rattle.aperture.specs.Reachable.{Holds}
use Rattle.aperture.proofs.Held.{held_corners_lem}
use Rattle.stroke.specs.Sweep.{Seg, path_points, segments, centre}
use Rattle.stroke.specs.Black.{Black, BlackPath}
use Rattle.stroke.specs.Extent.{Span, none, columns, In, extent}
use Rattle.stroke.proofs.Theorems.{extent_black, black_sideways}
use Rattle.outline.proofs.Spans.{Proper, extent_proper}
use Rattle.std.specs.Prelude.{Option, Some, None}
use Rattle.extent.specs.declared.Extent.{Extent}
use Rattle.extent.specs.Answer.{answered, spanned}
use Rattle.checks.proofs.Verdicts.{verdict_passed}
use Rattle.flanks.proofs.Bound.{range_abs}
use Rattle.engine.proofs.OneSegment.{segment_of, one_segment, entries_in, last}
use Rattle.engine.proofs.Starting.{Passes}
use Rattle.uncut.specs.declared.Reached.{Reached}
use Rattle.uncut.specs.Uncut.{reach_verdict, reached_by, reached_in}
use Rattle.uncut.specs.Theorems.{Spans, ReachBlack, SpansUnique, ReachBounded}
use Rattle.uncut.proofs.Reaching.{own, reach_passes, passes_reached}

-- ---- a span, and the extent that is answered for it
answer_spans : (black : ℤ → Type 0) (s : Span) → Proper s → ((i : ℤ) → In s i ↔ black i) → Spans black (answered s)
answer_spans black none p h = λ i b. (h i).1 b
answer_spans black (columns first last) p h = (p, λ i. ((h i).1, (h i).0))

-- a path of one segment is black where the segment is
pub one_black : (cs : List Pt) (path : List Pt) (g : Seg) (X : Pt) → segments path ≡ g ∷ [] → Black cs g X ↔ BlackPath cs path X
one_black cs path g X e = (
  λ b. record { segment = g; on_path = subst (λ (l : List Seg). g ∈ l) (sym e) (head refl); black = b },
  λ b. elim (cases (subst (λ (l : List Seg). b.segment ∈ l) e b.on_path)) [
    | inl q ↦ subst (λ (g : Seg). Black cs g X) q b.black
    | inr m ↦ absurd (not-nil m)
  ],
)

-- ---- an answer for an aperture that holds a setting
module _ {σ : Setting} {t : Table} {n : ℕ} (h : Holds t n σ) {p : List ℤ} {j : ℕ} (q : Passes t n p raster_max raster_max j) where
  -- it is the extent of the setting's pen
  pub pen_extent : (reached_in t n p j).extent ≡ answered (extent (pen σ) (segment_of p) (pos j))
  pen_extent = ap (λ (r : Reached). r.extent) (passes_reached q) ∙ ap (λ (cs : List Pt). answered (extent cs (segment_of p) (pos j))) (held_corners_lem h)

  pub spans : Spans (λ i. BlackPath (pen σ) (path_points p) (centre i (pos j))) (reached_in t n p j).extent
  spans =
      let g = segment_of p in
      let black : ℤ → Type 0 = λ i. BlackPath (pen σ) (path_points p) (centre i (pos j)) in
      let one : (i : ℤ) → Black (pen σ) g (centre i (pos j)) ↔ black i = λ i. one_black (pen σ) (path_points p) g (centre i (pos j)) (one_segment q.entries) in
      let iff = extent_black (pen σ) (pos (Dx σ)) (pos (Dy σ)) (pen_is_pen σ h.taken) g in
      subst (Spans black) (sym pen_extent)
      (answer_spans black (extent (pen σ) g (pos j)) (extent_proper (pen σ) g (pos j)) (λ i. Iff.trans (iff i (pos j)) (one i)))

pub reach_black : ReachBlack
reach_black σ t n h p j z = spans h (reach_passes z)

pub spans_unique : SpansUnique
spans_unique black None None p q = refl
spans_unique black None (Some f) p q = absurd (p f.first ((q.1 f.first).1 (le_refl f.first, q.0)))
spans_unique black (Some e) None p q = absurd (q e.first ((p.1 e.first).1 (le_refl e.first, p.0)))
spans_unique black (Some e) (Some f) p q =
    let a = e.first in
    let b = e.last in
    let c = f.first in
    let d = f.last in
    let in_second : (i : ℤ) → a ≼ i → i ≼ b → (c ≼ i) × (i ≼ d) = λ i l r. (q.1 i).0 ((p.1 i).1 (l, r)) in
    let in_first : (i : ℤ) → c ≼ i → i ≼ d → (a ≼ i) × (i ≼ b) = λ i l r. (p.1 i).0 ((q.1 i).1 (l, r)) in
    ap₂ spanned (le_antisymm a c (in_first c (le_refl c) q.0).0 (in_second a (le_refl a) p.0).0)
    (le_antisymm b d (in_second b p.0 (le_refl b)).1 (in_first d q.0 (le_refl d)).1)

-- ---- how far it can reach
left_end : (m D i : ℤ) → neg_ℤ (pos 262144) ≼ m → D ≼ pos 32 → m -ℤ pos 8 *ℤ D ≺ pos 16 *ℤ i → neg_ℤ (pos 16399) ≼ i
left_end = ring 3 _ (λ ρ. simp (reify, ρ) (omega arith))

right_end : (m D i : ℤ) → m ≼ pos 262144 → D ≼ pos 32 → pos 16 *ℤ i ≼ m +ℤ pos 8 *ℤ D → i ≼ pos 16400
right_end = ring 3 _ (λ ρ. simp (reify, ρ) (omega arith))

in_range_lem : (z : ℤ) → in_range z ≡ true → (neg_ℤ (pos 262144) ≼ z) × (z ≼ pos 262144)
in_range_lem z e = (abs_iff z 262144).0 (range_abs z e)

-- an extent that has columns is no refusal's
abbrev HasColumns : Option Extent → Type 0
HasColumns None = ⊥
HasColumns (Some e) = Unit

told_passed : (v : Verdict) (e : Option Extent) (first last : ℤ) → (reached_by v e).extent ≡ spanned first last → v ≡ Passed
told_passed Passed e first last q = refl
told_passed (Refused n place) e first last q = absurd (subst HasColumns (sym q) tt)

told_zero : (t : Table) (n : ℕ) (p : List ℤ) (j : ℕ) (first last : ℤ) → (reached_in t n p j).extent ≡ spanned first last → (reached_in t n p j).answer.refusal ≡ 0
unfolding reached_in
told_zero t n p j first last e = ap (λ (v : Verdict). (reached_by v (own t n p j)).answer.refusal) (told_passed (reach_verdict t n p j) (own t n p j) first last e)

pub reach_bounded : ReachBounded
reach_bounded σ t n h p j first end e =
    let q = reach_passes (told_zero t n p j first end e) in
    let s = subst (Spans (λ i. BlackPath (pen σ) (path_points p) (centre i (pos j)))) e (spans h q) in
    let g = segment_of p in
    let black : (i : ℤ) → first ≼ i → i ≼ end → Black (pen σ) g (centre i (pos j)) = λ i l r. (one_black (pen σ) (path_points p) g (centre i (pos j)) (one_segment q.entries)).1 ((s.1 i).1 (l, r)) in
    let sideways = black_sideways (pen σ) (pos (Dx σ)) (pos (Dy σ)) (pen_is_pen σ h.taken) g in
    let d = verdict_passed p raster_max raster_max j q.checked in
    let i = entries_in q.entries in
    let a = in_range_lem g.from.x (d.coordinates 0 (omega (arith, i.0))) in
    let b = in_range_lem g.to.x (d.coordinates (last p) (omega (arith, i.1))) in
    let wide = (le_iff (pos (Dx σ)) (pos 32)).0 (le-leb (Dx σ) 32 (box_wide h.taken).1) in (
      left_end (min_z g.from.x g.to.x) (pos (Dx σ)) first (le_min g.from.x g.to.x _ a.0 b.0) wide (sideways (centre first (pos j)) (black first (le_refl first) s.0)).0,
      right_end (max_z g.from.x g.to.x) (pos (Dx σ)) end (max_le g.from.x g.to.x _ a.1 b.1) wide (sideways (centre end (pos j)) (black end s.0 (le_refl end))).1,
    )
