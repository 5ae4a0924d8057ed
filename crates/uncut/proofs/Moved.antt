-- A path that is moved by whole pixels to the side: so are its black columns (`BlackShifted`), and so is its extent, since only one extent has them.
use Prim.Native.Nat.{ℕ}
use native.Mathlib.Omega.{arith}
use mathlib.Core.Path.{◌≡◌, ap, ap₂, subst}
use mathlib.Core.Logic.Iff
use mathlib.Core.Logic.{◌↔◌}
use mathlib.Core.List.{List}
use lib.IntN.{ℤ, pos, ◌+ℤ◌, ◌-ℤ◌, ◌*ℤ◌}
use Rattle.integers.specs.Orders.{◌≼◌}
use Rattle.integers.proofs.Ring.{ring, reify}
use Rattle.plane.specs.Point.{Pt, pt}
use Rattle.setting.specs.declared.Setting.{Setting}
use Rattle.setting.specs.Setting.{Taken, Dx, Dy}
use Rattle.pen.specs.Polygon.{pen}
use Rattle.pen.proofs.Theorems.{pen_is_pen}
use Rattle.stroke.specs.Sweep.{Seg, path_points, centre}
use Rattle.stroke.specs.Black.{Black, BlackPath}
use Rattle.stroke.specs.Theorems.{shifted, shifted_seg}
use Rattle.stroke.proofs.Theorems.{black_shifted}
use Rattle.std.specs.Prelude.{Option, Some, None}
use Rattle.extent.specs.declared.Extent.{Extent}
use Rattle.checks.proofs.Entries.{Entries, dot, line}
use Rattle.engine.proofs.OneSegment.{segment_of, one_segment}
use Rattle.uncut.specs.Uncut.{reached_in}
use Rattle.uncut.specs.Theorems.{Spans, moved_right, further, ReachMoved}
use Rattle.uncut.proofs.Reaching.{reach_passes}
use Rattle.uncut.proofs.Pixels.{one_black, spans, spans_unique}

-- ---- an extent that is moved
ahead : (a b d : ℤ) → a ≼ b → a +ℤ d ≼ b +ℤ d
ahead = ring 3 _ (simp reify (omega arith))

over : (a i d : ℤ) → (a ≼ i -ℤ d) ↔ (a +ℤ d ≼ i)
over = ring 3 _ (simp reify (omega arith))

under : (b i d : ℤ) → (i -ℤ d ≼ b) ↔ (i ≼ b +ℤ d)
under = ring 3 _ (simp reify (omega arith))

further_spans : (black black' : ℤ → Type 0) (d : ℤ) → ((i : ℤ) → black (i -ℤ d) ↔ black' i) → (e : Option Extent) → Spans black e → Spans black' (further d e)
further_spans black black' d f None s = λ i b. s (i -ℤ d) ((f i).1 b)
further_spans black black' d f (Some e) s = (
  ahead e.first e.last d s.0,
  λ i. (
    (λ b. let r = (s.1 (i -ℤ d)).0 ((f i).1 b) in ((over e.first i d).0 r.0, (under e.last i d).0 r.1)),
    λ r. (f i).0 ((s.1 (i -ℤ d)).1 ((over e.first i d).1 r.0, (under e.last i d).1 r.1)),
  ),
)

-- ---- a segment and a centre that are moved
abbrev aside : ℤ → Pt
aside d = pt (pos 16 *ℤ d) (pos 0)

level : (y : ℤ) → y +ℤ pos 0 ≡ y
level = ring 1 _ (λ ρ. simp (reify, ρ) (omega arith))

column : (i d : ℤ) → pos 16 *ℤ (i -ℤ d) +ℤ pos 16 *ℤ d ≡ pos 16 *ℤ i
column = ring 2 _ (λ ρ. simp (reify, ρ) (omega arith))

moved_segment : (d : ℤ) {p : List ℤ} → Entries p → shifted_seg (aside d) (segment_of p) ≡ segment_of (moved_right d p)
moved_segment d (dot {x} {y}) = ap (λ (z : ℤ). record { from = pt (x +ℤ pos 16 *ℤ d) z; to = pt (x +ℤ pos 16 *ℤ d) z }) (level y)
moved_segment d (line {ax} {ay} {bx} {by}) = ap₂ (λ (z w : ℤ). record { from = pt (ax +ℤ pos 16 *ℤ d) z; to = pt (bx +ℤ pos 16 *ℤ d) w }) (level ay) (level by)

moved_centre : (i d : ℤ) (j : ℕ) → shifted (aside d) (centre (i -ℤ d) (pos j)) ≡ centre i (pos j)
moved_centre i d j = ap₂ pt (column i d) (level (pos 16 *ℤ pos j))

moved_black : {σ : Setting} → Taken σ → {p : List ℤ} → Entries p → (d i : ℤ) (j : ℕ) →
    Black (pen σ) (segment_of p) (centre (i -ℤ d) (pos j)) ↔ Black (pen σ) (segment_of (moved_right d p)) (centre i (pos j))
moved_black {σ} taken {p} h d i j =
    let X = centre (i -ℤ d) (pos j) in
    subst (λ (Y : Pt). Black (pen σ) (segment_of p) X ↔ Black (pen σ) (segment_of (moved_right d p)) Y) (moved_centre i d j)
    (subst (λ (g : Seg). Black (pen σ) (segment_of p) X ↔ Black (pen σ) g (shifted (aside d) X)) (moved_segment d h)
    (black_shifted (pen σ) (pos (Dx σ)) (pos (Dy σ)) (pen_is_pen σ taken) (segment_of p) X (aside d)))

pub reach_moved : ReachMoved
reach_moved σ t t' n n' h h' p j d z z' =
    let q = reach_passes z in
    let q' = reach_passes z' in
    let p' = moved_right d p in
    let black : ℤ → Type 0 = λ i. BlackPath (pen σ) (path_points p) (centre i (pos j)) in
    let black' : ℤ → Type 0 = λ i. BlackPath (pen σ) (path_points p') (centre i (pos j)) in
    let moved : (i : ℤ) → black (i -ℤ d) ↔ black' i = λ i.
    Iff.trans (Iff.symm (one_black (pen σ) (path_points p) (segment_of p) (centre (i -ℤ d) (pos j)) (one_segment q.entries)))
    (Iff.trans (moved_black h.taken q.entries d i j) (one_black (pen σ) (path_points p') (segment_of p') (centre i (pos j)) (one_segment q'.entries))) in
    spans_unique black' (reached_in t' n' p' j).extent (further d (reached_in t n p j).extent) (spans h' q') (further_spans black black' d moved (reached_in t n p j).extent (spans h q))
