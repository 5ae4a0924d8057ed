-- A pen without corners blackens nothing. It has no edges, so that a segment has no side but the two along the path, and both are the path's own line: of two opposite sides one is
-- dropped, and no centre is on both sides of a line. A dot has not even these, and where a limit is missing there are no columns.
use mathlib.Core.Path.{◌≡◌, refl, ap, subst, ◌∙◌}
use mathlib.Core.Logic.{inl, inr}
use mathlib.Core.Bool.{Bool, true, false, not, cond}
use mathlib.Core.List.{List, []}
use native.Mathlib.Omega.{arith}
use lib.IntN.{ℤ, pos, neg_ℤ, ◌+ℤ◌, ◌-ℤ◌, ◌*ℤ◌}
use Rattle.integers.specs.Orders.{◌≼◌, ◌≺◌}
use Rattle.integers.specs.Compare.{eq_z}
use Rattle.integers.proofs.Ring.{ring, reify}
use Rattle.integers.proofs.Signs.{neg_neg}
use Rattle.integers.proofs.Tests.{lez, eq_iff, and_true, clash}
use Rattle.plane.specs.Point.{Pt, same}
use Rattle.plane.specs.Polygon.{edges}
use Rattle.ties.specs.Kept.{kept}
use Rattle.ties.proofs.Kept.{kept_laws}
use Rattle.stroke.specs.Sweep.{Seg, path_points, centre}
use Rattle.stroke.specs.Sides.{furthest, touching, sides}
use Rattle.stroke.specs.Extent.{Span, none, In, Limit, free, at, Left, span_between, span_of, reached, narrowed, extent}
use Rattle.stroke.specs.Runs.{black_at}
use Rattle.stroke.proofs.Sides.{sides_each}
use Rattle.stroke.proofs.Black.{Allows}
use Rattle.stroke.proofs.Limits.{Above, Below, Leaves, narrowed_iff}
use Rattle.outline.proofs.Spans.{same_span, extent_proper}
use Rattle.reach.proofs.Reached.{nothing}

-- ---- the columns of a span are left
module _ (i : ℤ) where
  in_limits : (l r : Limit) → In (span_between l r) i → Above l i × Below r i
  in_limits free r m = absurd m
  in_limits (at l) free m = absurd m
  in_limits (at l) (at r) m = elim (lez l r) [ inl h ↦ (rw h.0 at m) | inr h ↦ absurd (rw h.0 at m) ]

  in_if : (t : Bool) (s : Span) → In (cond t s none) i → (t ≡ true) × In s i
  in_if true s m = (refl, m)
  in_if false s m = absurd m

  in_left : (s : Left) → In (span_of s) i → Leaves s i
  in_left s m =
      let k = in_if s.some (span_between s.least s.most) m in
      let h = in_limits s.least s.most k.1 in
      record { any = k.0; lo = h.0; hi = h.1 }

-- ---- two opposite sides through one point
on_one : (v w x y a b : ℤ) → v *ℤ x +ℤ w *ℤ y ≼ pos 8 *ℤ pos 0 +ℤ (v *ℤ a +ℤ w *ℤ b) → ¬ (neg_ℤ v *ℤ x +ℤ neg_ℤ w *ℤ y ≺ pos 8 *ℤ pos 0 +ℤ (neg_ℤ v *ℤ a +ℤ neg_ℤ w *ℤ b))
on_one = ring 6 _ (λ ρ. simp (reify, ρ) (omega arith))

on_other : (v w x y a b : ℤ) → v *ℤ x +ℤ w *ℤ y ≺ pos 8 *ℤ pos 0 +ℤ (v *ℤ a +ℤ w *ℤ b) → ¬ (neg_ℤ v *ℤ x +ℤ neg_ℤ w *ℤ y ≼ pos 8 *ℤ pos 0 +ℤ (neg_ℤ v *ℤ a +ℤ neg_ℤ w *ℤ b))
on_other = ring 6 _ (λ ρ. simp (reify, ρ) (omega arith))

not_both : (A X : Pt) (v w : ℤ) → ¬ ((v ≡ pos 0) × (w ≡ pos 0)) → Allows X (touching [] A v w) → ¬ Allows X (touching [] A (neg_ℤ v) (neg_ℤ w))
unfolding furthest
not_both A X v w z h k = go (kept v w) refl
  where
    go : (t : Bool) → kept v w ≡ t → ⊥
    go true e = on_one v w X.x X.y A.x A.y (h.with e) (k.without (kept_laws.one v w z ∙ ap not e))
    go false e = on_other v w X.x X.y A.x A.y (h.without e) (k.with (kept_laws.one v w z ∙ ap not e))

-- where the ends differ, so does a coordinate
no_way : (p q : ℤ) → q -ℤ p ≡ pos 0 → p ≡ q
no_way = ring 2 _ (λ ρ. simp (reify, ρ) (omega arith))

no_way_back : (p q : ℤ) → neg_ℤ (q -ℤ p) ≡ pos 0 → p ≡ q
no_way_back = ring 2 _ (λ ρ. simp (reify, ρ) (omega arith))

some_way : (A B : Pt) → same A B ≡ false → ¬ ((B.y -ℤ A.y ≡ pos 0) × (neg_ℤ (B.x -ℤ A.x) ≡ pos 0))
some_way A B d z =
    clash (and_true (eq_z A.x B.x) (eq_z A.y B.y) ((eq_iff A.x B.x).1 (no_way_back A.x B.x z.1)) ((eq_iff A.y B.y).1 (no_way A.y B.y z.0))) d

-- ---- no column of a segment
abbrev start : Left
start = record { some = true; least = free; most = free }

module _ (g : Seg) (i j : ℤ) where
  line_none : same g.from g.to ≡ false → ¬ In (span_of (narrowed j (sides [] g) start)) i
  line_none d m =
      let v = g.to.y -ℤ g.from.y in
      let u = g.to.x -ℤ g.from.x in
      let two = (sides_each (Allows (centre i j)) [] g ((narrowed_iff i j (sides [] g) start).0 (in_left i (narrowed j (sides [] g) start) m)).1).path d in
      not_both g.from (centre i j) v (neg_ℤ u) (some_way g.from g.to d) two.0 (subst (λ (b : ℤ). Allows (centre i j) (touching [] g.from (neg_ℤ v) b)) (neg_neg u) two.1)

  dot_none : same g.from g.to ≡ true → ¬ In (span_of (narrowed j (sides [] g) start)) i
  unfolding sides narrowed edges
  dot_none d m = rw d at m

  no_column : ¬ In (extent [] g j) i
  unfolding extent
  no_column m = go (same g.from g.to) refl
    where
      k : In (span_of (narrowed j (sides [] g) start)) i
      k = (in_if i (reached [] g j) (span_of (narrowed j (sides [] g) start)) m).1

      go : (t : Bool) → same g.from g.to ≡ t → ⊥
      go true e = dot_none e k
      go false e = line_none e k

pub cornerless_none : (g : Seg) (j : ℤ) → extent [] g j ≡ none
cornerless_none g j = same_span (extent [] g j) none (extent_proper [] g j) tt (λ i. ((λ m. no_column g i j m), λ m. absurd m))

-- nor of a path
pub cornerless_clear : (path : List ℤ) (j x : ℤ) → black_at [] (path_points path) j x ≡ false
cornerless_clear path j x = nothing [] path j x (λ k l. cornerless_none _ j)
