-- The outline along the path: from the lower end to the upper one, through the corner that lies furthest to one side of it.
use mathlib.Core.Path.{◌≡◌, refl, sym}
use mathlib.Core.Logic.{inl, inr}
use mathlib.Core.Bool.{false}
use mathlib.Core.List.{List}
use native.Mathlib.Omega.{arith}
use lib.IntN.{ℤ, pos, neg_ℤ, ◌+ℤ◌, ◌-ℤ◌, ◌*ℤ◌}
use Rattle.integers.specs.Orders.{◌≼◌, ◌≺◌}
use Rattle.integers.specs.Count.{◌∈◌}
use Rattle.integers.proofs.Ring.{ring, reify}
use Rattle.integers.proofs.Order.{le_antisymm}
use Rattle.plane.specs.Point.{Pt, same}
use Rattle.plane.specs.Polygon.{dot, PenLaws}
use Rattle.stroke.specs.Sweep.{Seg}
use Rattle.stroke.specs.Sides.{furthest, touching, sides}
use Rattle.stroke.proofs.Sides.{sides_each, same_or_differ}
use Rattle.stroke.proofs.Corners.{furthest_bound, furthest_corner}
use Rattle.outline.specs.Outline.{Ordered, forward, backward, put, Outer, OnRight, OnLeft}
use Rattle.outline.proofs.Within.{put_on, ends_right, ends_left, in_low, in_high}

-- ---- plain numbers
-- how far a corner lies to the right of a path, and to the left, as the sides say it of a path that goes up, and of one that goes down
up_right : (u v x y tx ty : ℤ) → v *ℤ x -ℤ u *ℤ y ≼ v *ℤ tx -ℤ u *ℤ ty → v *ℤ x +ℤ neg_ℤ u *ℤ y ≼ v *ℤ tx +ℤ neg_ℤ u *ℤ ty
up_right = ring 6 _ (simp reify (omega arith))

down_right : (ax ay bx by x y tx ty : ℤ) → (ay -ℤ by) *ℤ x -ℤ (ax -ℤ bx) *ℤ y ≼ (ay -ℤ by) *ℤ tx -ℤ (ax -ℤ bx) *ℤ ty →
    neg_ℤ (by -ℤ ay) *ℤ x +ℤ (bx -ℤ ax) *ℤ y ≼ neg_ℤ (by -ℤ ay) *ℤ tx +ℤ (bx -ℤ ax) *ℤ ty
down_right = ring 8 _ (simp reify (omega arith))

up_left : (u v x y tx ty : ℤ) → u *ℤ y -ℤ v *ℤ x ≼ u *ℤ ty -ℤ v *ℤ tx → neg_ℤ v *ℤ x +ℤ u *ℤ y ≼ neg_ℤ v *ℤ tx +ℤ u *ℤ ty
up_left = ring 6 _ (simp reify (omega arith))

down_left : (ax ay bx by x y tx ty : ℤ) → (ax -ℤ bx) *ℤ y -ℤ (ay -ℤ by) *ℤ x ≼ (ax -ℤ bx) *ℤ ty -ℤ (ay -ℤ by) *ℤ tx →
    (by -ℤ ay) *ℤ x +ℤ neg_ℤ (bx -ℤ ax) *ℤ y ≼ (by -ℤ ay) *ℤ tx +ℤ neg_ℤ (bx -ℤ ax) *ℤ ty
down_left = ring 8 _ (simp reify (omega arith))

-- the signs of their normals
up : (ly hy : ℤ) → ly ≺ hy → (pos 0 ≺ hy -ℤ ly) × (neg_ℤ (hy -ℤ ly) ≺ pos 0)
up = ring 2 _ (λ ρ. simp (reify, ρ) (omega arith))

down : (ly hy : ℤ) → ly ≺ hy → (pos 0 ≺ neg_ℤ (ly -ℤ hy)) × (ly -ℤ hy ≺ pos 0)
down = ring 2 _ (λ ρ. simp (reify, ρ) (omega arith))

rise : (ly hy t : ℤ) → ly ≺ hy → ly +ℤ pos 8 *ℤ t ≺ hy +ℤ pos 8 *ℤ t
rise = ring 3 _ (λ ρ. simp (reify, ρ) (omega arith))

apart : (a b : ℤ) → a ≺ b → ¬ (a ≡ b)
apart = ring 2 _ (simp reify (omega arith))

-- ends of different heights differ
differ : (A B : Pt) → ¬ (A.y ≡ B.y) → same A B ≡ false
differ A B n = elim (same_or_differ A B) [ inl h ↦ absurd (n h.1) | inr h ↦ h ]

ends_differ : (g : Seg) {lo hi : Pt} → Ordered g lo hi → lo.y ≺ hi.y → same g.from g.to ≡ false
ends_differ g (forward _) r = differ g.from g.to (apart g.from.y g.to.y r)
ends_differ g (backward _) r = differ g.from g.to (λ e. apart g.to.y g.from.y r (sym e))

-- both ends lie as far along (a, b) as the first, where the second does
both_ends : (g : Seg) (a b : ℤ) {lo hi : Pt} → Ordered g lo hi → dot a b g.to ≡ dot a b g.from → (dot a b lo ≡ dot a b g.from) × (dot a b hi ≡ dot a b g.from)
both_ends g a b (forward _) e = (refl, e)
both_ends g a b (backward _) e = (e, refl)

module _ (cs : List Pt) (Dx Dy : ℤ) (pen : PenLaws cs Dx Dy) (g : Seg) where
  -- a corner that lies as far out as any lies at the furthest
  at_furthest : (a b : ℤ) {T : Pt} → T ∈ cs → ((z : Pt) → z ∈ cs → dot a b z ≼ dot a b T) → dot a b T ≡ furthest a b cs
  at_furthest a b {T} t h =
      let z = furthest_corner cs Dx Dy pen a b in
      le_antisymm (dot a b T) (furthest a b cs) (furthest_bound a b cs t) (rw (← z.2) (h z.0 z.1))

  module _ {lo hi T : Pt} (o : Ordered g lo hi) (r : lo.y ≺ hi.y) (t : T ∈ cs) where
    -- along either side of the path, through a corner that lies furthest along its normal
    along : (a b : ℤ) → touching cs g.from a b ∈ sides cs g → dot a b g.to ≡ dot a b g.from → ((z : Pt) → z ∈ cs → dot a b z ≼ dot a b T) →
        Outer cs g (put lo T) (put hi T) (touching cs g.from a b)
    along a b s e f =
        let c = furthest a b cs in
        let M = dot a b g.from in
        let m = at_furthest a b t f in
        let k = both_ends g a b o e in
        record {
          rising = rise lo.y hi.y T.y r;
          from_in = in_low cs Dx Dy pen g o t;
          to_in = in_high cs Dx Dy pen g o t;
          side = s;
          from_on = put_on a b c M lo.x lo.y T.x T.y m k.0;
          to_on = put_on a b c M hi.x hi.y T.x T.y m k.1;
        }

    -- both sides are there, since the ends differ
    path_sides_lem : (touching cs g.from (g.to.y -ℤ g.from.y) (neg_ℤ (g.to.x -ℤ g.from.x)) ∈ sides cs g)
        × (touching cs g.from (neg_ℤ (g.to.y -ℤ g.from.y)) (g.to.x -ℤ g.from.x) ∈ sides cs g)
    path_sides_lem = (sides_each (λ f. f ∈ sides cs g) cs g (λ f k. k)).path (ends_differ g o r)

  -- of a path that goes up the first of its two sides is the one on the right, of one that goes down the second
  pub path_right : {lo hi T : Pt} → Ordered g lo hi → lo.y ≺ hi.y → T ∈ cs →
      ((z : Pt) → z ∈ cs → (hi.y -ℤ lo.y) *ℤ z.x -ℤ (hi.x -ℤ lo.x) *ℤ z.y ≼ (hi.y -ℤ lo.y) *ℤ T.x -ℤ (hi.x -ℤ lo.x) *ℤ T.y) → OnRight cs g (put lo T) (put hi T)
  path_right {T = T} (forward o) r t f =
      let A = g.from in
      let B = g.to in
      let u = B.x -ℤ A.x in
      let v = B.y -ℤ A.y in
      let w = along (forward o) r t v (neg_ℤ u) (path_sides_lem (forward o) r t).0 (ends_right A.x A.y B.x B.y) (λ z i. up_right u v z.x z.y T.x T.y (f z i)) in
      (touching cs A v (neg_ℤ u), w, (up A.y B.y r).0)
  path_right {T = T} (backward o) r t f =
      let A = g.from in
      let B = g.to in
      let u = B.x -ℤ A.x in
      let v = B.y -ℤ A.y in
      let w = along (backward o) r t (neg_ℤ v) u (path_sides_lem (backward o) r t).1 (ends_left A.x A.y B.x B.y)
      (λ z i. down_right A.x A.y B.x B.y z.x z.y T.x T.y (f z i)) in
      (touching cs A (neg_ℤ v) u, w, (down B.y A.y r).0)

  -- and on the left the other
  pub path_left : {lo hi T : Pt} → Ordered g lo hi → lo.y ≺ hi.y → T ∈ cs →
      ((z : Pt) → z ∈ cs → (hi.x -ℤ lo.x) *ℤ z.y -ℤ (hi.y -ℤ lo.y) *ℤ z.x ≼ (hi.x -ℤ lo.x) *ℤ T.y -ℤ (hi.y -ℤ lo.y) *ℤ T.x) → OnLeft cs g (put lo T) (put hi T)
  path_left {T = T} (forward o) r t f =
      let A = g.from in
      let B = g.to in
      let u = B.x -ℤ A.x in
      let v = B.y -ℤ A.y in
      let w = along (forward o) r t (neg_ℤ v) u (path_sides_lem (forward o) r t).1 (ends_left A.x A.y B.x B.y) (λ z i. up_left u v z.x z.y T.x T.y (f z i)) in
      (touching cs A (neg_ℤ v) u, w, (up A.y B.y r).1)
  path_left {T = T} (backward o) r t f =
      let A = g.from in
      let B = g.to in
      let u = B.x -ℤ A.x in
      let v = B.y -ℤ A.y in
      let w = along (backward o) r t v (neg_ℤ u) (path_sides_lem (backward o) r t).0 (ends_right A.x A.y B.x B.y)
      (λ z i. down_left A.x A.y B.x B.y z.x z.y T.x T.y (f z i)) in
      (touching cs A v (neg_ℤ u), w, (down B.y A.y r).1)
