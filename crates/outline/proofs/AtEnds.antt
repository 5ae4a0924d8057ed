-- The outline at the two ends: an edge of the pen that rises on the right is one of the outline's at the lower end, up to the corner T that lies furthest to the right of the
-- path, and at the upper end from there on; and so on the left.
use mathlib.Core.Path.{◌≡◌, refl, sym}
use mathlib.Core.Logic.{inl, inr}
use mathlib.Core.List.{List}
use native.Mathlib.Omega.{arith}
use lib.IntN.{ℤ, pos, ◌+ℤ◌, ◌-ℤ◌, ◌*ℤ◌}
use Rattle.integers.specs.Orders.{◌≼◌, ◌≺◌}
use Rattle.integers.specs.Compare.{max_z}
use Rattle.integers.specs.Count.{◌∈◌}
use Rattle.integers.proofs.Ring.{ring, reify, ◌⊢◌}
use Rattle.integers.proofs.Order.{mul_nn, sub_nn, sub_pos, le_or_lt}
use Rattle.plane.specs.Point.{Pt}
use Rattle.plane.specs.Polygon.{Side, dot, edge, edges, PenLaws}
use Rattle.stroke.specs.Sweep.{Seg}
use Rattle.stroke.specs.Sides.{moved, sides}
use Rattle.stroke.proofs.Sides.{sides_each}
use Rattle.stroke.proofs.Corners.{ends_level}
use Rattle.outline.specs.Outline.{Ordered, put, Outer, OnRight, OnLeft}
use Rattle.outline.proofs.Within.{Within, put_on, further_low, further_high, not_falling, in_low, in_high}

-- ---- plain numbers
-- With n = (a, b) the normal of a side and m = (v, -u) that of the path on its right, v (n.P - n.T) + a (m.T - m.P) + (T.y - P.y) (n.path) is 0. The first two are not negative
-- where P lies on the side, T within it, the path does not fall, and T lies furthest to the side's own part of it, right or left. So the third is not positive
turn : (a b u v px py tx ty : ℤ) → pos 0 ≼ v → a *ℤ tx +ℤ b *ℤ ty ≼ a *ℤ px +ℤ b *ℤ py → pos 0 ≼ a *ℤ (v *ℤ tx -ℤ u *ℤ ty -ℤ (v *ℤ px -ℤ u *ℤ py)) →
    (ty -ℤ py) *ℤ (a *ℤ u +ℤ b *ℤ v) ≼ pos 0
turn = ring 8 _ (λ ρ hv hn hm. mul_nn hv (sub_nn hn) ⊢ hm ⊢ simp (reify, ρ) (omega arith))

further_right : (a u v px py tx ty : ℤ) → pos 0 ≺ a → v *ℤ px -ℤ u *ℤ py ≼ v *ℤ tx -ℤ u *ℤ ty → pos 0 ≼ a *ℤ (v *ℤ tx -ℤ u *ℤ ty -ℤ (v *ℤ px -ℤ u *ℤ py))
further_right = ring 7 _ (λ ρ ha h. mul_nn (sub_pos ha) (sub_nn h) ⊢ h ⊢ simp (reify, ρ) (omega arith))

further_left : (a u v px py tx ty : ℤ) → a ≺ pos 0 → u *ℤ py -ℤ v *ℤ px ≼ u *ℤ ty -ℤ v *ℤ tx → pos 0 ≼ a *ℤ (v *ℤ tx -ℤ u *ℤ ty -ℤ (v *ℤ px -ℤ u *ℤ py))
further_left = ring 7 _ (λ ρ ha h. mul_nn (sub_pos ha) (sub_nn h) ⊢ h ⊢ simp (reify, ρ) (omega arith))

-- so whether T lies above P or below it decides which end lies further along n
inward : (a b lx ly hx hy py ty : ℤ) → py ≺ ty → (ty -ℤ py) *ℤ (a *ℤ (hx -ℤ lx) +ℤ b *ℤ (hy -ℤ ly)) ≼ pos 0 → a *ℤ hx +ℤ b *ℤ hy ≼ a *ℤ lx +ℤ b *ℤ ly
inward a b lx ly hx hy py ty k h = elim (le_or_lt (a *ℤ hx +ℤ b *ℤ hy) (a *ℤ lx +ℤ b *ℤ ly)) [ inl l ↦ l | inr l ↦ absurd (no a b lx ly hx hy py ty k h l) ]
  where
    no : (a b lx ly hx hy py ty : ℤ) → py ≺ ty → (ty -ℤ py) *ℤ (a *ℤ (hx -ℤ lx) +ℤ b *ℤ (hy -ℤ ly)) ≼ pos 0 → ¬ (a *ℤ lx +ℤ b *ℤ ly ≺ a *ℤ hx +ℤ b *ℤ hy)
    no = ring 8 _ (λ ρ k h l. mul_nn (sub_pos k) (sub_pos l) ⊢ k ⊢ h ⊢ l ⊢ simp (reify, ρ) (omega arith))

outward : (a b lx ly hx hy qy ty : ℤ) → ty ≺ qy → (ty -ℤ qy) *ℤ (a *ℤ (hx -ℤ lx) +ℤ b *ℤ (hy -ℤ ly)) ≼ pos 0 → a *ℤ lx +ℤ b *ℤ ly ≼ a *ℤ hx +ℤ b *ℤ hy
outward a b lx ly hx hy qy ty k h = elim (le_or_lt (a *ℤ lx +ℤ b *ℤ ly) (a *ℤ hx +ℤ b *ℤ hy)) [ inl l ↦ l | inr l ↦ absurd (no a b lx ly hx hy qy ty k h l) ]
  where
    no : (a b lx ly hx hy qy ty : ℤ) → ty ≺ qy → (ty -ℤ qy) *ℤ (a *ℤ (hx -ℤ lx) +ℤ b *ℤ (hy -ℤ ly)) ≼ pos 0 → ¬ (a *ℤ hx +ℤ b *ℤ hy ≺ a *ℤ lx +ℤ b *ℤ ly)
    no = ring 8 _ (λ ρ k h l. mul_nn (sub_pos k) (sub_pos l) ⊢ k ⊢ h ⊢ l ⊢ simp (reify, ρ) (omega arith))

-- an edge that rises, and the same at an end
rise : (py qy : ℤ) → py ≺ qy → pos 0 ≺ qy -ℤ py
rise = ring 2 _ (λ ρ. simp (reify, ρ) (omega arith))

fall : (py qy : ℤ) → py ≺ qy → py -ℤ qy ≺ pos 0
fall = ring 2 _ (λ ρ. simp (reify, ρ) (omega arith))

rise_put : (ey py qy : ℤ) → py ≺ qy → ey +ℤ pos 8 *ℤ py ≺ ey +ℤ pos 8 *ℤ qy
rise_put = ring 3 _ (λ ρ. simp (reify, ρ) (omega arith))

run : (ly hy : ℤ) → ly ≼ hy → pos 0 ≼ hy -ℤ ly
run = ring 2 _ (λ ρ. simp (reify, ρ) (omega arith))

module _ (cs : List Pt) (Dx Dy : ℤ) (pen : PenLaws cs Dx Dy) (g : Seg) where
  -- an edge of the pen, at the end E that it is moved to
  at_end : (E P Q : Pt) {e : Side} → e ∈ edges cs → P.y ≺ Q.y → dot e.a e.b P ≡ e.c → dot e.a e.b Q ≡ e.c →
      Within cs g (put E P) → Within cs g (put E Q) → max_z (dot e.a e.b g.from) (dot e.a e.b g.to) ≡ dot e.a e.b E →
      Outer cs g (put E P) (put E Q) (moved g e)
  at_end E P Q {e} m r p q i j x = record {
    rising = rise_put E.y P.y Q.y r;
    from_in = i;
    to_in = j;
    side = (sides_each (λ f. f ∈ sides cs g) cs g (λ f k. k)).edgewise e m;
    from_on = put_on e.a e.b e.c _ E.x E.y P.x P.y p (sym x);
    to_on = put_on e.a e.b e.c _ E.x E.y Q.x Q.y q (sym x);
  }

  -- by the corner S of the edge, and T, which lies above it or below it
  module _ {lo hi T : Pt} (o : Ordered g lo hi) (t : T ∈ cs) (S : Pt) (e : Side) (m : e ∈ edges cs) (on : dot e.a e.b S ≡ e.c)
      (further : pos 0 ≼ e.a *ℤ ((hi.y -ℤ lo.y) *ℤ T.x -ℤ (hi.x -ℤ lo.x) *ℤ T.y -ℤ ((hi.y -ℤ lo.y) *ℤ S.x -ℤ (hi.x -ℤ lo.x) *ℤ S.y))) where
    -- as above, with S for P
    turned : (T.y -ℤ S.y) *ℤ (e.a *ℤ (hi.x -ℤ lo.x) +ℤ e.b *ℤ (hi.y -ℤ lo.y)) ≼ pos 0
    turned =
        let c : dot e.a e.b T ≼ dot e.a e.b S = rw on (pen.convex e T m t) in
        turn e.a e.b (hi.x -ℤ lo.x) (hi.y -ℤ lo.y) S.x S.y T.x T.y (run lo.y hi.y (not_falling g o)) c further

    moved_low : S.y ≺ T.y → max_z (dot e.a e.b g.from) (dot e.a e.b g.to) ≡ dot e.a e.b lo
    moved_low k = further_low g e.a e.b o (inward e.a e.b lo.x lo.y hi.x hi.y S.y T.y k turned)

    moved_high : T.y ≺ S.y → max_z (dot e.a e.b g.from) (dot e.a e.b g.to) ≡ dot e.a e.b hi
    moved_high k = further_high g e.a e.b o (outward e.a e.b lo.x lo.y hi.x hi.y S.y T.y k turned)

  -- an edge of the pen that rises from P to Q, and a corner T that lies furthest to the right of the path
  module _ {lo hi P Q T : Pt} (o : Ordered g lo hi) (p : P ∈ cs) (q : Q ∈ cs) (t : T ∈ cs) (m : edge P Q ∈ edges cs) (r : P.y ≺ Q.y)
      (furthest-t : (z : Pt) → z ∈ cs → (hi.y -ℤ lo.y) *ℤ z.x -ℤ (hi.x -ℤ lo.x) *ℤ z.y ≼ (hi.y -ℤ lo.y) *ℤ T.x -ℤ (hi.x -ℤ lo.x) *ℤ T.y) where
    on_to : dot (edge P Q).a (edge P Q).b Q ≡ (edge P Q).c
    on_to = ends_level P.x P.y Q.x Q.y

    right_of : {S : Pt} → S ∈ cs → pos 0 ≼ (Q.y -ℤ P.y) *ℤ ((hi.y -ℤ lo.y) *ℤ T.x -ℤ (hi.x -ℤ lo.x) *ℤ T.y -ℤ ((hi.y -ℤ lo.y) *ℤ S.x -ℤ (hi.x -ℤ lo.x) *ℤ S.y))
    right_of {S} s = further_right (Q.y -ℤ P.y) (hi.x -ℤ lo.x) (hi.y -ℤ lo.y) S.x S.y T.x T.y (rise P.y Q.y r) (furthest-t S s)

    -- where T lies above P, the edge stands at the lower end
    pub lower_right : P.y ≺ T.y → OnRight cs g (put lo P) (put lo Q)
    lower_right k =
        let x = moved_low o t P (edge P Q) m refl (right_of p) k in
        (moved g (edge P Q), at_end lo P Q m r refl on_to (in_low cs Dx Dy pen g o p) (in_low cs Dx Dy pen g o q) x, rise P.y Q.y r)

    -- where it lies below Q, at the upper end
    pub upper_right : T.y ≺ Q.y → OnRight cs g (put hi P) (put hi Q)
    upper_right k =
        let x = moved_high o t Q (edge P Q) m on_to (right_of q) k in
        (moved g (edge P Q), at_end hi P Q m r refl on_to (in_high cs Dx Dy pen g o p) (in_high cs Dx Dy pen g o q) x, rise P.y Q.y r)

  -- on the left: an edge of the pen that falls from Q to P, and a corner T that lies furthest to the left of the path
  module _ {lo hi P Q T : Pt} (o : Ordered g lo hi) (p : P ∈ cs) (q : Q ∈ cs) (t : T ∈ cs) (m : edge Q P ∈ edges cs) (r : P.y ≺ Q.y)
      (furthest-t : (z : Pt) → z ∈ cs → (hi.x -ℤ lo.x) *ℤ z.y -ℤ (hi.y -ℤ lo.y) *ℤ z.x ≼ (hi.x -ℤ lo.x) *ℤ T.y -ℤ (hi.y -ℤ lo.y) *ℤ T.x) where
    on_from : dot (edge Q P).a (edge Q P).b P ≡ (edge Q P).c
    on_from = ends_level Q.x Q.y P.x P.y

    left_of : {S : Pt} → S ∈ cs → pos 0 ≼ (P.y -ℤ Q.y) *ℤ ((hi.y -ℤ lo.y) *ℤ T.x -ℤ (hi.x -ℤ lo.x) *ℤ T.y -ℤ ((hi.y -ℤ lo.y) *ℤ S.x -ℤ (hi.x -ℤ lo.x) *ℤ S.y))
    left_of {S} s = further_left (P.y -ℤ Q.y) (hi.x -ℤ lo.x) (hi.y -ℤ lo.y) S.x S.y T.x T.y (fall P.y Q.y r) (furthest-t S s)

    pub lower_left : P.y ≺ T.y → OnLeft cs g (put lo P) (put lo Q)
    lower_left k =
        let x = moved_low o t P (edge Q P) m on_from (left_of p) k in
        (moved g (edge Q P), at_end lo P Q m r on_from refl (in_low cs Dx Dy pen g o p) (in_low cs Dx Dy pen g o q) x, fall P.y Q.y r)

    pub upper_left : T.y ≺ Q.y → OnLeft cs g (put hi P) (put hi Q)
    upper_left k =
        let x = moved_high o t Q (edge Q P) m refl (left_of q) k in
        (moved g (edge Q P), at_end hi P Q m r on_from refl (in_high cs Dx Dy pen g o p) (in_high cs Dx Dy pen g o q) x, fall P.y Q.y r)
