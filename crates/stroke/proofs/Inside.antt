-- A point of the sweep is within every side of the segment. Of a moved edge, since a place between the ends carries it no further out than one of them does; of the
-- two sides along the path, since moving along the path changes nothing there, and the pen reaches no further than its corners.
use mathlib.Core.Path.{◌≡◌}
use mathlib.Core.List.{List}
use native.Mathlib.Omega.{arith}
use lib.IntN.{ℤ, pos, neg_ℤ, ◌+ℤ◌, ◌-ℤ◌, ◌*ℤ◌}
use Rattle.integers.specs.Orders.{◌≼◌}
use Rattle.integers.specs.Compare.{max_z}
use Rattle.integers.specs.Count.{◌∈◌}
use Rattle.integers.proofs.Ring.{ring, reify, ◌⊢◌}
use Rattle.integers.proofs.Order.{mul_nn, sub_nn, mul_cancel, le_refl}
use Rattle.integers.proofs.Tests.{max_l, max_r}
use Rattle.plane.specs.Point.{Pt}
use Rattle.plane.specs.Polygon.{Side, dot, edges, PenLaws}
use Rattle.stroke.specs.Sweep.{Seg, Sweep}
use Rattle.stroke.specs.Sides.{moved, furthest, touching, sides}
use Rattle.stroke.proofs.Sides.{Meets, each_side}
use Rattle.stroke.proofs.Support.{one_lt, pen_support}

-- M is at least what either end gives, so it is at least what the place s / k of the way gives
edge_side : (a b c x y ax ay bx by k s M : ℤ) → pos 0 ≼ s → s ≼ k → a *ℤ ax +ℤ b *ℤ ay ≼ M → a *ℤ bx +ℤ b *ℤ by ≼ M →
    a *ℤ (k *ℤ (x -ℤ ax) -ℤ s *ℤ (bx -ℤ ax)) +ℤ b *ℤ (k *ℤ (y -ℤ ay) -ℤ s *ℤ (by -ℤ ay)) ≼ k *ℤ (pos 8 *ℤ c) →
    k *ℤ (a *ℤ x +ℤ b *ℤ y) ≼ k *ℤ (pos 8 *ℤ c +ℤ M)
edge_side = ring 12 _ (λ ρ hs hk hA hB h. mul_nn (sub_nn hk) (sub_nn hA) ⊢ mul_nn hs (sub_nn hB) ⊢ h ⊢ simp (reify, ρ) (omega arith))

-- the two directions along which the path's own direction is 0
level₁ : (u v : ℤ) → v *ℤ u +ℤ neg_ℤ u *ℤ v ≡ pos 0
level₁ = ring 2 _ (λ ρ. simp (reify, ρ) (omega arith))

level₂ : (u v : ℤ) → neg_ℤ v *ℤ u +ℤ u *ℤ v ≡ pos 0
level₂ = ring 2 _ (λ ρ. simp (reify, ρ) (omega arith))

-- there both ends give the same
same_ends : (a b ax ay bx by : ℤ) → a *ℤ (bx -ℤ ax) +ℤ b *ℤ (by -ℤ ay) ≡ pos 0 → a *ℤ bx +ℤ b *ℤ by ≼ a *ℤ ax +ℤ b *ℤ ay
same_ends = ring 6 _ (λ ρ. simp (reify, ρ) (omega arith))

module _ (cs : List Pt) (Dx Dy : ℤ) (pen : PenLaws cs Dx Dy) (g : Seg) (X : Pt) where
  -- in any direction a point of the sweep is no further out than the furthest corner put at the end that is further out
  pub outermost : Sweep cs g X → (a b M : ℤ) → dot a b g.from ≼ M → dot a b g.to ≼ M → dot a b X ≼ pos 8 *ℤ furthest a b cs +ℤ M
  outermost w a b M hA hB =
      let A = g.from in
      let B = g.to in
      let c = furthest a b cs in
      mul_cancel w.k (dot a b X) (pos 8 *ℤ c +ℤ M) (one_lt w.k w.k_some)
      (edge_side a b c X.x X.y A.x A.y B.x B.y w.k w.s M w.s_low w.s_high hA hB (pen_support cs Dx Dy pen a b w.k _ w.in_pen))

  edgewise : Sweep cs g X → (e : Side) → e ∈ edges cs → Meets X (moved g e)
  edgewise w e m =
      let A = g.from in
      let B = g.to in
      let M = max_z (dot e.a e.b A) (dot e.a e.b B) in
      mul_cancel w.k (dot e.a e.b X) (pos 8 *ℤ e.c +ℤ M) (one_lt w.k w.k_some)
      (edge_side e.a e.b e.c X.x X.y A.x A.y B.x B.y w.k w.s M w.s_low w.s_high (max_l _ (dot e.a e.b B)) (max_r (dot e.a e.b A) _) (w.in_pen e m))

  along : Sweep cs g X → (a b : ℤ) → a *ℤ (g.to.x -ℤ g.from.x) +ℤ b *ℤ (g.to.y -ℤ g.from.y) ≡ pos 0 → Meets X (touching cs g.from a b)
  along w a b e = outermost w a b (dot a b g.from) (le_refl (dot a b g.from)) (same_ends a b g.from.x g.from.y g.to.x g.to.y e)

  pub sweep→sides : Sweep cs g X → (e : Side) → e ∈ sides cs g → Meets X e
  sweep→sides w =
      let u = g.to.x -ℤ g.from.x in
      let v = g.to.y -ℤ g.from.y in
      each_side (Meets X) cs g (record { edgewise = edgewise w; path = λ d. (along w v (neg_ℤ u) (level₁ u v), along w (neg_ℤ v) u (level₂ u v)) })
