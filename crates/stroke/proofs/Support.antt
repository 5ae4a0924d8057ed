-- The pen reaches no further in any direction than its corners: a point within every edge of the pen enlarged k times has a x + b y at most k times the furthest
-- corner's. The two edges that meet at the furthest corner say so already: (a, b) is a combination of their normals.
use mathlib.Core.Path.{◌≡◌, ap}
use mathlib.Core.Logic.{inl, inr}
use mathlib.Core.List.{List}
use native.Mathlib.Omega.{arith}
use lib.IntN.{ℤ, pos, ◌+ℤ◌, ◌-ℤ◌, ◌*ℤ◌}
use Rattle.integers.specs.Orders.{◌≼◌, ◌≺◌}
use Rattle.integers.proofs.Ring.{ring, reify, ◌⊢◌, var}
use Rattle.integers.proofs.Order.{mul_nn, sub_nn, mul_cancel, le_or_lt, le_antisymm}
use Rattle.plane.specs.Point.{Pt}
use Rattle.plane.specs.Polygon.{dot, edge, PenLaws}
use Rattle.stroke.specs.Sweep.{InPen}
use Rattle.stroke.specs.Sides.{furthest}
use Rattle.stroke.proofs.Corners.{edge_after, edge_before, ends_level, furthest_bound, furthest_nn, furthest_corner}

pub one_lt : (c : ℤ) → pos 1 ≼ c → pos 0 ≺ c
one_lt = ring 1 _ (λ ρ. simp (reify, ρ) (omega arith))

-- with the normals n of e and f, alpha n_e + beta n_f = gamma m: from bounds in the directions of e and f to one in that of m
combined : (α β γ E F M ce cf H k : ℤ) → pos 0 ≼ α → pos 0 ≼ β → γ *ℤ M ≡ α *ℤ E +ℤ β *ℤ F → γ *ℤ H ≡ α *ℤ ce +ℤ β *ℤ cf →
    E ≼ k *ℤ (pos 8 *ℤ ce) → F ≼ k *ℤ (pos 8 *ℤ cf) → γ *ℤ M ≼ γ *ℤ (k *ℤ (pos 8 *ℤ H))
combined = ring 10 _ (λ ρ hα hβ e1 e2 hE hF. mul_nn hα (sub_nn hE) ⊢ mul_nn hβ (sub_nn hF) ⊢ e1 ⊢ ap (λ z. var ρ 9 *ℤ z) e2 ⊢ simp (reify, ρ) (omega arith))

-- so it is for the edges from p to z and from z to q, where gamma is how far q lies inside the first
meet : (a b px py zx zy qx qy x y : ℤ) →
    ((zy -ℤ py) *ℤ px +ℤ (px -ℤ zx) *ℤ py -ℤ ((zy -ℤ py) *ℤ qx +ℤ (px -ℤ zx) *ℤ qy)) *ℤ (a *ℤ x +ℤ b *ℤ y) ≡
    (a *ℤ zx +ℤ b *ℤ zy -ℤ (a *ℤ qx +ℤ b *ℤ qy)) *ℤ ((zy -ℤ py) *ℤ x +ℤ (px -ℤ zx) *ℤ y) +ℤ (a *ℤ zx +ℤ b *ℤ zy -ℤ (a *ℤ px +ℤ b *ℤ py)) *ℤ ((qy -ℤ zy) *ℤ x +ℤ (zx -ℤ qx) *ℤ y)
meet = ring 10 _ (simp reify (omega arith))

-- where gamma is 0 the two edges lie on one line, which is the furthest one itself: beta is 0 too
flat : (α β γ ce cf H : ℤ) → pos 0 ≼ α → pos 0 ≼ β → γ ≼ pos 0 → pos 0 ≼ γ → γ *ℤ H ≡ α *ℤ ce +ℤ β *ℤ cf → pos 1 ≼ ce → pos 1 ≼ cf → β ≼ pos 0
flat = ring 6 _ (λ ρ hα hβ h1 h2 e he hf. mul_nn hα (sub_nn he) ⊢ mul_nn hβ (sub_nn hf) ⊢ ap (λ z. z *ℤ var ρ 5) (le_antisymm (var ρ 2) (pos 0) h1 h2) ⊢ e ⊢ hα ⊢ simp (reify, ρ) (omega arith))

parallel : (a b px py zx zy x y : ℤ) →
    ((zy -ℤ py) *ℤ px +ℤ (px -ℤ zx) *ℤ py) *ℤ (a *ℤ x +ℤ b *ℤ y) ≡
    (a *ℤ zx +ℤ b *ℤ zy) *ℤ ((zy -ℤ py) *ℤ x +ℤ (px -ℤ zx) *ℤ y) +ℤ (a *ℤ zx +ℤ b *ℤ zy -ℤ (a *ℤ px +ℤ b *ℤ py)) *ℤ (zx *ℤ y -ℤ zy *ℤ x)
parallel = ring 8 _ (simp reify (omega arith))

flat_bound : (β ce E M H k w : ℤ) → pos 0 ≼ β → β ≼ pos 0 → ce *ℤ M ≡ H *ℤ E +ℤ β *ℤ w → pos 0 ≼ H → E ≼ k *ℤ (pos 8 *ℤ ce) → ce *ℤ M ≼ ce *ℤ (k *ℤ (pos 8 *ℤ H))
flat_bound = ring 7 _ (λ ρ h1 h2 e h_h hE. mul_nn h_h (sub_nn hE) ⊢ ap (λ z. z *ℤ var ρ 6) (le_antisymm (var ρ 0) (pos 0) h2 h1) ⊢ e ⊢ simp (reify, ρ) (omega arith))

module _ (cs : List Pt) (Dx Dy : ℤ) (pen : PenLaws cs Dx Dy) where
  pub pen_support : (a b k : ℤ) (Z : Pt) → InPen cs k Z → dot a b Z ≼ k *ℤ (pos 8 *ℤ furthest a b cs)
  pen_support a b k Z h =
      let t = furthest_corner cs Dx Dy pen a b in
      let z = t.0 in
      let m = t.1 in
      let p = (edge_before cs m).0 in
      let q = (edge_after cs m).0 in
      let e = edge p z in
      let f = edge z q in
      let me = (edge_before cs m).2 in
      let mf = (edge_after cs m).2 in
      let hq : dot a b q ≼ dot a b z = rw t.2 (furthest_bound a b cs (edge_after cs m).1) in
      let hp : dot a b p ≼ dot a b z = rw t.2 (furthest_bound a b cs (edge_before cs m).1) in
      let α = dot a b z -ℤ dot a b q in
      let β = dot a b z -ℤ dot a b p in
      let γ = e.c -ℤ dot e.a e.b q in
      let hγ : pos 0 ≼ γ = sub_nn (pen.convex e q me (edge_after cs m).1) in
      let H = dot a b z in
      let h_h : pos 0 ≼ H = rw t.2 (furthest_nn a b cs) in
      let M = dot a b Z in
      let E = dot e.a e.b Z in
      let F = dot f.a f.b Z in
      let id1 = meet a b p.x p.y z.x z.y q.x q.y in
      let id2 = rw (ends_level p.x p.y z.x z.y) at (id1 z.x z.y) in
      let id3 = parallel a b p.x p.y z.x z.y Z.x Z.y in
      rw (← t.2)
      (elim (le_or_lt γ (pos 0)) [
        | inr h' ↦ mul_cancel γ M (k *ℤ (pos 8 *ℤ H)) h' (combined α β γ E F M e.c f.c H k (sub_nn hq) (sub_nn hp) (id1 Z.x Z.y) id2 (h e me) (h f mf))
        | inl h' ↦
            let hb = flat α β γ e.c f.c H (sub_nn hq) (sub_nn hp) h' hγ id2 (pen.thick e me) (pen.thick f mf) in
            mul_cancel e.c M (k *ℤ (pos 8 *ℤ H)) (one_lt e.c (pen.thick e me)) (flat_bound β e.c E M H k (z.x *ℤ Z.y -ℤ z.y *ℤ Z.x) (sub_nn hp) hb id3 h_h (h e me))
      ])
