-- The corners of a pen are a cycle: each is the end of one edge and the start of one, and every edge joins two of them, and has a normal. And the furthest corner in a direction:
-- `furthest` bounds every corner and is met at one; with each corner the opposite one is there.
use mathlib.Core.Path.{◌≡◌, refl, sym, ap, ◌∙◌, subst}
use mathlib.Core.Logic.{◌⊎◌, inl, inr}
use mathlib.Core.List.Memᴰ
use mathlib.Core.List.{List, [], ◌∷◌}
use native.Mathlib.Omega.{arith}
use lib.IntN.{ℤ, pos, neg_ℤ, ◌+ℤ◌, ◌-ℤ◌, ◌*ℤ◌}
use Rattle.integers.specs.Orders.{◌≼◌}
use Rattle.integers.specs.Compare.{max_z}
use Rattle.integers.specs.Count.{◌∈◌}
use Rattle.integers.proofs.Ring.{ring, reify}
use Rattle.integers.proofs.Order.{le_refl, le_trans}
use Rattle.integers.proofs.Tests.{max_case, max_l, max_r}
use Rattle.plane.specs.Point.{Pt, pt}
use Rattle.plane.specs.Polygon.{Side, dot, edge, chain, edges, PenLaws}
use Rattle.stroke.specs.Sides.{furthest}

-- ---- around the cycle
-- `chain F P l` runs from P along l and back to F; at first F is P
skip : {F P z : Pt} {l : List Pt} → z ∈ F ∷ l → z ∈ F ∷ P ∷ l
skip (Memᴰ.head e) = Memᴰ.head e
skip (Memᴰ.tail m) = Memᴰ.tail (Memᴰ.tail m)

once : {P z : Pt} {l : List Pt} → z ∈ P ∷ P ∷ l → z ∈ P ∷ l
once (Memᴰ.head e) = Memᴰ.head e
once (Memᴰ.tail m) = m

on : (F P : Pt) (l : List Pt) {z : Pt} → z ∈ P ∷ l → (q : Pt) × (q ∈ F ∷ P ∷ l) × (edge z q ∈ chain F P l)
unfolding chain
on F P [] (Memᴰ.head e) = (F, Memᴰ.head refl, Memᴰ.head (ap (λ w. edge w F) e))
on F P [] (Memᴰ.tail m) = absurd (Memᴰ.not-nil m)
on F P (R ∷ l) (Memᴰ.head e) = (R, Memᴰ.tail (Memᴰ.tail (Memᴰ.head refl)), Memᴰ.head (ap (λ w. edge w R) e))
on F P (R ∷ l) (Memᴰ.tail m) = let r = on F R l m in (r.0, skip r.1, Memᴰ.tail r.2)

back : (F P : Pt) (l : List Pt) {z : Pt} → z ∈ F ∷ l → (q : Pt) × (q ∈ P ∷ l) × (edge q z ∈ chain F P l)
unfolding chain
back F P [] (Memᴰ.head e) = (P, Memᴰ.head refl, Memᴰ.head (ap (λ w. edge P w) e))
back F P [] (Memᴰ.tail m) = absurd (Memᴰ.not-nil m)
back F P (R ∷ l) (Memᴰ.head e) = let r = back F R l (Memᴰ.head e) in (r.0, Memᴰ.tail r.1, Memᴰ.tail r.2)
back F P (R ∷ l) (Memᴰ.tail (Memᴰ.head e)) = (P, Memᴰ.head refl, Memᴰ.head (ap (λ w. edge P w) e))
back F P (R ∷ l) (Memᴰ.tail (Memᴰ.tail m)) = let r = back F R l (Memᴰ.tail m) in (r.0, Memᴰ.tail r.1, Memᴰ.tail r.2)

joined : (F P : Pt) (l : List Pt) {e : Side} → e ∈ chain F P l → (p : Pt) × (q : Pt) × (p ∈ P ∷ l) × (q ∈ F ∷ P ∷ l) × (e ≡ edge p q)
unfolding chain
joined F P [] (Memᴰ.head h) = (P, F, Memᴰ.head refl, Memᴰ.head refl, h)
joined F P [] (Memᴰ.tail m) = absurd (Memᴰ.not-nil m)
joined F P (R ∷ l) (Memᴰ.head h) = (P, R, Memᴰ.head refl, Memᴰ.tail (Memᴰ.tail (Memᴰ.head refl)), h)
joined F P (R ∷ l) (Memᴰ.tail m) = let r = joined F R l m in (r.0, r.1, Memᴰ.tail r.2, skip r.3, r.4)

pub edge_after : (cs : List Pt) {z : Pt} → z ∈ cs → (q : Pt) × (q ∈ cs) × (edge z q ∈ edges cs)
unfolding edges
edge_after [] m = absurd (Memᴰ.not-nil m)
edge_after (P ∷ l) m = let r = on P P l m in (r.0, once r.1, r.2)

pub edge_before : (cs : List Pt) {z : Pt} → z ∈ cs → (q : Pt) × (q ∈ cs) × (edge q z ∈ edges cs)
unfolding edges
edge_before [] m = absurd (Memᴰ.not-nil m)
edge_before (P ∷ l) m = back P P l m

pub edge_ends : (cs : List Pt) {e : Side} → e ∈ edges cs → (p : Pt) × (q : Pt) × (p ∈ cs) × (q ∈ cs) × (e ≡ edge p q)
unfolding edges
edge_ends [] m = absurd (Memᴰ.not-nil m)
edge_ends (P ∷ l) m = let r = joined P P l m in (r.0, r.1, r.2, once r.3, r.4)

-- both ends of an edge lie on its line
pub ends_level : (px py zx zy : ℤ) → (zy -ℤ py) *ℤ zx +ℤ (px -ℤ zx) *ℤ zy ≡ (zy -ℤ py) *ℤ px +ℤ (px -ℤ zx) *ℤ py
ends_level = ring 4 _ (simp reify (omega arith))

-- ---- an edge of a pen has a normal
abbrev pub Normal : Side → Type 0
Normal e = ¬ ((e.a ≡ pos 0) × (e.b ≡ pos 0))

through_middle : (a b x y : ℤ) → a ≡ pos 0 → b ≡ pos 0 → ¬ (pos 1 ≼ a *ℤ x +ℤ b *ℤ y)
through_middle = ring 4 _ (λ ρ p q. rw (p, q) (simp (reify, ρ) (omega arith)))

-- since without one its line would go through the middle
pub edge_normal : (cs : List Pt) (Dx Dy : ℤ) → PenLaws cs Dx Dy → (e : Side) → e ∈ edges cs → Normal e
edge_normal cs Dx Dy pen e m z =
    let r = edge_ends cs m in
    let p = r.0 in
    subst (λ (e : Side). (e.a ≡ pos 0) × (e.b ≡ pos 0) → ¬ (pos 1 ≼ e.c)) (sym r.4) (λ z. through_middle _ _ p.x p.y z.0 z.1) z (pen.thick e m)

-- ---- the furthest corner
pub furthest_bound : (a b : ℤ) (l : List Pt) {z : Pt} → z ∈ l → dot a b z ≼ furthest a b l
unfolding furthest
furthest_bound a b [] m = absurd (Memᴰ.not-nil m)
furthest_bound a b (w ∷ l) (Memᴰ.head e) = subst (λ (t : Pt). dot a b t ≼ max_z (dot a b w) (furthest a b l)) (sym e) (max_l (dot a b w) (furthest a b l))
furthest_bound a b (w ∷ l) {z} (Memᴰ.tail m) = le_trans (dot a b z) (furthest a b l) _ (furthest_bound a b l m) (max_r (dot a b w) (furthest a b l))

pub furthest_nn : (a b : ℤ) (l : List Pt) → pos 0 ≼ furthest a b l
unfolding furthest
furthest_nn a b [] = le_refl (pos 0)
furthest_nn a b (w ∷ l) = le_trans (pos 0) (furthest a b l) _ (furthest_nn a b l) (max_r (dot a b w) (furthest a b l))

attained : (a b : ℤ) (l : List Pt) → ((z : Pt) × (z ∈ l) × (dot a b z ≡ furthest a b l)) ⊎ (furthest a b l ≡ pos 0)
unfolding furthest
attained a b [] = inr refl
attained a b (w ∷ l) = elim (max_case (dot a b w) (furthest a b l)) [
  | inr h ↦ inl (w, Memᴰ.head refl, sym h.0)
  | inl h ↦ elim (attained a b l) [ inl r ↦ inl (r.0, Memᴰ.tail r.1, r.2 ∙ sym h.0) | inr r ↦ inr (h.0 ∙ r) ]
]

turned : (a b x y : ℤ) → a *ℤ neg_ℤ x +ℤ b *ℤ neg_ℤ y ≡ neg_ℤ (a *ℤ x +ℤ b *ℤ y)
turned = ring 4 _ (simp reify (omega arith))

neither : (x h : ℤ) → x ≼ h → neg_ℤ x ≼ h → h ≡ pos 0 → x ≡ h
neither = ring 2 _ (λ ρ. simp (reify, ρ) (omega arith))

module _ (cs : List Pt) (Dx Dy : ℤ) (pen : PenLaws cs Dx Dy) where
  -- the opposite corner
  pub corner_opposite : {z : Pt} → z ∈ cs → pt (neg_ℤ z.x) (neg_ℤ z.y) ∈ cs
  corner_opposite {z} m = pen.mirror_y _ (pen.mirror_x z m)

  -- the furthest value is met at a corner: also where it is 0, since then every corner and its opposite lie at 0
  pub furthest_corner : (a b : ℤ) → (z : Pt) × (z ∈ cs) × (dot a b z ≡ furthest a b cs)
  furthest_corner a b = elim (attained a b cs) [
    | inl r ↦ r
    | inr e ↦
        let z = pen.rightmost.0 in
        let m = pen.rightmost.1 in
        (z, m, neither (dot a b z) (furthest a b cs) (furthest_bound a b cs m) (rw (turned a b z.x z.y) at (furthest_bound a b cs (corner_opposite m))) e)
  ]
