-- A convex quarter, mirrored in both axes, satisfies the laws of a pen.
use mathlib.Core.Path.{◌≡◌, refl, sym, ap, subst, ◌∙◌}
use mathlib.Core.Logic.{◌⊎◌, inl, inr}
use mathlib.Core.List.Memᴰ
use mathlib.Core.List.{List, [], ◌∷◌}
use native.Mathlib.Omega.{arith}
use lib.IntN.{ℤ, pos, neg_ℤ}
use Rattle.integers.specs.Orders.{◌≼◌}
use Rattle.integers.specs.Count.{◌∈◌}
use Rattle.integers.proofs.Ring.{ring, reify}
use Rattle.integers.proofs.Order.{le_trans}
use Rattle.plane.specs.Point.{Pt}
use Rattle.pen.specs.Polygon.{once_each}
use Rattle.plane.specs.Polygon.{Side, edge, edges, reach, PenLaws}
use Rattle.pen.proofs.Once.{Linked, linked_edge, Left, once_linked, once_sub, once_mem}
use Rattle.pen.proofs.Images.{neg_neg, crossed, onwards, Image, is, is_flipped, is_turned, is_crossed, image_of, image_in, image_crossed, image_flipped}
use Rattle.pen.proofs.Fits.{Rises, Steps, Low, IsQuarter, Between, Fits, fits-inner}
use Rattle.pen.proofs.Around.{all_linked}

-- the polygon of the quarter c and q
abbrev pub ring_of : Pt → List Pt → List Pt
ring_of c q = once_each c c (onwards c q)

-- w is in the box that z and its mirror images span
record Within (z w : Pt) : Type 0 where
  x_in : Between z.x w.x
  y_in : Between (neg_ℤ z.y) w.y

in_x : (x : ℤ) → pos 0 ≼ x → Between x x × Between x (neg_ℤ x)
in_x = ring 1 _ (λ ρ. simp (reify, ρ) (omega arith))

in_y : (y : ℤ) → y ≼ pos 0 → Between (neg_ℤ y) y × Between (neg_ℤ y) (neg_ℤ y)
in_y = ring 1 _ (λ ρ. simp (reify, ρ) (omega arith))

within : {Dx Dy : ℤ} (z w : Pt) → Low Dx Dy z → Image z w → Within z w
within z w h i = go i (in_x z.x h.right₀) (in_y z.y h.below)
  where
    go : Image z w → Between z.x z.x × Between z.x (neg_ℤ z.x) → Between (neg_ℤ z.y) z.y × Between (neg_ℤ z.y) (neg_ℤ z.y) → Within z w
    go (is e) a b = subst (Within z) (sym e) (record { x_in = a.0; y_in = b.0 })
    go (is_flipped e) a b = subst (Within z) (sym e) (record { x_in = a.0; y_in = b.1 })
    go (is_turned e) a b = subst (Within z) (sym e) (record { x_in = a.1; y_in = b.1 })
    go (is_crossed e) a b = subst (Within z) (sym e) (record { x_in = a.1; y_in = b.0 })

-- the last corner is at the right side
end_of : (R : Pt → Pt → Type 0) (D : ℤ) (p : Pt) (l : List Pt) → Steps R D p l → (z : Pt) × (z ∈ p ∷ l) × (z.x ≡ D)
end_of R D p [] h = (p, Memᴰ.head refl, h)
end_of R D p (r ∷ l) h = let k = end_of R D r l h.1 in (k.0, Memᴰ.tail k.1, k.2)

-- c is not both the last corner and its mirror image, so the polygon has some corner
both_ends : (d x y : ℤ) → pos 1 ≼ d → x ≡ d → x ≡ y → neg_ℤ x ≡ y → ⊥
both_ends = ring 3 _ (λ ρ. simp (reify, ρ) (omega arith))

le_neg : (y z d : ℤ) → y ≼ neg_ℤ z → neg_ℤ d ≼ z → y ≼ d
le_neg = ring 3 _ (simp reify (omega arith))

module _ (c : Pt) (q : List Pt) (Dx Dy : ℤ) (Q : IsQuarter c q Dx Dy) where
  -- the edges that are left fit
  left : Left (λ p r. Fits (c ∷ q) (edge p r)) c c (ring_of c q)
  left = once_linked (λ p r. Fits (c ∷ q) (edge p r)) c c (onwards c q) (all_linked c q Dx Dy Q)

  fit : (w : List Pt) → Left (λ p r. Fits (c ∷ q) (edge p r)) c c w → (e : Side) → e ∈ edges w → Fits (c ∷ q) e
  unfolding edges
  fit [] h e m = absurd (Memᴰ.not-nil m)
  fit (p ∷ r) h e m = linked_edge (Fits (c ∷ q)) p p r (subst (λ f. Linked (λ p r. Fits (c ∷ q) (edge p r)) f p r) (sym h.0) h.1) e m

  has_first : (w : List Pt) → Left (λ p r. Fits (c ∷ q) (edge p r)) c c w → (z : Pt) → z ∈ w → c ∈ w
  has_first [] h z m = absurd (Memᴰ.not-nil m)
  has_first (p ∷ r) h z m = Memᴰ.head (sym h.0)

  -- c is not left out
  first_in : c ∈ ring_of c q
  first_in =
      let k = end_of (Rises (c ∷ q)) Dx c q Q.steps in
      go k.0 k.2 (once_mem c c (onwards c q) (image_in c q k.1 (is refl))) (once_mem c c (onwards c q) (image_in c q k.1 (is_crossed refl)))
    where
      go : (z : Pt) → z.x ≡ Dx → (z ∈ ring_of c q) ⊎ (z ≡ c) → (crossed z ∈ ring_of c q) ⊎ (crossed z ≡ c) → c ∈ ring_of c q
      go z e (inl m) _ = has_first (ring_of c q) left z m
      go z e (inr h) (inl m) = has_first (ring_of c q) left (crossed z) m
      go z e (inr h) (inr k) = absurd (both_ends Dx z.x c.x Q.wide₁ e (ap (λ (w : Pt). w.x) h) (ap (λ (w : Pt). w.x) k))

  -- the first corner is the lowest
  first_lowest : (w : List Pt) → Left (λ p r. Fits (c ∷ q) (edge p r)) c c w → c ∈ w → reach w ≡ Dy
  first_lowest [] h m = absurd (Memᴰ.not-nil m)
  first_lowest (p ∷ r) h m = ap (λ (z : Pt). neg_ℤ z.y) h.0 ∙ ap neg_ℤ Q.bottom ∙ neg_neg Dy

  -- the corners are the mirror images of the quarter's, and all of them
  pub image : {w : Pt} → w ∈ ring_of c q → (z : Pt) × (z ∈ c ∷ q) × Image z w
  image m = image_of c q (once_sub c c (onwards c q) m)

  pub corner : {z w : Pt} → z ∈ c ∷ q → Image z w → w ∈ ring_of c q
  corner m i = elim (once_mem c c (onwards c q) (image_in c q m i)) [ inl k ↦ k | inr k ↦ Memᴰ.cast k first_in ]

  -- the mirrored quarter is a pen
  pub pen_of_lem : PenLaws (ring_of c q) Dx Dy
  pen_of_lem = record {
    mirror_x = λ z m. let r = image m in corner r.1 (image_crossed r.2);
    mirror_y = λ z m. let r = image m in corner r.1 (image_flipped r.2);
    convex = λ e w me m.
        let r = image m in
        let b = within r.0 w (Q.low r.0 r.1) r.2 in
        fits-inner (c ∷ q) e (fit (ring_of c q) left e me) r.0 w r.1 b.x_in b.y_in;
    thick = λ e me. (fit (ring_of c q) left e me).thick;
    wide = λ w m.
        let r = image m in
        le_trans w.x r.0.x Dx (within r.0 w (Q.low r.0 r.1) r.2).x_in.1 (Q.low r.0 r.1).wide;
    high = λ w m.
        let r = image m in
        le_neg w.y r.0.y Dy (within r.0 w (Q.low r.0 r.1) r.2).y_in.1 (Q.low r.0 r.1).deep;
    rightmost = (let k = end_of (Rises (c ∷ q)) Dx c q Q.steps in (k.0, corner k.1 (is refl), k.2));
    lowest = (c, first_in, Q.bottom);
    reaches = first_lowest (ring_of c q) left first_in;
    somewide = Q.wide₁;
    somehigh = Q.high₁;
  }
