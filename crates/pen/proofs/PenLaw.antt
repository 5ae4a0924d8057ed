-- The built pen satisfies the laws of a pen, has the mirror images of its quarter's corners, each once, and at most four times as many as the quarter: from
-- the chain of the quarter, in naturals with y downwards, to a convex quarter in whole numbers with y upwards.
use Prim.Native.Nat.{ℕ, ◌-◌, ◌≤◌, ◌<◌}
use mathlib.Core.Path.{◌≡◌, sym, ap, subst}
use mathlib.Core.Logic.{◌↔◌}
use mathlib.Core.List.{List, [], ◌∷◌, map}
use lib.ListN.{length, length-map}
use native.Mathlib.Omega.{arith}
use lib.IntN.{ℤ, pos, neg_ℤ, ◌+ℤ◌, ◌-ℤ◌, ◌*ℤ◌}
use Rattle.integers.specs.Orders.{◌≼◌, ◌≺◌}
use Rattle.integers.specs.Count.{◌∈◌, NoDup}
use Rattle.integers.proofs.Ring.{ring, reify, ◌⊢◌}
use Rattle.limits.specs.Sizes.{pen_max}
use Rattle.setting.specs.declared.Setting.{Setting}
use Rattle.setting.specs.Setting.{Taken, Dx, Dy}
use Rattle.quarter.specs.Cutting.{Corner, quarter}
use Rattle.plane.specs.Point.{Pt}
use Rattle.pen.specs.Polygon.{upward, up_and_back, around, closed, whole, pen}
use Rattle.plane.specs.Polygon.{dot, edge, PenLaws}
use Rattle.pen.specs.Theorems.{AsFar}
use Rattle.setting.proofs.Limits.{box_wide, box_high}
use Rattle.quarter.proofs.Naturals.{le_pos, lt_pos, diff_pos}
use Rattle.quarter.proofs.Chain.{Chain, stop, link}
use Rattle.quarter.proofs.Ranges.{x_range, y_range, quarter_few_corners, quarter_cons, quarter_split, quarter_lowest}
use Rattle.pen.proofs.Convex.{Adjacent, here, there, Inside, inside_all, adjacent_on}
use Rattle.pen.proofs.Once.{once_few}
use Rattle.pen.proofs.Images.{Image, map_mem, mem_map, around_length}
use Rattle.pen.proofs.Fits.{Rises, Steps, Low, IsQuarter}
use Rattle.pen.proofs.Whole.{image, corner, pen_of_lem}
use Rattle.pen.proofs.EachOnce.{ring_once}
use Rattle.pen.proofs.Distances.{image_far, far_image}

flip_le : (a b : ℤ) → a ≼ b → neg_ℤ b ≼ neg_ℤ a
flip_le = ring 2 _ (simp reify (omega arith))

flip_lt : (a b : ℤ) → a ≺ b → neg_ℤ b ≺ neg_ℤ a
flip_lt = ring 2 _ (simp reify (omega arith))

-- the inner side of an edge, with y downwards and upwards
inner : (ax ay bx by cx cy p r : ℤ) → p ≡ ay -ℤ by → r ≡ bx -ℤ ax → p *ℤ cx +ℤ r *ℤ cy ≼ p *ℤ ax +ℤ r *ℤ ay →
    (neg_ℤ by -ℤ neg_ℤ ay) *ℤ cx +ℤ (ax -ℤ bx) *ℤ neg_ℤ cy ≼ (neg_ℤ by -ℤ neg_ℤ ay) *ℤ ax +ℤ (ax -ℤ bx) *ℤ neg_ℤ ay
inner = ring 8 _ (λ ρ e f h. (rw (e, f) at h) ⊢ simp reify (omega arith))

-- neighbours of the quarter, y upwards
rises : (all : List Corner) (A B : Corner) → (A.x < B.x) × (B.y < A.y) → ((C : Corner) → C ∈ all → Inside A B C) → Rises (map upward all) (upward A) (upward B)
rises all A B h k = record {
  across = lt_pos h.0;
  up = flip_lt (pos B.y) (pos A.y) (lt_pos h.1);
  inner = λ z m.
      let r = map_mem upward all m in
      let C = r.0 in
      let e = edge (upward A) (upward B) in
      let falls = diff_pos A.y B.y (omega arith) in
      let goes = diff_pos B.x A.x (omega arith) in
      subst (λ (w : Pt). dot e.a e.b w ≼ e.c) (sym r.2)
      (inner (pos A.x) (pos A.y) (pos B.x) (pos B.y) (pos C.x) (pos C.y) (pos (A.y - B.y)) (pos (B.x - A.x)) falls goes (le_pos (k C r.1)));
}

steps : {D k pu pv a b : ℕ} (R : Pt → Pt → Type 0) (P : Corner) (l : List Corner) → Chain D k pu pv a b (P ∷ l) →
    ((A B : Corner) → Adjacent A B (P ∷ l) → R (upward A) (upward B)) → Steps R (pos D) (upward P) (map upward l)
steps R P [] (link l u v r (stop e)) f = ap pos e
steps R P (Q ∷ ds) (link l u v r s) f = (f P Q here, steps R Q ds s (λ A B n. f A B (there n)))

down : (y : ℕ) → neg_ℤ (pos y) ≼ pos 0
down y = flip_le (pos 0) (pos y) (le_pos (omega arith))

module _ (σ : Setting) (τ : Taken σ) where
  is_quarter : IsQuarter (upward (quarter_cons σ τ).first) (map upward (quarter_cons σ τ).others) (pos (Dx σ)) (pos (Dy σ))
  is_quarter =
      let c = (quarter_cons σ τ).first in
      let l = (quarter_cons σ τ).others in
      let s = quarter_split σ τ in
      record {
        low = λ z m.
            let r = map_mem upward (c ∷ l) m in
            let C = r.0 in
            subst (Low (pos (Dx σ)) (pos (Dy σ))) (sym r.2) (record
            { right₀ = le_pos (omega arith); wide = le_pos (x_range s C r.1).1; below = down C.y; deep = flip_le (pos C.y) (pos (Dy σ)) (le_pos (y_range s C r.1)) });
        steps = steps (Rises (map upward (c ∷ l))) c l s (λ A B n. rises (c ∷ l) A B (adjacent_on s n) (λ C m. inside_all s n C m));
        bottom = ap (λ (y : ℕ). neg_ℤ (pos y)) (quarter_lowest σ τ);
        wide₁ = le_pos (box_wide τ).0;
        high₁ = le_pos (box_high τ).0;
      }

  -- the pen is the polygon of this quarter
  pub is_pen : PenLaws (pen σ) (pos (Dx σ)) (pos (Dy σ))
  unfolding pen up_and_back
  is_pen = subst (λ (cs : List Corner). PenLaws (whole (map upward cs)) (pos (Dx σ)) (pos (Dy σ))) (sym (quarter_cons σ τ).cons) (pen_of_lem _ _ (pos (Dx σ)) (pos (Dy σ)) is_quarter)

  pub once_of_pen : NoDup (pen σ)
  unfolding pen up_and_back
  once_of_pen = subst (λ (cs : List Corner). NoDup (whole (map upward cs))) (sym (quarter_cons σ τ).cons) (ring_once _ _ is_quarter)

  -- its corners are the mirror images of the quarter's, and all of them
  pub mirrored_in_pen : (z : Pt) → (z ∈ pen σ) ↔ ((c : Corner) × (c ∈ quarter σ) × AsFar c z)
  unfolding pen up_and_back
  mirrored_in_pen z = subst (λ (cs : List Corner). (z ∈ whole (map upward cs)) ↔ ((c : Corner) × (c ∈ cs) × AsFar c z)) (sym (quarter_cons σ τ).cons) (there, back)
    where
      cs : List Corner
      cs = (quarter_cons σ τ).first ∷ (quarter_cons σ τ).others

      there : z ∈ whole (map upward cs) → (c : Corner) × (c ∈ cs) × AsFar c z
      there m =
          let i = image _ _ (pos (Dx σ)) (pos (Dy σ)) is_quarter m in
          let c = map_mem upward cs i.1 in
          (c.0, c.1, image_far c.0 z (subst (λ (w : Pt). Image w z) c.2 i.2))

      back : (c : Corner) × (c ∈ cs) × AsFar c z → z ∈ whole (map upward cs)
      back m = corner _ _ (pos (Dx σ)) (pos (Dy σ)) is_quarter (mem_map upward cs m.1) (far_image m.0 z m.2)

  pub few_of_pen : length (pen σ) ≤ pen_max
  unfolding pen
  few_of_pen = omega (arith, closed_few (around (map upward (quarter σ))), around_length (map upward (quarter σ)), length-map (quarter σ) upward, quarter_few_corners σ τ)
    where
      closed_few : (l : List Pt) → length (closed l) ≤ length l
      closed_few [] = omega arith
      closed_few (p ∷ l) = once_few p p l
