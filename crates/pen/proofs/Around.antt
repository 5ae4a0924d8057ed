-- Each two neighbours on the walk around the whole polygon are equal, or joined by an edge that fits: up the quarter, back along its mirror images, and
-- the same turned by half a turn.
use mathlib.Core.Path.{◌≡◌, refl, sym, ap, subst}
use mathlib.Core.Logic.{◌⊎◌, inl, inr}
use mathlib.Core.List.Memᴰ
use mathlib.Core.List.{List, [], ◌∷◌, map}
use native.Mathlib.Omega.{arith}
use lib.IntN.{ℤ, pos, neg_ℤ, ◌-ℤ◌}
use Rattle.integers.specs.Orders.{◌≼◌, ◌≺◌}
use Rattle.integers.specs.Count.{◌∈◌}
use Rattle.integers.proofs.Ring.{ring, reify}
use Rattle.integers.proofs.Order.{le_or_lt}
use Rattle.plane.specs.Point.{Pt, pt}
use Rattle.pen.specs.Polygon.{flipped, turned, up_and_back}
use Rattle.plane.specs.Polygon.{edge}
use Rattle.pen.proofs.Once.{Linked, linked_map}
use Rattle.pen.proofs.Images.{onwards, turned_twice}
use Rattle.pen.proofs.Fits.{Rises, Steps, IsQuarter, Fits, fits_turn, step_between, level_between, slant_inner, slant_thick, upright_inner, upright_thick, level_inner, level_thick}

module _ (c : Pt) (q : List Pt) (Dx Dy : ℤ) (Q : IsQuarter c q Dx Dy) where
  abbrev Next : Pt → Pt → Type 0
  Next p r = (p ≡ r) ⊎ Fits (c ∷ q) (edge p r)

  -- a slanted edge, and its mirror image in the x axis
  slant : (p r : Pt) → p ∈ c ∷ q → r ∈ c ∷ q → Rises (c ∷ q) p r → Fits (c ∷ q) (edge p r) × Fits (c ∷ q) (edge (flipped r) (flipped p))
  slant p r mp mr h =
      let sx = step_between p.x r.x h.across in
      let sy = step_between p.y r.y h.up in
      let t = slant_thick p.x p.y r.x r.y (Q.low p mp).right₀ (Q.low r mr).below h.across h.up in (
        record { A = r.y -ℤ p.y; B = r.x -ℤ p.x; a_in = sy.0; b_in = sx.1; inner = λ z m. (slant_inner p.x p.y r.x r.y z.x z.y (h.inner z m)).0; thick = t.0 },
        record { A = r.y -ℤ p.y; B = r.x -ℤ p.x; a_in = sy.2; b_in = sx.0; inner = λ z m. (slant_inner p.x p.y r.x r.y z.x z.y (h.inner z m)).1; thick = t.1 },
      )

  -- the right side; where the last corner is on the x axis there is none
  upright : (p : Pt) → p ∈ c ∷ q → p.x ≡ Dx → Next p (flipped p)
  upright p m e = go (le_or_lt (pos 0) p.y)
    where
      flat : (y : ℤ) → pos 0 ≼ y → y ≼ pos 0 → y ≡ neg_ℤ y
      flat = ring 1 _ (λ ρ. simp (reify, ρ) (omega arith))

      rises : (y : ℤ) → y ≺ pos 0 → y ≺ neg_ℤ y
      rises = ring 1 _ (λ ρ. simp (reify, ρ) (omega arith))

      go : (pos 0 ≼ p.y) ⊎ (p.y ≺ pos 0) → Next p (flipped p)
      go (inl h) = inl (λ i. pt p.x (flat p.y h (Q.low p m).below i))
      go (inr h) = inr (record {
        A = neg_ℤ p.y -ℤ p.y;
        B = pos 0;
        a_in = (step_between p.y (neg_ℤ p.y) (rises p.y h)).0;
        b_in = level_between p.x;
        inner = λ z n. upright_inner p.x p.y z.x z.y h (subst (λ w. z.x ≼ w) (sym e) (Q.low z n).wide);
        thick = upright_thick p.x p.y h (subst (λ w. pos 1 ≼ w) (sym e) Q.wide₁);
      })

  -- the top; where the lowest corner is on the y axis there is none
  level : Next (flipped c) (turned c)
  level = go (le_or_lt c.x (pos 0))
    where
      flat : (x : ℤ) → x ≼ pos 0 → pos 0 ≼ x → x ≡ neg_ℤ x
      flat = ring 1 _ (λ ρ. simp (reify, ρ) (omega arith))

      wide : (x : ℤ) → pos 0 ≺ x → neg_ℤ x ≺ x
      wide = ring 1 _ (λ ρ. simp (reify, ρ) (omega arith))

      go : (c.x ≼ pos 0) ⊎ (pos 0 ≺ c.x) → Next (flipped c) (turned c)
      go (inl h) = inl (λ i. pt (flat c.x h (Q.low c (Memᴰ.head refl)).right₀ i) (neg_ℤ c.y))
      go (inr h) = inr (record {
        A = pos 0;
        B = c.x -ℤ neg_ℤ c.x;
        a_in = level_between (neg_ℤ c.y);
        b_in = (step_between (neg_ℤ c.x) c.x (wide c.x h)).0;
        inner = λ z n. level_inner c.x c.y z.x z.y h (subst (λ w. w ≼ z.y) (sym Q.bottom) (Q.low z n).deep);
        thick = level_thick c.x c.y Dy h Q.high₁ Q.bottom;
      })

  -- up the quarter and back
  up : (f p : Pt) (r l : List Pt) → p ∈ c ∷ q → ((z : Pt) → z ∈ r → z ∈ c ∷ q) → Steps (Rises (c ∷ q)) Dx p r → Linked Next f (flipped p) l → Linked Next f p (up_and_back r (flipped p ∷ l))
  unfolding up_and_back
  up f p [] l m s h k = (upright p m h, k)
  up f p (d ∷ r) l m s h k =
      let t = slant p d m (s d (Memᴰ.head refl)) h.0 in
      (inr t.0, up f d r (flipped p ∷ l) (s d (Memᴰ.head refl)) (λ z n. s z (Memᴰ.tail n)) h.1 (inr t.1, k))

  next_turned : (p r : Pt) → Next p r → Next (turned p) (turned r)
  next_turned p r (inl e) = inl (ap turned e)
  next_turned p r (inr e) = inr (fits_turn (c ∷ q) p r e)

  half_turn : (f p : Pt) (l : List Pt) → Linked Next f p l → Linked (λ p r. Next (turned p) (turned r)) f p l
  half_turn f p [] h = next_turned p f h
  half_turn f p (r ∷ l) h = (next_turned p r h.0, half_turn f r l h.1)

  -- the right side, the top, and both turned by half a turn, back to c
  pub all_linked : Linked Next c c (onwards c q)
  unfolding up_and_back
  all_linked =
      let self : c ∈ c ∷ q = Memᴰ.head refl in
      let rest : (z : Pt) → z ∈ q → z ∈ c ∷ q = λ z n. Memᴰ.tail n in
      let back = linked_map Next turned (turned c) c (up_and_back q (flipped c ∷ [])) (half_turn (turned c) c (up_and_back q (flipped c ∷ [])) (up (turned c) c q [] self rest Q.steps level)) in
      up c c q _ self rest Q.steps (level, subst (λ f. Linked Next f (turned c) (map turned (up_and_back q (flipped c ∷ [])))) (turned_twice c) back)
