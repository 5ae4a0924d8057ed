-- The sides of a segment are the moved edges of the pen, and the two along the path where its ends differ: what holds of each of these holds of all, and back.
use mathlib.Core.Path.{◌≡◌, refl, sym, subst}
use mathlib.Core.Logic.{◌⊎◌, inl, inr}
use mathlib.Core.Bool.{Bool, true, false, cond}
use mathlib.Core.List.Memᴰ
use mathlib.Core.List.{List, [], ◌∷◌, map}
use lib.IntN.{neg_ℤ, ◌-ℤ◌}
use Rattle.integers.specs.Orders.{◌≼◌}
use Rattle.integers.specs.Compare.{eq_z}
use Rattle.integers.specs.Count.{◌∈◌}
use Rattle.integers.proofs.Tests.{and_both, clash, eqz}
use Rattle.plane.specs.Point.{Pt, same}
use Rattle.plane.specs.Polygon.{Side, dot, edges}
use Rattle.stroke.specs.Sweep.{Seg}
use Rattle.stroke.specs.Sides.{moved, touching, path_sides, sides}

-- X is on the inner side of e, or on its line
abbrev pub Meets : Pt → Side → Type 0
Meets X e = dot e.a e.b X ≼ e.c

-- a property of each kind of sides
pub record OfSides (Q : Side → Type 0) (cs : List Pt) (g : Seg) : Type 0 where
  pub edgewise : (e : Side) → e ∈ edges cs → Q (moved g e)
  pub path : same g.from g.to ≡ false →
      Q (touching cs g.from (g.to.y -ℤ g.from.y) (neg_ℤ (g.to.x -ℤ g.from.x))) ×
      Q (touching cs g.from (neg_ℤ (g.to.y -ℤ g.from.y)) (g.to.x -ℤ g.from.x))

-- two elements that are there unless the test is passed
if_two : (t : Bool) (p q : Side) → t ≡ false → (p ∈ cond t [] (p ∷ q ∷ [])) × (q ∈ cond t [] (p ∷ q ∷ []))
if_two true p q e = absurd (clash refl e)
if_two false p q e = (Memᴰ.head refl, Memᴰ.tail (Memᴰ.head refl))

two_if : (t : Bool) (p q : Side) {e : Side} → e ∈ cond t [] (p ∷ q ∷ []) → (t ≡ false) × ((e ≡ p) ⊎ (e ≡ q))
two_if true p q m = absurd (Memᴰ.not-nil m)
two_if false p q (Memᴰ.head h) = (refl, inl h)
two_if false p q (Memᴰ.tail (Memᴰ.head h)) = (refl, inr h)
two_if false p q (Memᴰ.tail (Memᴰ.tail m)) = absurd (Memᴰ.not-nil m)

module _ (Q : Side → Type 0) (cs : List Pt) (g : Seg) where
  pub sides_each : ((e : Side) → e ∈ sides cs g → Q e) → OfSides Q cs g
  unfolding sides
  sides_each h = record {
    edgewise = λ e m. h _ (Memᴰ.append_left (path_sides cs g) (Memᴰ.map (moved g) m));
    path = λ d. let r = if_two _ _ _ d in (h _ (Memᴰ.append_right (map (moved g) (edges cs)) r.0), h _ (Memᴰ.append_right (map (moved g) (edges cs)) r.1));
  }

  pub each_side : OfSides Q cs g → (e : Side) → e ∈ sides cs g → Q e
  unfolding sides
  each_side h e m = go (Memᴰ.append_cases (map (moved g) (edges cs)) m)
    where
      pick : (p q : Side) → Q p × Q q → (e ≡ p) ⊎ (e ≡ q) → Q e
      pick p q k (inl h) = subst Q (sym h) k.0
      pick p q k (inr h) = subst Q (sym h) k.1

      go : (e ∈ map (moved g) (edges cs)) ⊎ (e ∈ path_sides cs g) → Q e
      go (inl k) = let r = Memᴰ.of_map (moved g) (edges cs) k in subst Q r.2 (h.edgewise r.0 r.1)
      go (inr k) = let r = two_if (same g.from g.to) _ _ k in pick _ _ (h.path r.0) r.1

-- the two ends of a segment are equal, or the test says that they differ
pub same_or_differ : (A B : Pt) → ((A.x ≡ B.x) × (A.y ≡ B.y)) ⊎ (same A B ≡ false)
same_or_differ A B = go (same A B) refl
  where
    go : (t : Bool) → same A B ≡ t → ((A.x ≡ B.x) × (A.y ≡ B.y)) ⊎ (t ≡ false)
    go true e = let h = and_both (eq_z A.x B.x) (eq_z A.y B.y) e in inl (eqz A.x B.x h.0, eqz A.y B.y h.1)
    go false e = inr refl
