-- A segment whose heights count from row j has in row 0 what the segment has in row j: its sides have the same room there, and so leave the same columns.
use mathlib.Core.Path.{◌≡◌, refl, sym, ap, ap₂, ◌∙◌}
use mathlib.Core.Bool.{Bool, true, false, cond, ◌&&◌}
use mathlib.Core.List.{List, [], ◌∷◌, ◌++◌, map, map-append}
use native.Mathlib.Omega.{arith}
use mathlib.Core.Logic.{◌↔◌}
use lib.IntN.{ℤ, pos, neg_ℤ, ◌+ℤ◌, ◌-ℤ◌, ◌*ℤ◌}
use lib.Signed.{le_z, lt_z}
use Rattle.integers.specs.Orders.{◌≼◌, ◌≺◌}
use Rattle.integers.specs.Compare.{min_z, max_z, eq_z}
use Rattle.integers.proofs.Ring.{ring, reify}
use Rattle.integers.proofs.Tests.{same_le, same_lt}
use Rattle.plane.specs.Point.{Pt, same}
use Rattle.plane.specs.Polygon.{Side, dot, edges, reach}
use Rattle.stroke.specs.Sweep.{Seg, centre}
use Rattle.stroke.specs.Sides.{moved, furthest, touching, path_sides, sides}
use Rattle.stroke.specs.Extent.{Left, room, within, upper, lower, narrow, narrowed, reached}
use Rattle.ties.specs.Kept.{kept}
use Rattle.extent.specs.Held.{last_to, lowered, from_row}

-- ---- numbers less d each
less_le : (d x y : ℤ) → (x -ℤ d ≼ y -ℤ d) ↔ (x ≼ y)
less_le = ring 3 _ (simp reify (omega arith))

less_max : (d x y : ℤ) → max_z (x -ℤ d) (y -ℤ d) ≡ max_z x y -ℤ d
less_max d x y = ap (λ (t : Bool). cond t (y -ℤ d) (x -ℤ d)) (same_le (less_le d x y)) ∙ out (le_z x y)
  where
    out : (t : Bool) → cond t (y -ℤ d) (x -ℤ d) ≡ cond t y x -ℤ d
    out true = refl
    out false = refl

less_min : (d x y : ℤ) → min_z (x -ℤ d) (y -ℤ d) ≡ min_z x y -ℤ d
less_min d x y = ap (λ (t : Bool). cond t (x -ℤ d) (y -ℤ d)) (same_le (less_le d x y)) ∙ out (le_z x y)
  where
    out : (t : Bool) → cond t (x -ℤ d) (y -ℤ d) ≡ cond t x y -ℤ d
    out true = refl
    out false = refl

less_eq : (d x y : ℤ) → eq_z (x -ℤ d) (y -ℤ d) ≡ eq_z x y
less_eq d x y = ap₂ ◌&&◌ (same_le (less_le d x y)) (same_le (less_le d y x))

less_both : (d x y : ℤ) → x -ℤ d -ℤ (y -ℤ d) ≡ x -ℤ y
less_both = ring 3 _ (simp reify (omega arith))

-- ---- how far out a point lies that is lower by d, and the lines through it
dots : (d a b x y : ℤ) → a *ℤ x +ℤ b *ℤ (y -ℤ d) ≡ a *ℤ x +ℤ b *ℤ y -ℤ b *ℤ d
dots = ring 5 _ (simp reify (omega arith))

eights : (d b c z : ℤ) → pos 8 *ℤ c +ℤ (z -ℤ b *ℤ d) ≡ pos 8 *ℤ c +ℤ z -ℤ b *ℤ d
eights = ring 4 _ (λ ρ. simp (reify, ρ) (omega arith))

-- ---- one side in row 0
pub no_less : (b c : ℤ) → c -ℤ b *ℤ pos 0 ≡ c
no_less = ring 2 _ (λ ρ. simp (reify, ρ) (omega arith))

module _ (j : ℤ) where
  -- the side, counted from row j
  abbrev counted : Side → Side
  counted e = record { a = e.a; b = e.b; c = room j e }

  -- the rule of a side, by its room and whether it leaves the row where it is flat
  abbrev ruled : Side → Left → ℤ → Bool → Left
  ruled e s r t =
      cond (lt_z (pos 0) e.a) (record { some = s.some; least = s.least; most = upper s.most (last_to r e.a) })
      (cond (lt_z e.a (pos 0)) (record { some = s.some; least = lower s.least (last_to (neg_ℤ r) (neg_ℤ e.a) +ℤ pos 1); most = s.most })
      (record { some = s.some && t; least = s.least; most = s.most }))

  flat_le : (x b d c : ℤ) → (x +ℤ b *ℤ pos 0 ≼ c -ℤ b *ℤ d) ↔ (x +ℤ b *ℤ d ≼ c)
  flat_le = ring 4 _ (λ ρ. simp (reify, ρ) (omega arith))

  flat_lt : (x b d c : ℤ) → (x +ℤ b *ℤ pos 0 ≺ c -ℤ b *ℤ d) ↔ (x +ℤ b *ℤ d ≺ c)
  flat_lt = ring 4 _ (λ ρ. simp (reify, ρ) (omega arith))

  within_counted : (e : Side) → within (centre (pos 0) (pos 0)) (counted e) ≡ within (centre (pos 0) j) e
  within_counted e =
      let x = e.a *ℤ pos 0 in
      let d = pos 16 *ℤ j in
      ap₂ (cond (kept e.a e.b)) (same_le (flat_le x e.b d e.c)) (same_lt (flat_lt x e.b d e.c))

  narrow_counted : (e : Side) (s : Left) → narrow (pos 0) (counted e) s ≡ narrow j e s
  narrow_counted e s = ap₂ (ruled e s) (no_less e.b (room j e)) (within_counted e)

  narrowed_counted : (l : List Side) (s : Left) → narrowed (pos 0) (map counted l) s ≡ narrowed j l s
  unfolding narrowed
  narrowed_counted [] s = refl
  narrowed_counted (e ∷ l) s = ap (narrowed (pos 0) (map counted l)) (narrow_counted e s) ∙ narrowed_counted l (narrow j e s)

  -- ---- the sides of a segment: the moved edges
  moved_from : (g : Seg) (e : Side) → moved (from_row j g) e ≡ counted (moved g e)
  moved_from g e =
      let d = pos 16 *ℤ j in
      let A = dot e.a e.b g.from in
      let B = dot e.a e.b g.to in
      let further = ap₂ max_z (dots d e.a e.b g.from.x g.from.y) (dots d e.a e.b g.to.x g.to.y) ∙ less_max (e.b *ℤ d) A B in
      ap (λ (c : ℤ). record { a = e.a; b = e.b; c = c }) (ap (λ (z : ℤ). pos 8 *ℤ e.c +ℤ z) further ∙ eights d e.b e.c (max_z A B))

  all_moved : (g : Seg) (l : List Side) → map (moved (from_row j g)) l ≡ map counted (map (moved g) l)
  all_moved g [] = refl
  all_moved g (e ∷ l) = ap₂ ◌∷◌ (moved_from g e) (all_moved g l)

  -- ---- and the two along the path
  touching_from : (cs : List Pt) (P : Pt) (a b : ℤ) → touching cs (lowered j P) a b ≡ counted (touching cs P a b)
  touching_from cs P a b =
      let d = pos 16 *ℤ j in
      let F = furthest a b cs in
      ap (λ (c : ℤ). record { a = a; b = b; c = c }) (ap (λ (z : ℤ). pos 8 *ℤ F +ℤ z) (dots d a b P.x P.y) ∙ eights d b F (dot a b P))

  path_from : (cs : List Pt) (g : Seg) → path_sides cs (from_row j g) ≡ map counted (path_sides cs g)
  path_from cs g =
      let d = pos 16 *ℤ j in
      let A = g.from in
      let B = g.to in
      let u = B.x -ℤ A.x in
      let v = B.y -ℤ A.y in
      let turned : ℤ → List Side = λ v. touching cs (lowered j A) v (neg_ℤ u) ∷ touching cs (lowered j A) (neg_ℤ v) u ∷ [] in
      ap₂ (λ (t : Bool) (v : ℤ). cond t [] (turned v)) (ap (λ (t : Bool). eq_z A.x B.x && t) (less_eq d A.y B.y)) (less_both d B.y A.y)
      ∙ two (same A B) (touching cs A v (neg_ℤ u)) (touching cs A (neg_ℤ v) u) (touching_from cs A v (neg_ℤ u)) (touching_from cs A (neg_ℤ v) u)
    where
      two : (t : Bool) (p q : Side) {p' q' : Side} → p' ≡ counted p → q' ≡ counted q → cond t [] (p' ∷ q' ∷ []) ≡ map counted (cond t [] (p ∷ q ∷ []))
      two true p q h k = refl
      two false p q h k = rw (h, k)

  module _ (cs : List Pt) (g : Seg) where
    sides_from : sides cs (from_row j g) ≡ map counted (sides cs g)
    unfolding sides
    sides_from = ap₂ ◌++◌ (all_moved g (edges cs)) (path_from cs g) ∙ sym (map-append counted (map (moved g) (edges cs)) (path_sides cs g))

    -- so all of them leave the same, and the row is within reach of both or of none
    pub narrowed_from : (s : Left) → narrowed (pos 0) (sides cs (from_row j g)) s ≡ narrowed j (sides cs g) s
    narrowed_from s = ap (λ (l : List Side). narrowed (pos 0) l s) sides_from ∙ narrowed_counted (sides cs g) s

    pub reached_from : reached cs (from_row j g) (pos 0) ≡ reached cs g j
    reached_from =
        let d = pos 16 *ℤ j in
        let y = g.from.y in
        let z = g.to.y in
        let r = pos 8 *ℤ reach cs in
        ap₂ (λ (l h : ℤ). le_z (l -ℤ r) (pos 0) && le_z (pos 0) (h +ℤ r)) (less_min d y z) (less_max d y z)
        ∙ ap₂ ◌&&◌ (same_le (below d (min_z y z) r)) (same_le (above d (max_z y z) r))
      where
        below : (d l r : ℤ) → (l -ℤ d -ℤ r ≼ pos 0) ↔ (l -ℤ r ≼ d)
        below = ring 3 _ (λ ρ. simp (reify, ρ) (omega arith))

        above : (d h r : ℤ) → (pos 0 ≼ h -ℤ d +ℤ r) ↔ (d ≼ h +ℤ r)
        above = ring 3 _ (λ ρ. simp (reify, ρ) (omega arith))
