-- Sides narrow a row in any order: the least of all bounds, the greatest of all bounds and the test of all flat sides do not depend on it.
use mathlib.Core.Path.{◌≡◌, refl, ap, ◌∙◌}
use mathlib.Core.Bool.{Bool, true, false, cond, ◌&&◌}
use mathlib.Core.List.{List, [], ◌∷◌}
use lib.IntN.{ℤ, pos, neg_ℤ, ◌+ℤ◌}
use lib.Signed.{lt_z}
use Rattle.integers.specs.Orders.{◌≼◌}
use Rattle.integers.specs.Compare.{min_z, max_z}
use Rattle.integers.proofs.Order.{le_trans, le_antisymm}
use Rattle.integers.proofs.Tests.{min_l, min_r, le_min, max_l, max_r, max_le}
use Rattle.plane.specs.Polygon.{Side}
use Rattle.stroke.specs.Sweep.{centre}
use Rattle.stroke.specs.Extent.{Limit, free, at, Left, room, within, upper, lower, narrow, narrowed}
use Rattle.extent.specs.Held.{last_to}

-- ---- two bounds more
min_turn : (x y : ℤ) → min_z x y ≡ min_z y x
min_turn x y = le_antisymm (min_z x y) (min_z y x) (half x y) (half y x)
  where
    half : (x y : ℤ) → min_z x y ≼ min_z y x
    half x y = le_min y x (min_z x y) (min_r x y) (min_l x y)

min_swap : (q x y : ℤ) → min_z (min_z q x) y ≡ min_z (min_z q y) x
min_swap q x y = le_antisymm (min_z (min_z q x) y) (min_z (min_z q y) x) (half x y) (half y x)
  where
    half : (x y : ℤ) → min_z (min_z q x) y ≼ min_z (min_z q y) x
    half x y =
        let m = min_z (min_z q x) y in
        let l = min_l (min_z q x) y in
        le_min (min_z q y) x m (le_min q y m (le_trans m (min_z q x) q l (min_l q x)) (min_r (min_z q x) y)) (le_trans m (min_z q x) x l (min_r q x))

max_turn : (x y : ℤ) → max_z x y ≡ max_z y x
max_turn x y = le_antisymm (max_z x y) (max_z y x) (half x y) (half y x)
  where
    half : (x y : ℤ) → max_z x y ≼ max_z y x
    half x y = max_le x y (max_z y x) (max_r y x) (max_l y x)

max_swap : (q x y : ℤ) → max_z (max_z q x) y ≡ max_z (max_z q y) x
max_swap q x y = le_antisymm (max_z (max_z q x) y) (max_z (max_z q y) x) (half x y) (half y x)
  where
    half : (x y : ℤ) → max_z (max_z q x) y ≼ max_z (max_z q y) x
    half x y =
        let m = max_z (max_z q y) x in
        let l = max_l (max_z q y) x in
        max_le (max_z q x) y m (max_le q x m (le_trans q (max_z q y) m (max_l q y) l) (max_r (max_z q y) x)) (le_trans y (max_z q y) m (max_r q y) l)

upper_swap : (l : Limit) (x y : ℤ) → upper (upper l x) y ≡ upper (upper l y) x
upper_swap free x y = ap at (min_turn x y)
upper_swap (at q) x y = ap at (min_swap q x y)

lower_swap : (l : Limit) (x y : ℤ) → lower (lower l x) y ≡ lower (lower l y) x
lower_swap free x y = ap at (max_turn x y)
lower_swap (at q) x y = ap at (max_swap q x y)

and_swap : (s t u : Bool) → ((s && t) && u) ≡ ((s && u) && t)
and_swap false t u = refl
and_swap true true true = refl
and_swap true true false = refl
and_swap true false true = refl
and_swap true false false = refl

-- ---- two sides more, each by its rule: to the right, to the left, or flat
abbrev ruled : Bool → Bool → ℤ → ℤ → Bool → Left → Left
ruled right left m l t s =
    cond right (record { some = s.some; least = s.least; most = upper s.most m })
    (cond left (record { some = s.some; least = lower s.least l; most = s.most }) (record { some = s.some && t; least = s.least; most = s.most }))

ruled_swap : (p q : Bool) (m l : ℤ) (t : Bool) (p' q' : Bool) (m' l' : ℤ) (t' : Bool) (s : Left) →
    ruled p q m l t (ruled p' q' m' l' t' s) ≡ ruled p' q' m' l' t' (ruled p q m l t s)
ruled_swap true q m l t true q' m' l' t' s = ap (λ (b : Limit). record { some = s.some; least = s.least; most = b }) (upper_swap s.most m' m)
ruled_swap true q m l t false true m' l' t' s = refl
ruled_swap true q m l t false false m' l' t' s = refl
ruled_swap false true m l t true q' m' l' t' s = refl
ruled_swap false true m l t false true m' l' t' s = ap (λ (b : Limit). record { some = s.some; least = b; most = s.most }) (lower_swap s.least l' l)
ruled_swap false true m l t false false m' l' t' s = refl
ruled_swap false false m l t true q' m' l' t' s = refl
ruled_swap false false m l t false true m' l' t' s = refl
ruled_swap false false m l t false false m' l' t' s = ap (λ (b : Bool). record { some = b; least = s.least; most = s.most }) (and_swap s.some t' t)

module _ (j : ℤ) where
  narrow_swap : (e f : Side) (s : Left) → narrow j e (narrow j f s) ≡ narrow j f (narrow j e s)
  narrow_swap e f s =
      ruled_swap (lt_z (pos 0) e.a) (lt_z e.a (pos 0)) (last_to (room j e) e.a) (last_to (neg_ℤ (room j e)) (neg_ℤ e.a) +ℤ pos 1) (within (centre (pos 0) j) e)
      (lt_z (pos 0) f.a) (lt_z f.a (pos 0)) (last_to (room j f) f.a) (last_to (neg_ℤ (room j f)) (neg_ℤ f.a) +ℤ pos 1) (within (centre (pos 0) j) f) s

  -- so a side may come after all others or before them
  pub narrow_past : (e : Side) (l : List Side) (s : Left) → narrow j e (narrowed j l s) ≡ narrowed j l (narrow j e s)
  unfolding narrowed
  narrow_past e [] s = refl
  narrow_past e (f ∷ l) s = narrow_past e l (narrow j f s) ∙ ap (narrowed j l) (narrow_swap e f s)
