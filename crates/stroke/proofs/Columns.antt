-- A column is black for a segment in a row exactly when it lies in the extent: the columns that all sides leave, of which a pen bounds both ends.
use mathlib.Core.Path.{◌≡◌, refl, subst}
use mathlib.Core.Logic.{◌⊎◌, inl, inr, ◌↔◌}
use mathlib.Core.Bool.{Bool, true, false, cond}
use mathlib.Core.List.Memᴰ
use mathlib.Core.List.{List, [], ◌∷◌}
use lib.IntN.{ℤ, pos}
use lib.Signed.{clash_ℤ}
use Rattle.integers.specs.Orders.{◌≺◌}
use Rattle.integers.specs.Count.{◌∈◌}
use Rattle.integers.proofs.Order.{le_trans, lt_le}
use Rattle.integers.proofs.Tests.{lez, ltz, clash}
use Rattle.plane.specs.Point.{Pt}
use Rattle.plane.specs.Polygon.{Side, edges, PenLaws}
use Rattle.stroke.specs.Sweep.{Seg, centre}
use Rattle.stroke.specs.Sides.{moved, sides}
use Rattle.stroke.specs.Black.{Black}
use Rattle.stroke.specs.Extent.{Span, none, In, Limit, free, at, Left, upper, lower, narrow, narrowed, span_between, span_of, reached, extent}
use Rattle.stroke.proofs.Sides.{sides_each}
use Rattle.stroke.proofs.Black.{black_iff}
use Rattle.stroke.proofs.Reach.{is_reached}
use Rattle.stroke.proofs.BothWays.{rising_edge, falling_edge}
use Rattle.stroke.proofs.Limits.{Below, Above, Leaves, narrowed_iff}

-- ---- both limits are given
abbrev Given : Limit → Type 0
Given free = ⊥
Given (at q) = Unit

upper_given : (l : Limit) (r : ℤ) → Given (upper l r)
upper_given free r = tt
upper_given (at q) r = tt

lower_given : (l : Limit) (r : ℤ) → Given (lower l r)
lower_given free r = tt
lower_given (at q) r = tt

-- a limit that is given stays given, and a side with a rightward normal gives the one on the right, one with a leftward normal the one on the left
right_given : (j : ℤ) (e : Side) (s : Left) → Given s.most ⊎ (pos 0 ≺ e.a) → Given (narrow j e s).most
right_given j e s h = elim (ltz (pos 0) e.a) [
  | inl k ↦ rw k.0 (upper_given s.most _)
  | inr k ↦ elim h [
    | inr l ↦ clash_ℤ l k.1
    | inl l ↦ elim (ltz e.a (pos 0)) [ inl m ↦ rw (k.0, m.0) l | inr m ↦ rw (k.0, m.0) l ]
  ]
]

left_given : (j : ℤ) (e : Side) (s : Left) → Given s.least ⊎ (e.a ≺ pos 0) → Given (narrow j e s).least
left_given j e s h = elim (ltz (pos 0) e.a) [
  | inl k ↦ elim h [ inl l ↦ rw k.0 l | inr l ↦ clash_ℤ l (lt_le (pos 0) e.a k.1) ]
  | inr k ↦ elim (ltz e.a (pos 0)) [
    | inl m ↦ rw (k.0, m.0) (lower_given s.least _)
    | inr m ↦ elim h [ inl l ↦ rw (k.0, m.0) l | inr l ↦ clash_ℤ l m.1 ]
  ]
]

-- so after all sides it is given where one of them gives it
module _ (j : ℤ) where
  most_given : (l : List Side) (s : Left) → Given s.most ⊎ ((e : Side) × (e ∈ l) × (pos 0 ≺ e.a)) → Given (narrowed j l s).most
  unfolding narrowed
  most_given [] s (inl h) = h
  most_given [] s (inr (e, m, h)) = absurd (Memᴰ.not-nil m)
  most_given (e ∷ l) s (inl h) = most_given l (narrow j e s) (inl (right_given j e s (inl h)))
  most_given (e ∷ l) s (inr (f, Memᴰ.head q, h)) = most_given l (narrow j e s) (inl (right_given j e s (inr (subst (λ (d : Side). pos 0 ≺ d.a) q h))))
  most_given (e ∷ l) s (inr (f, Memᴰ.tail m, h)) = most_given l (narrow j e s) (inr (f, m, h))

  least_given : (l : List Side) (s : Left) → Given s.least ⊎ ((e : Side) × (e ∈ l) × (e.a ≺ pos 0)) → Given (narrowed j l s).least
  unfolding narrowed
  least_given [] s (inl h) = h
  least_given [] s (inr (e, m, h)) = absurd (Memᴰ.not-nil m)
  least_given (e ∷ l) s (inl h) = least_given l (narrow j e s) (inl (left_given j e s (inl h)))
  least_given (e ∷ l) s (inr (f, Memᴰ.head q, h)) = least_given l (narrow j e s) (inl (left_given j e s (inr (subst (λ (d : Side). d.a ≺ pos 0) q h))))
  least_given (e ∷ l) s (inr (f, Memᴰ.tail m, h)) = least_given l (narrow j e s) (inr (f, m, h))

-- ---- the span of what is left
module _ (i : ℤ) where
  between_iff : (l r : Limit) → Given l → Given r → In (span_between l r) i ↔ (Above l i × Below r i)
  between_iff free r gl gr = absurd gl
  between_iff (at l) free gl gr = absurd gr
  between_iff (at l) (at r) gl gr = elim (lez l r) [
    | inl h ↦ rw h.0 ((λ m. m), λ m. m)
    | inr h ↦ rw h.0 ((λ m. absurd m), λ m. clash_ℤ h.1 (le_trans l i r m.0 m.1))
  ]

  if_iff : (t : Bool) (s : Span) → In (cond t s none) i ↔ ((t ≡ true) × In s i)
  if_iff true s = ((λ m. (refl, m)), λ m. m.1)
  if_iff false s = ((λ m. absurd m), λ m. absurd (clash m.0 refl))

  span_iff : (s : Left) → Given s.least → Given s.most → In (span_of s) i ↔ Leaves s i
  span_iff s gl gr =
      let c = if_iff s.some (span_between s.least s.most) in
      let b = between_iff s.least s.most gl gr in
      ((λ m. let k = c.0 m in let h = b.0 k.1 in record { any = k.0; lo = h.0; hi = h.1 }), λ m. c.1 (m.any, b.1 (m.lo, m.hi)))

-- ---- the extent
-- before the first side everything is left
abbrev start : Left
start = record { some = true; least = free; most = free }

module _ (cs : List Pt) (Dx Dy : ℤ) (pen : PenLaws cs Dx Dy) (g : Seg) (i j : ℤ) where
  -- each edge of the pen, moved, is a side with the same normal
  on_side : (e : Side) → e ∈ edges cs → moved g e ∈ sides cs g
  on_side = (sides_each (λ e. e ∈ sides cs g) cs g (λ e m. m)).edgewise

  -- with a rising and a falling edge both limits are given, so the columns of the span are those that all sides allow
  left_black : In (span_of (narrowed j (sides cs g) start)) i ↔ Black cs g (centre i j)
  left_black =
      let r = rising_edge cs Dx Dy pen in
      let f = falling_edge cs Dx Dy pen in
      let l = least_given j (sides cs g) start (inr (moved g f.0, on_side f.0 f.1, f.2)) in
      let m = most_given j (sides cs g) start (inr (moved g r.0, on_side r.0 r.1, r.2)) in
      let s = span_iff i (narrowed j (sides cs g) start) l m in
      let n = narrowed_iff i j (sides cs g) start in
      let b = black_iff cs Dx Dy pen g (centre i j) in
      ((λ m. b.1 (n.0 (s.0 m)).1), λ h. s.1 (n.1 (record { any = refl; lo = tt; hi = tt }, b.0 h)))

  -- a row out of reach has no black column anyway
  pub extent_iff : In (extent cs g j) i ↔ Black cs g (centre i j)
  unfolding extent
  extent_iff =
      let c = if_iff i (reached cs g j) (span_of (narrowed j (sides cs g) start)) in
      ((λ m. left_black.0 (c.0 m).1), λ h. c.1 (is_reached cs Dx Dy pen g i j h.swept, left_black.1 h))
