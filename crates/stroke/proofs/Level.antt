-- Line weight, the band: on a level path a centre whose column is far enough inside is black exactly when it lies in the band of the pen's height around the path, with one
-- of its two lines and without the other, whichever of them the rule of kept sides takes. The path's own two sides are those lines. An edge with a part to the right stands
-- at the right end and one with a part to the left at the left end, both beyond the column; a level edge is one of the two lines or lies further out.
use mathlib.Core.Path.{◌≡◌, refl, sym, ◌∙◌, ap, subst}
use mathlib.Core.Logic.Iff
use mathlib.Core.Logic.{◌⊎◌, inl, inr, ◌↔◌}
use mathlib.Core.Bool.{Bool, true, false, not, cond}
use mathlib.Core.List.{List}
use native.Mathlib.Omega.{arith}
use lib.IntN.{ℤ, pos, neg_ℤ, ◌+ℤ◌, ◌-ℤ◌, ◌*ℤ◌}
use lib.Signed.{le_z}
use Rattle.integers.specs.Orders.{◌≼◌, ◌≺◌}
use Rattle.integers.specs.Compare.{min_z, max_z}
use Rattle.integers.specs.Count.{◌∈◌}
use Rattle.integers.proofs.Ring.{ring, reify, ◌⊢◌}
use Rattle.integers.proofs.Order.{mul_nn, sub_nn, sub_pos, le_or_lt, le_antisymm, le_trans, lt_le}
use Rattle.integers.proofs.Signs.{neg_below, neg_above, times_le, times_lt}
use Rattle.integers.proofs.Tests.{max_l, max_r}
use Rattle.plane.specs.Point.{Pt, same}
use Rattle.plane.specs.Polygon.{Side, dot, edges, PenLaws}
use Rattle.ties.specs.Kept.{kept}
use Rattle.ties.proofs.Laws.{flat_up, flat_down}
use Rattle.stroke.specs.Sweep.{Seg}
use Rattle.stroke.specs.Sides.{moved, furthest, touching}
use Rattle.stroke.specs.Black.{Black}
use Rattle.stroke.proofs.Corners.{edge_normal, corner_opposite, furthest_corner}
use Rattle.stroke.proofs.Sides.{sides_each, each_side, same_or_differ}
use Rattle.stroke.proofs.Black.{Allows, allows_kept, allows_dropped, black_iff}
use Rattle.stroke.proofs.Furthest.{furthest_down, furthest_up}
use Rattle.stroke.proofs.Window.{Band}

-- ---- the two sides along the path
-- Heights are whole: a band that takes its lower line instead of the upper one is the band a unit lower that takes the upper one. So one band serves either way up: the one
-- around the path where a side that points up is kept, and around a unit below it where one that points down is.
abbrev pub middle : Bool → ℤ → ℤ
middle t ay = cond t ay (ay -ℤ pos 1)

-- such a side by itself, with its line and without
high_with : (b h D x y ax ay : ℤ) → h ≡ b *ℤ D → (pos 0 *ℤ x +ℤ b *ℤ y ≼ pos 8 *ℤ h +ℤ (pos 0 *ℤ ax +ℤ b *ℤ ay)) ↔ (b *ℤ (y -ℤ ay) ≼ b *ℤ (pos 8 *ℤ D))
high_with = ring 7 _ (λ ρ e. rw e (simp (reify, ρ) (omega arith)))

high_without : (b h D x y ax ay : ℤ) → h ≡ b *ℤ D → (pos 0 *ℤ x +ℤ b *ℤ y ≺ pos 8 *ℤ h +ℤ (pos 0 *ℤ ax +ℤ b *ℤ ay)) ↔ (b *ℤ (y -ℤ ay) ≺ b *ℤ (pos 8 *ℤ D))
high_without = ring 7 _ (λ ρ e. rw e (simp (reify, ρ) (omega arith)))

low_with : (b h D x y ax ay : ℤ) → h ≡ neg_ℤ b *ℤ D → (pos 0 *ℤ x +ℤ b *ℤ y ≼ pos 8 *ℤ h +ℤ (pos 0 *ℤ ax +ℤ b *ℤ ay)) ↔ (neg_ℤ b *ℤ neg_ℤ (pos 8 *ℤ D) ≼ neg_ℤ b *ℤ (y -ℤ ay))
low_with = ring 7 _ (λ ρ e. rw e (simp (reify, ρ) (omega arith)))

low_without : (b h D x y ax ay : ℤ) → h ≡ neg_ℤ b *ℤ D → (pos 0 *ℤ x +ℤ b *ℤ y ≺ pos 8 *ℤ h +ℤ (pos 0 *ℤ ax +ℤ b *ℤ ay)) ↔ (neg_ℤ b *ℤ neg_ℤ (pos 8 *ℤ D) ≺ neg_ℤ b *ℤ (y -ℤ ay))
low_without = ring 7 _ (λ ρ e. rw e (simp (reify, ρ) (omega arith)))

-- the same a unit lower
unit_high : (y ay c : ℤ) → (y -ℤ ay ≺ c) ↔ (y -ℤ (ay -ℤ pos 1) ≼ c)
unit_high = ring 3 _ (λ ρ. simp (reify, ρ) (omega arith))

unit_low : (y ay c : ℤ) → (c ≼ y -ℤ ay) ↔ (c ≺ y -ℤ (ay -ℤ pos 1))
unit_low = ring 3 _ (λ ρ. simp (reify, ρ) (omega arith))

module _ (cs : List Pt) (Dx Dy : ℤ) (pen : PenLaws cs Dx Dy) (A X : Pt) where
  high_iff : (t : Bool) → kept (pos 0) (pos 1) ≡ t → (b : ℤ) → pos 0 ≺ b → Allows X (touching cs A (pos 0) b) ↔ (X.y -ℤ middle t A.y ≼ pos 8 *ℤ Dy)
  high_iff true e b h =
      Iff.trans (allows_kept (flat_up b h ∙ e))
      (Iff.trans (high_with b (furthest (pos 0) b cs) Dy X.x X.y A.x A.y (furthest_up cs Dx Dy pen b h)) (times_le b (X.y -ℤ A.y) (pos 8 *ℤ Dy) h))
  high_iff false e b h =
      Iff.trans (allows_dropped (flat_up b h ∙ e))
      (Iff.trans (high_without b (furthest (pos 0) b cs) Dy X.x X.y A.x A.y (furthest_up cs Dx Dy pen b h))
      (Iff.trans (times_lt b (X.y -ℤ A.y) (pos 8 *ℤ Dy) h) (unit_high X.y A.y (pos 8 *ℤ Dy))))

  low_iff : (t : Bool) → kept (pos 0) (pos 1) ≡ t → (b : ℤ) → b ≺ pos 0 → Allows X (touching cs A (pos 0) b) ↔ (neg_ℤ (pos 8 *ℤ Dy) ≺ X.y -ℤ middle t A.y)
  low_iff true e b h =
      Iff.trans (allows_dropped (flat_down b h ∙ ap not e))
      (Iff.trans (low_without b (furthest (pos 0) b cs) Dy X.x X.y A.x A.y (furthest_down cs Dx Dy pen b h))
      (times_lt (neg_ℤ b) (neg_ℤ (pos 8 *ℤ Dy)) (X.y -ℤ A.y) (neg_above b h)))
  low_iff false e b h =
      Iff.trans (allows_kept (flat_down b h ∙ ap not e))
      (Iff.trans (low_with b (furthest (pos 0) b cs) Dy X.x X.y A.x A.y (furthest_down cs Dx Dy pen b h))
      (Iff.trans (times_le (neg_ℤ b) (neg_ℤ (pos 8 *ℤ Dy)) (X.y -ℤ A.y) (neg_above b h)) (unit_low X.y A.y (neg_ℤ (pos 8 *ℤ Dy)))))

-- ---- an edge of normal (a, b) and offset ce: it is no nearer than b times the pen's height
-- of a corner and its mirror image one is at least as far out as a = 0 would make it
upright : (a b x y ce : ℤ) → a *ℤ x +ℤ b *ℤ y ≼ ce → a *ℤ neg_ℤ x +ℤ b *ℤ y ≼ ce → b *ℤ y ≼ ce
upright = ring 5 _ (simp reify (omega arith))

-- so it is that far above the path, for either sign of b
band_le : (b dy zy D ce : ℤ) → zy ≡ neg_ℤ D → b *ℤ zy ≼ ce → b *ℤ neg_ℤ zy ≼ ce → neg_ℤ (pos 8 *ℤ D) ≼ dy → dy ≼ pos 8 *ℤ D → b *ℤ dy ≼ pos 8 *ℤ ce
band_le b dy zy D ce e h1 h2 lo hi = elim (le_or_lt (pos 0) b) [ inl k ↦ above b dy zy D ce e h2 hi k | inr k ↦ below b dy zy D ce e h1 lo k ]
  where
    above : (b dy zy D ce : ℤ) → zy ≡ neg_ℤ D → b *ℤ neg_ℤ zy ≼ ce → dy ≼ pos 8 *ℤ D → pos 0 ≼ b → b *ℤ dy ≼ pos 8 *ℤ ce
    above = ring 5 _ (λ ρ e h hi k. mul_nn k (sub_nn hi) ⊢ (rw e at h) ⊢ k ⊢ simp (reify, ρ) (omega arith))

    below : (b dy zy D ce : ℤ) → zy ≡ neg_ℤ D → b *ℤ zy ≼ ce → neg_ℤ (pos 8 *ℤ D) ≼ dy → b ≺ pos 0 → b *ℤ dy ≼ pos 8 *ℤ ce
    below = ring 5 _ (λ ρ e h lo k. mul_nn (sub_pos k) (sub_nn lo) ⊢ (rw e at h) ⊢ lo ⊢ simp (reify, ρ) (omega arith))

-- the end beyond the column, on the side to which the normal points
left_of : (a x ex D : ℤ) → a ≺ pos 0 → pos 1 ≼ D → ex +ℤ pos 8 *ℤ D ≼ x → a *ℤ (x -ℤ ex) ≺ pos 0
left_of = ring 4 _ (λ ρ ha hD h. mul_nn (sub_pos ha) (sub_nn h) ⊢ mul_nn (sub_pos ha) (sub_nn hD) ⊢ ha ⊢ h ⊢ hD ⊢ simp (reify, ρ) (omega arith))

right_of : (a x ex D : ℤ) → pos 0 ≺ a → pos 1 ≼ D → x ≼ ex -ℤ pos 8 *ℤ D → a *ℤ (x -ℤ ex) ≺ pos 0
right_of = ring 4 _ (λ ρ ha hD h. mul_nn (sub_pos ha) (sub_nn h) ⊢ mul_nn (sub_pos ha) (sub_nn hD) ⊢ ha ⊢ h ⊢ hD ⊢ simp (reify, ρ) (omega arith))

-- m is the greater of the edge's values at the two ends
slanted_lt : (a b ce x y ex ey ay m : ℤ) → ey ≡ ay → a *ℤ ex +ℤ b *ℤ ey ≼ m → b *ℤ (y -ℤ ay) ≼ pos 8 *ℤ ce → a *ℤ (x -ℤ ex) ≺ pos 0 → a *ℤ x +ℤ b *ℤ y ≺ pos 8 *ℤ ce +ℤ m
slanted_lt = ring 9 _ (λ ρ e h k l. (rw e at h) ⊢ k ⊢ l ⊢ simp (reify, ρ) (omega arith))

-- a side that lies further out allows what a nearer one does
further_lt : (p c d : ℤ) → p ≺ c → c ≼ d → p ≺ d
further_lt = ring 3 _ (simp reify (omega arith))

further : (X : Pt) (a b c d : ℤ) → c ≼ d → Allows X (record { a = a; b = b; c = c }) → Allows X (record { a = a; b = b; c = d })
further X a b c d h w = record { with = λ k. le_trans (dot a b X) c d (w.with k) h; without = λ k. further_lt (dot a b X) c d (w.without k) h }

offsets : (f ce p m : ℤ) → f ≼ ce → p ≼ m → pos 8 *ℤ f +ℤ p ≼ pos 8 *ℤ ce +ℤ m
offsets = ring 4 _ (λ ρ. simp (reify, ρ) (omega arith))

-- an edge, moved, lies no nearer than the line through the segment's start that touches the pen
touching_moved : (cs : List Pt) (Dx Dy : ℤ) → PenLaws cs Dx Dy → (g : Seg) (X : Pt) (e : Side) → e ∈ edges cs → Allows X (touching cs g.from e.a e.b) → Allows X (moved g e)
touching_moved cs Dx Dy pen g X e m =
    let z = furthest_corner cs Dx Dy pen e.a e.b in
    let out : furthest e.a e.b cs ≼ e.c = subst (λ (t : ℤ). t ≼ e.c) z.2 (pen.convex e z.0 m z.1) in
    let p_a = dot e.a e.b g.from in
    let p_b = dot e.a e.b g.to in
    further X e.a e.b (pos 8 *ℤ furthest e.a e.b cs +ℤ p_a) (pos 8 *ℤ e.c +ℤ max_z p_a p_b) (offsets (furthest e.a e.b cs) e.c p_a (max_z p_a p_b) out (max_l p_a p_b))

-- ---- the column lies far enough between the two ends, in either order
abbrev Amid : ℤ → Seg → ℤ → Type 0
Amid Dx g x = ((g.from.x +ℤ pos 8 *ℤ Dx ≼ x) × (x ≼ g.to.x -ℤ pos 8 *ℤ Dx)) ⊎ ((g.to.x +ℤ pos 8 *ℤ Dx ≼ x) × (x ≼ g.from.x -ℤ pos 8 *ℤ Dx))

amid_of : (Dx : ℤ) (g : Seg) (x : ℤ) → min_z g.from.x g.to.x +ℤ pos 8 *ℤ Dx ≼ x → x ≼ max_z g.from.x g.to.x -ℤ pos 8 *ℤ Dx → Amid Dx g x
amid_of Dx g x = go (le_z g.from.x g.to.x)
  where
    go : (t : Bool) → cond t g.from.x g.to.x +ℤ pos 8 *ℤ Dx ≼ x → x ≼ cond t g.to.x g.from.x -ℤ pos 8 *ℤ Dx → Amid Dx g x
    go true h k = inl (h, k)
    go false h k = inr (h, k)

rightwards : (a b x D : ℤ) → pos 1 ≼ D → a +ℤ pos 8 *ℤ D ≼ x → x ≼ b -ℤ pos 8 *ℤ D → pos 0 ≺ b -ℤ a
rightwards = ring 4 _ (λ ρ. simp (reify, ρ) (omega arith))

leftwards : (a b x D : ℤ) → pos 1 ≼ D → b +ℤ pos 8 *ℤ D ≼ x → x ≼ a -ℤ pos 8 *ℤ D → b -ℤ a ≺ pos 0
leftwards = ring 4 _ (λ ρ. simp (reify, ρ) (omega arith))

no_rise : (a b : ℤ) → a ≡ b → b -ℤ a ≡ pos 0
no_rise = ring 2 _ (λ ρ. simp (reify, ρ) (omega arith))

-- what lies in the band is no further from the path than the pen is high
from_path : (t : Bool) (y ay c : ℤ) → neg_ℤ c ≺ y -ℤ middle t ay → y -ℤ middle t ay ≼ c → (neg_ℤ c ≼ y -ℤ ay) × (y -ℤ ay ≼ c)
from_path true y ay c lo hi = (lt_le (neg_ℤ c) (y -ℤ ay) lo, hi)
from_path false y ay c lo hi = ((unit_low y ay (neg_ℤ c)).1 lo, lt_le (y -ℤ ay) c ((unit_high y ay c).1 hi))

module _ (cs : List Pt) (Dx Dy : ℤ) (pen : PenLaws cs Dx Dy) (t : Bool) (rule : kept (pos 0) (pos 1) ≡ t)
    (g : Seg) (X : Pt) (flat : g.from.y ≡ g.to.y) (differs : ¬ (g.from.x ≡ g.to.x)) (amid : Amid Dx g X.x) where
  abbrev InBand : Type 0
  InBand = Band Dy (middle t g.from.y) X

  lower : (b : ℤ) → b ≺ pos 0 → Allows X (touching cs g.from (pos 0) b) ↔ (neg_ℤ (pos 8 *ℤ Dy) ≺ X.y -ℤ middle t g.from.y)
  lower = low_iff cs Dx Dy pen g.from X t rule

  upper : (b : ℤ) → pos 0 ≺ b → Allows X (touching cs g.from (pos 0) b) ↔ (X.y -ℤ middle t g.from.y ≼ pos 8 *ℤ Dy)
  upper = high_iff cs Dx Dy pen g.from X t rule

  -- the path goes right or left
  way : (pos 0 ≺ g.to.x -ℤ g.from.x) ⊎ (g.to.x -ℤ g.from.x ≺ pos 0)
  way = elim amid [
    | inl h ↦ inl (rightwards g.from.x g.to.x X.x Dx pen.somewide h.0 h.1)
    | inr h ↦ inr (leftwards g.from.x g.to.x X.x Dx pen.somewide h.0 h.1)
  ]

  apart : same g.from g.to ≡ false
  apart = elim (same_or_differ g.from g.to) [ inl e ↦ absurd (differs e.0) | inr e ↦ e ]

  -- the sides along the path, with the rise r and the way across
  abbrev Along : ℤ → Type 0
  Along r = Allows X (touching cs g.from r (neg_ℤ (g.to.x -ℤ g.from.x))) × Allows X (touching cs g.from (neg_ℤ r) (g.to.x -ℤ g.from.x))

  -- whichever way the path goes, one of them points down and the other up
  along_iff : Along (g.to.y -ℤ g.from.y) ↔ InBand
  along_iff = subst (λ r. Along r ↔ InBand) (sym (no_rise g.from.y g.to.y flat)) (go way)
    where
      go : (pos 0 ≺ g.to.x -ℤ g.from.x) ⊎ (g.to.x -ℤ g.from.x ≺ pos 0) → Along (pos 0) ↔ InBand
      go (inl h) =
          let d = lower _ (neg_below _ h) in
          let u = upper _ h in
          ((λ s. record { low = d.0 s.0; high = u.0 s.1 }), λ k. (d.1 k.low, u.1 k.high))
      go (inr h) =
          let d = lower _ h in
          let u = upper _ (neg_above _ h) in
          ((λ s. record { low = d.0 s.1; high = u.0 s.0 }), λ k. (u.1 k.high, d.1 k.low))

  -- an edge allows what lies in the band: by the end of the path beyond which it stands, or, if it is level, by the pen's height
  edge_allows : InBand → (e : Side) → e ∈ edges cs → Allows X (moved g e)
  edge_allows k e me = go (le_or_lt e.a (pos 0)) (le_or_lt (pos 0) e.a)
    where
      dy : ℤ
      dy = X.y -ℤ g.from.y

      p_a : ℤ
      p_a = dot e.a e.b g.from

      p_b : ℤ
      p_b = dot e.a e.b g.to

      -- the lowest corner, and what the edge says of it and of the highest one
      l : Pt
      l = pen.lowest.0

      ml : l ∈ cs
      ml = pen.lowest.1

      lowest : e.b *ℤ l.y ≼ e.c
      lowest = upright e.a e.b l.x l.y e.c (pen.convex e l me ml) (pen.convex e _ me (pen.mirror_x l ml))

      highest : e.b *ℤ neg_ℤ l.y ≼ e.c
      highest = upright e.a e.b l.x (neg_ℤ l.y) e.c (pen.convex e _ me (pen.mirror_y l ml)) (pen.convex e _ me (corner_opposite cs Dx Dy pen ml))

      near : (neg_ℤ (pos 8 *ℤ Dy) ≼ dy) × (dy ≼ pos 8 *ℤ Dy)
      near = from_path t X.y g.from.y (pos 8 *ℤ Dy) k.low k.high

      in_band : e.b *ℤ dy ≼ pos 8 *ℤ e.c
      in_band = band_le e.b dy l.y Dy e.c pen.lowest.2 lowest highest near.0 near.1

      strict : dot e.a e.b X ≺ (moved g e).c → Allows X (moved g e)
      strict h = record { with = λ _. lt_le (dot e.a e.b X) (moved g e).c h; without = λ _. h }

      -- an end of the path beyond which the edge lies
      beyond : (E : Pt) → E.y ≡ g.from.y → dot e.a e.b E ≼ max_z p_a p_b → e.a *ℤ (X.x -ℤ E.x) ≺ pos 0 → Allows X (moved g e)
      beyond E q h n = strict (slanted_lt e.a e.b e.c X.x X.y E.x E.y g.from.y (max_z p_a p_b) q h in_band n)

      from : e.a *ℤ (X.x -ℤ g.from.x) ≺ pos 0 → Allows X (moved g e)
      from = beyond g.from refl (max_l p_a p_b)

      to : e.a *ℤ (X.x -ℤ g.to.x) ≺ pos 0 → Allows X (moved g e)
      to = beyond g.to (sym flat) (max_r p_a p_b)

      -- a level edge, by the line along the path with the same normal
      level : e.a ≡ pos 0 → (pos 0 ≼ e.b) ⊎ (e.b ≺ pos 0) → (e.b ≼ pos 0) ⊎ (pos 0 ≺ e.b) → Allows X (moved g e)
      level q (inr h) _ = touching_moved cs Dx Dy pen g X e me (subst (λ (z : ℤ). Allows X (touching cs g.from z e.b)) (sym q) ((lower e.b h).1 k.low))
      level q (inl _) (inr h) = touching_moved cs Dx Dy pen g X e me (subst (λ (z : ℤ). Allows X (touching cs g.from z e.b)) (sym q) ((upper e.b h).1 k.high))
      level q (inl h) (inl h') = absurd (edge_normal cs Dx Dy pen e me (q, le_antisymm e.b (pos 0) h' h))

      go : (e.a ≼ pos 0) ⊎ (pos 0 ≺ e.a) → (pos 0 ≼ e.a) ⊎ (e.a ≺ pos 0) → Allows X (moved g e)
      go (inr h) _ = elim amid [ inl w ↦ to (right_of e.a X.x g.to.x Dx h pen.somewide w.1) | inr w ↦ from (right_of e.a X.x g.from.x Dx h pen.somewide w.1) ]
      go (inl _) (inr h) = elim amid [ inl w ↦ from (left_of e.a X.x g.from.x Dx h pen.somewide w.0) | inr w ↦ to (left_of e.a X.x g.to.x Dx h pen.somewide w.0) ]
      go (inl h) (inl h') = level (le_antisymm e.a (pos 0) h h') (le_or_lt (pos 0) e.b) (le_or_lt e.b (pos 0))

  amid_iff : Black cs g X ↔ InBand
  amid_iff =
      let b = black_iff cs Dx Dy pen g X in (
        (λ h. along_iff.0 ((sides_each (Allows X) cs g (b.0 h)).path apart)),
        λ k. b.1 (each_side (Allows X) cs g (record { edgewise = edge_allows k; path = λ _. along_iff.1 k })),
      )

-- with document 01's words for the column: the lesser x + 8 Dx ≤ x ≤ the greater x - 8 Dx
pub level_iff : (cs : List Pt) (Dx Dy : ℤ) → PenLaws cs Dx Dy → (g : Seg) (X : Pt) → g.from.y ≡ g.to.y → ¬ (g.from.x ≡ g.to.x) →
    min_z g.from.x g.to.x +ℤ pos 8 *ℤ Dx ≼ X.x → X.x ≼ max_z g.from.x g.to.x -ℤ pos 8 *ℤ Dx →
    Black cs g X ↔ Band Dy (middle (kept (pos 0) (pos 1)) g.from.y) X
level_iff cs Dx Dy pen g X flat differs lo hi = amid_iff cs Dx Dy pen (kept (pos 0) (pos 1)) refl g X flat differs (amid_of Dx g X.x lo hi)
