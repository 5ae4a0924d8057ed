-- One side narrows the columns by one of three rules, by the sign of its normal's part to the right; and what is answered of the columns that are left.
use mathlib.Core.Path.{◌≡◌, refl, sym, ap, ◌∙◌}
use mathlib.Core.Bool.{Bool, true, false, cond, ◌&&◌}
use Rattle.std.specs.Prelude.{Option, Some, None}
use lib.IntN.{ℤ, pos, neg_ℤ, ◌+ℤ◌, ◌*ℤ◌, +ℤ_idl}
use lib.Signed.{le_z, lt_z}
use Rattle.integers.specs.Orders.{◌≼◌, ◌≺◌}
use Rattle.integers.proofs.Order.{le_antisymm, lt_le}
use Rattle.integers.proofs.Signs.{times_zero}
use Rattle.integers.proofs.Tests.{lt_iff}
use Rattle.plane.specs.Polygon.{Side}
use Rattle.extent.specs.declared.limit.Fraction.{Fraction}
use Rattle.extent.specs.declared.limit.Limits.{Limits}
use Rattle.stroke.specs.Sweep.{centre}
use Rattle.stroke.specs.Extent.{none, columns, within, Limit, free, at, room, upper, lower, narrow, span_between, span_of}
use Rattle.extent.specs.Answer.{answered}
use Rattle.extent.specs.Held.{last_to, at_most, at_least, left, flat_leaves}
use Rattle.ties.specs.Kept.{kept}
use Rattle.extent.proofs.FromRow.{no_less}
use Rattle.extent.proofs.Fractions.{not_lt}

-- in row 0 the room of a side is its offset, and the row's centres are at 0 along the normal of a flat one
room_here : (e : Side) → room (pos 0) e ≡ e.c
room_here e = no_less e.b e.c

within_here : (e : Side) → e.a ≡ pos 0 → flat_leaves e.b e.c ≡ within (centre (pos 0) (pos 0)) e
within_here e h =
    rw h (ap (λ (z : ℤ). cond (kept (pos 0) e.b) (le_z z e.c) (lt_z z e.c)) (sym (+ℤ_idl (e.b *ℤ pos 0) ∙ times_zero e.b)))

module _ (e : Side) (s : Limits) where
  -- to the right
  pub narrow_right : (f : Option Fraction) → pos 0 ≺ e.a → at_most f ≡ upper (at_most s.most) (last_to e.c e.a) →
      left (record { some = s.some; least = s.least; most = f }) ≡ narrow (pos 0) e (left s)
  narrow_right f h k =
      rw (room_here e, (lt_iff (pos 0) e.a).1 h) (ap (λ (l : Limit). record { some = s.some; least = at_least s.least; most = l }) k)

  -- to the left
  pub narrow_left : (f : Option Fraction) → e.a ≺ pos 0 → at_least f ≡ lower (at_least s.least) (last_to (neg_ℤ e.c) (neg_ℤ e.a) +ℤ pos 1) →
      left (record { some = s.some; least = f; most = s.most }) ≡ narrow (pos 0) e (left s)
  narrow_left f h k =
      rw (room_here e, not_lt (pos 0) e.a (lt_le e.a (pos 0) h), (lt_iff e.a (pos 0)).1 h)
      (ap (λ (l : Limit). record { some = s.some; least = l; most = at_most s.most }) k)

  -- flat
  pub narrow_flat : (t : Bool) → e.a ≼ pos 0 → pos 0 ≼ e.a → t ≡ (s.some && flat_leaves e.b e.c) →
      left (record { some = t; least = s.least; most = s.most }) ≡ narrow (pos 0) e (left s)
  narrow_flat t h k q =
      rw (not_lt (pos 0) e.a h, not_lt e.a (pos 0) k)
      (ap (λ (t : Bool). record { some = t; least = at_least s.least; most = at_most s.most }) (q ∙ ap (λ (t : Bool). s.some && t) (within_here e (le_antisymm e.a (pos 0) h k))))

-- ---- the columns that are left
module _ (s : Limits) where
  pub nothing_flat : s.some ≡ false → None ≡ answered (span_of (left s))
  nothing_flat h = rw h

  pub nothing_least : s.least ≡ None → None ≡ answered (span_of (left s))
  nothing_least h = rw h (go s.some)
    where
      go : (t : Bool) → None ≡ answered (span_of (record { some = t; least = free; most = at_most s.most }))
      go true = missing (at_most s.most)
        where
          missing : (r : Limit) → None ≡ answered (span_between free r)
          missing free = refl
          missing (at q) = refl
      go false = refl

  pub nothing_most : s.most ≡ None → None ≡ answered (span_of (left s))
  nothing_most h = rw h (go s.some (at_least s.least))
    where
      go : (t : Bool) (l : Limit) → None ≡ answered (span_of (record { some = t; least = l; most = free }))
      go true free = refl
      go true (at q) = refl
      go false l = refl

  module _ {l r : Fraction} (some : s.some ≡ true) (least : s.least ≡ Some l) (most : s.most ≡ Some r) where
    pub columns_between : (t : Bool) → le_z (last_to l.num l.by +ℤ pos 1) (last_to r.num r.by) ≡ t →
        answered (span_of (left s)) ≡ answered (cond t (columns (last_to l.num l.by +ℤ pos 1) (last_to r.num r.by)) none)
    columns_between t e = rw (some, least, most, e)
