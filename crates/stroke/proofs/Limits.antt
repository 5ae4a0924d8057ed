-- What the sides leave of a row: a column is left after all of them exactly when each allows its centre. A side with a rightward normal is kept and bounds the columns
-- above, one with a leftward normal is dropped and bounds them below, and a flat one allows all centres of the row or none.
use mathlib.Core.Path.{◌≡◌, refl, ap₂}
use mathlib.Core.Logic.{◌⊎◌, inl, inr, ◌↔◌}
use mathlib.Core.Bool.{true, false, ◌&&◌}
use mathlib.Core.List.Memᴰ
use mathlib.Core.List.{List, [], ◌∷◌}
use native.Mathlib.Omega.{arith}
use lib.IntN.{ℤ, pos, neg_ℤ, ◌+ℤ◌, ◌-ℤ◌, ◌*ℤ◌}
use lib.Signed.{lt_z}
use Rattle.integers.specs.Orders.{◌≼◌, ◌≺◌}
use Rattle.integers.specs.Compare.{min_z, max_z}
use Rattle.integers.specs.Floor.{floor_div}
use Rattle.integers.specs.Count.{◌∈◌}
use Rattle.integers.proofs.Ring.{ring, reify}
use Rattle.integers.proofs.Order.{le_antisymm, le_trans}
use Rattle.integers.proofs.Tests.{ltz, and_both, max_l, max_r, max_le, min_l, min_r, le_min}
use Rattle.integers.proofs.Floor.{le_floor_div}
use Rattle.plane.specs.Polygon.{Side}
use Rattle.ties.proofs.Kept.{kept_laws}
use Rattle.ties.proofs.Laws.{dropped_leftward}
use Rattle.stroke.specs.Sweep.{centre}
use Rattle.stroke.specs.Extent.{within, Limit, free, at, Left, room, upper, lower, narrow, narrowed}
use Rattle.stroke.proofs.Lists.{cons_all}
use Rattle.stroke.proofs.Black.{Allows, allows_kept, allows_dropped, within_iff}

-- ---- a column within a limit
abbrev pub Below : Limit → ℤ → Type 0
Below free i = Unit
Below (at q) i = i ≼ q

abbrev pub Above : Limit → ℤ → Type 0
Above free i = Unit
Above (at q) i = q ≼ i

-- the column i is left
pub record Leaves (s : Left) (i : ℤ) : Type 0 where
  pub any : s.some ≡ true
  pub lo : Above s.least i
  pub hi : Below s.most i

upper_iff : (l : Limit) (r i : ℤ) → Below (upper l r) i ↔ (Below l i × (i ≼ r))
upper_iff free r i = ((λ h. (tt, h)), λ h. h.1)
upper_iff (at q) r i = ((λ h. (le_trans i (min_z q r) q h (min_l q r), le_trans i (min_z q r) r h (min_r q r))), λ h. le_min q r i h.0 h.1)

lower_iff : (l : Limit) (r i : ℤ) → Above (lower l r) i ↔ (Above l i × (r ≼ i))
lower_iff free r i = ((λ h. (tt, h)), λ h. h.1)
lower_iff (at q) r i = ((λ h. (le_trans q (max_z q r) i (max_l q r) h, le_trans r (max_z q r) i (max_r q r) h)), λ h. max_le q r i h.0 h.1)

-- ---- one side in a row
up : (a b c i j : ℤ) → (i *ℤ (pos 16 *ℤ a) ≼ c -ℤ b *ℤ (pos 16 *ℤ j)) ↔ (a *ℤ (pos 16 *ℤ i) +ℤ b *ℤ (pos 16 *ℤ j) ≼ c)
up = ring 5 _ (λ ρ. simp (reify, ρ) (omega arith))

down : (a b c i j : ℤ) → ¬ (i *ℤ (pos 16 *ℤ neg_ℤ a) ≼ neg_ℤ (c -ℤ b *ℤ (pos 16 *ℤ j))) ↔ (a *ℤ (pos 16 *ℤ i) +ℤ b *ℤ (pos 16 *ℤ j) ≺ c)
down = ring 5 _ (λ ρ. simp (reify, ρ) (omega arith))

past : (q i : ℤ) → (q +ℤ pos 1 ≼ i) ↔ ¬ (i ≼ q)
past = ring 2 _ (λ ρ. simp (reify, ρ) (omega arith))

pub sixteen_pos : (a : ℤ) → pos 0 ≺ a → pos 0 ≺ pos 16 *ℤ a
sixteen_pos = ring 1 _ (λ ρ. simp (reify, ρ) (omega arith))

sixteen_neg : (a : ℤ) → a ≺ pos 0 → pos 0 ≺ pos 16 *ℤ neg_ℤ a
sixteen_neg = ring 1 _ (λ ρ. simp (reify, ρ) (omega arith))

flat_dot : (a b x z y : ℤ) → a ≡ pos 0 → a *ℤ x +ℤ b *ℤ y ≡ a *ℤ z +ℤ b *ℤ y
flat_dot = ring 5 _ (λ ρ e. rw e (simp (reify, ρ) (omega arith)))

module _ (i j : ℤ) where
  right_iff : (e : Side) → pos 0 ≺ e.a → (i ≼ floor_div (room j e) (pos 16 *ℤ e.a)) ↔ Allows (centre i j) e
  right_iff e h =
      let f = le_floor_div (room j e) (pos 16 *ℤ e.a) i (sixteen_pos e.a h) in
      let u = up e.a e.b e.c i j in
      let k = allows_kept (kept_laws.rightward e.a e.b h) in
      ((λ l. k.1 (u.0 (f.0 l))), λ m. f.1 (u.1 (k.0 m)))

  left_iff : (e : Side) → e.a ≺ pos 0 → (floor_div (neg_ℤ (room j e)) (pos 16 *ℤ neg_ℤ e.a) +ℤ pos 1 ≼ i) ↔ Allows (centre i j) e
  left_iff e h =
      let D = pos 16 *ℤ neg_ℤ e.a in
      let q = floor_div (neg_ℤ (room j e)) D in
      let f = le_floor_div (neg_ℤ (room j e)) D i (sixteen_neg e.a h) in
      let d = down e.a e.b e.c i j in
      let k = allows_dropped (dropped_leftward e.a e.b h) in
      ((λ l. k.1 (d.0 (λ z. (past q i).0 l (f.1 z)))), λ m. (past q i).1 (λ z. d.1 (k.0 m) (f.0 z)))

  flat_iff : (e : Side) → e.a ≡ pos 0 → Allows (centre (pos 0) j) e ↔ Allows (centre i j) e
  flat_iff e h =
      let q = flat_dot e.a e.b (pos 16 *ℤ pos 0) (pos 16 *ℤ i) (pos 16 *ℤ j) h in (
        (λ k. record { with = λ t. rw (← q) (k.with t); without = λ t. rw (← q) (k.without t) }),
        λ k. record { with = λ t. rw q (k.with t); without = λ t. rw q (k.without t) },
      )

  narrow_iff : (e : Side) (s : Left) → Leaves (narrow j e s) i ↔ (Leaves s i × Allows (centre i j) e)
  narrow_iff e s = go (ltz (pos 0) e.a) (ltz e.a (pos 0))
    where
      go : ((lt_z (pos 0) e.a ≡ true) × (pos 0 ≺ e.a)) ⊎ ((lt_z (pos 0) e.a ≡ false) × (e.a ≼ pos 0)) →
          ((lt_z e.a (pos 0) ≡ true) × (e.a ≺ pos 0)) ⊎ ((lt_z e.a (pos 0) ≡ false) × (pos 0 ≼ e.a)) → Leaves (narrow j e s) i ↔ (Leaves s i × Allows (centre i j) e)
      go (inl h) _ = let u = upper_iff s.most (floor_div (room j e) (pos 16 *ℤ e.a)) i in rw h.0 (
        (λ m. let k = u.0 m.hi in (record { any = m.any; lo = m.lo; hi = k.0 }, (right_iff e h.1).0 k.1)),
        λ m. record { any = m.0.any; lo = m.0.lo; hi = u.1 (m.0.hi, (right_iff e h.1).1 m.1) },
      )
      go (inr g) (inl h) = let l = lower_iff s.least (floor_div (neg_ℤ (room j e)) (pos 16 *ℤ neg_ℤ e.a) +ℤ pos 1) i in rw (g.0, h.0) (
        (λ m. let k = l.0 m.lo in (record { any = m.any; lo = k.0; hi = m.hi }, (left_iff e h.1).0 k.1)),
        λ m. record { any = m.0.any; lo = l.1 (m.0.lo, (left_iff e h.1).1 m.1); hi = m.0.hi },
      )
      go (inr g) (inr h) =
          let f = flat_iff e (le_antisymm e.a (pos 0) g.1 h.1) in
          let w = within_iff (centre (pos 0) j) e in
          rw (g.0, h.0) (
            (λ m. let k = and_both s.some (within (centre (pos 0) j) e) m.any in (record { any = k.0; lo = m.lo; hi = m.hi }, f.0 (w.0 k.1))),
            λ m. record { any = ap₂ ◌&&◌ m.0.any (w.1 (f.1 m.1)); lo = m.0.lo; hi = m.0.hi },
          )

  pub narrowed_iff : (l : List Side) (s : Left) → Leaves (narrowed j l s) i ↔ (Leaves s i × ((e : Side) → e ∈ l → Allows (centre i j) e))
  unfolding narrowed
  narrowed_iff [] s = ((λ m. (m, λ e k. absurd (Memᴰ.not-nil k))), λ m. m.0)
  narrowed_iff (e ∷ l) s =
      let n = narrow_iff e s in
      let r = narrowed_iff l (narrow j e s) in (
        (λ m. let q = n.0 (r.0 m).0 in (q.0, cons_all (Allows (centre i j)) q.1 (r.0 m).1)),
        λ m. r.1 (n.1 (m.0, m.1 e (Memᴰ.head refl)), λ f k. m.1 f (Memᴰ.tail k)),
      )
