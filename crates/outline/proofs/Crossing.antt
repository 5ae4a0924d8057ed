-- One edge of the outline in a row: the sides on its part of the sweep, right or left, allow a centre exactly when it lies up to the edge, or past it.
use mathlib.Core.Path.{◌≡◌, subst}
use mathlib.Core.Logic.{◌↔◌, inl, inr}
use mathlib.Core.List.{List}
use native.Mathlib.Omega.{arith}
use lib.IntN.{ℤ, pos, ◌-ℤ◌, ◌*ℤ◌}
use lib.Signed.{clash_ℤ}
use Rattle.integers.specs.Orders.{◌≼◌, ◌≺◌}
use Rattle.integers.specs.Count.{◌∈◌}
use Rattle.integers.proofs.Ring.{ring, reify}
use Rattle.integers.proofs.Order.{le_or_lt}
use Rattle.integers.proofs.Floor.{le_floor_div}
use Rattle.plane.specs.Point.{Pt}
use Rattle.plane.specs.Polygon.{Side}
use Rattle.ties.proofs.Kept.{kept_laws}
use Rattle.ties.proofs.Laws.{dropped_leftward}
use Rattle.stroke.specs.Sweep.{Seg, centre}
use Rattle.stroke.specs.Sides.{sides}
use Rattle.stroke.proofs.Black.{Allows, allows_kept, allows_dropped}
use Rattle.edge.specs.Edge.{numerator}
use Rattle.outline.specs.Outline.{Outer, Crossed, column_at}
use Rattle.outline.proofs.Between.{between, on_line, allow_right, allow_left, meet_right, meet_left}

regroup : (i d : ℤ) → i *ℤ (pos 16 *ℤ d) ≡ pos 16 *ℤ i *ℤ d
regroup = ring 2 _ (λ ρ. simp (reify, ρ) (omega arith))

rises : (py qy : ℤ) → py ≺ qy → pos 0 ≺ qy -ℤ py
rises = ring 2 _ (λ ρ. simp (reify, ρ) (omega arith))

sixteen : (d : ℤ) → pos 0 ≺ d → pos 0 ≺ pos 16 *ℤ d
sixteen = ring 1 _ (λ ρ. simp (reify, ρ) (omega arith))

-- orders that say the same say the same the other way round
opposite : {p q r s : ℤ} → (p ≼ q) ↔ (r ≼ s) → (q ≺ p) ↔ (s ≺ r)
opposite {p} {q} {r} {s} i = (
  (λ h. elim (le_or_lt r s) [ inl k ↦ clash_ℤ h (i.1 k) | inr k ↦ k ]),
  λ h. elim (le_or_lt p q) [ inl k ↦ clash_ℤ h (i.0 k) | inr k ↦ k ],
)

module _ {cs : List Pt} {g : Seg} {P Q : Pt} {e : Side} (k : Outer cs g P Q e) (i j : ℤ) (w : Crossed (pos 16 *ℤ j) P Q) where
  h : ℤ
  h = pos 16 *ℤ j

  n : ℤ
  n = numerator P.x P.y Q.x Q.y h

  d : ℤ
  d = Q.y -ℤ P.y

  up : pos 0 ≺ d
  unfolding d
  up = rises P.y Q.y k.rising

  -- the column as a product
  upto_iff : (i ≼ column_at P Q (pos 16 *ℤ j)) ↔ (pos 16 *ℤ i *ℤ d ≼ n)
  unfolding h n d
  upto_iff = subst (λ (z : ℤ). (i ≼ column_at P Q (pos 16 *ℤ j)) ↔ (z ≼ n)) (regroup i d) (le_floor_div n (pos 16 *ℤ d) i (sixteen d up))

  past_iff : (column_at P Q (pos 16 *ℤ j) ≺ i) ↔ (n ≺ pos 16 *ℤ i *ℤ d)
  past_iff = opposite upto_iff

  -- no side lies within the edge there, and its own lies on it
  all_out : (f : Side) → f ∈ sides cs g → f.a *ℤ n ≼ (f.c -ℤ f.b *ℤ h) *ℤ d
  unfolding h n d
  all_out f m = between P.x P.y Q.x Q.y (pos 16 *ℤ j) f.a f.b f.c w.0 w.1 (k.from_in f m) (k.to_in f m)

  here : (e.c -ℤ e.b *ℤ h) *ℤ d ≡ e.a *ℤ n
  unfolding h n d
  here = on_line P.x P.y Q.x Q.y (pos 16 *ℤ j) e.a e.b e.c k.from_on k.to_on

  -- on the right
  pub right_allows : i ≼ column_at P Q (pos 16 *ℤ j) → (f : Side) → f ∈ sides cs g → pos 0 ≺ f.a → Allows (centre i j) f
  unfolding h
  right_allows l f m ha = (allows_kept (kept_laws.rightward f.a f.b ha)).1 (allow_right f.a f.b f.c n d h (pos 16 *ℤ i) ha up (upto_iff.0 l) (all_out f m))

  pub right_meets : pos 0 ≺ e.a → Allows (centre i j) e → i ≼ column_at P Q (pos 16 *ℤ j)
  unfolding h
  right_meets ha l = upto_iff.1 (meet_right e.a e.b e.c n d h (pos 16 *ℤ i) ha up here ((allows_kept (kept_laws.rightward e.a e.b ha)).0 l))

  -- on the left
  pub left_allows : column_at P Q (pos 16 *ℤ j) ≺ i → (f : Side) → f ∈ sides cs g → f.a ≺ pos 0 → Allows (centre i j) f
  unfolding h
  left_allows l f m ha = (allows_dropped (dropped_leftward f.a f.b ha)).1 (allow_left f.a f.b f.c n d h (pos 16 *ℤ i) ha up (past_iff.0 l) (all_out f m))

  pub left_meets : e.a ≺ pos 0 → Allows (centre i j) e → column_at P Q (pos 16 *ℤ j) ≺ i
  unfolding h
  left_meets ha l = past_iff.1 (meet_left e.a e.b e.c n d h (pos 16 *ℤ i) ha up here ((allows_dropped (dropped_leftward e.a e.b ha)).0 l))
