-- A flat side allows every centre of a row between the heights of two points that are within it: where the row is on the side, the side is kept, since the rule of heights goes with
-- the rule of kept sides.
use mathlib.Core.Path.{◌≡◌}
use mathlib.Core.Logic.{inl, inr}
use mathlib.Core.Bool.{true, false}
use native.Mathlib.Omega.{arith}
use lib.IntN.{ℤ, pos, ◌+ℤ◌, ◌*ℤ◌}
use Rattle.integers.specs.Orders.{◌≼◌, ◌≺◌}
use Rattle.integers.proofs.Ring.{ring, reify, ◌⊢◌}
use Rattle.integers.proofs.Order.{mul_nn, sub_nn, sub_pos, mul_mono, mul_mono_lt, le_or_lt, le_antisymm, lt_le}
use Rattle.plane.specs.Point.{Pt}
use Rattle.plane.specs.Polygon.{Side}
use Rattle.ties.specs.Below.{below}
use Rattle.ties.proofs.Heights.{below_laws}
use Rattle.stroke.specs.Sweep.{centre}
use Rattle.stroke.proofs.Sides.{Meets}
use Rattle.stroke.proofs.Corners.{Normal}
use Rattle.stroke.proofs.Black.{Allows}

-- ---- plain numbers: along (0, b) only heights count
flat_le : (a b c h x lx ly : ℤ) → a ≡ pos 0 → b *ℤ h ≼ b *ℤ ly → a *ℤ lx +ℤ b *ℤ ly ≼ c → a *ℤ x +ℤ b *ℤ h ≼ c
flat_le = ring 7 _ (λ ρ e k l. rw e ((rw e at l) ⊢ k ⊢ simp (reify, ρ) (omega arith)))

flat_lt : (a b c h x lx ly : ℤ) → a ≡ pos 0 → b *ℤ h ≺ b *ℤ ly → a *ℤ lx +ℤ b *ℤ ly ≼ c → a *ℤ x +ℤ b *ℤ h ≺ c
flat_lt = ring 7 _ (λ ρ e k l. rw e ((rw e at l) ⊢ k ⊢ simp (reify, ρ) (omega arith)))

turned_le : (b x y : ℤ) → b ≺ pos 0 → x ≼ y → b *ℤ y ≼ b *ℤ x
turned_le = ring 3 _ (λ ρ h k. mul_nn (sub_pos h) (sub_nn k) ⊢ k ⊢ simp (reify, ρ) (omega arith))

turned_lt : (b x y : ℤ) → b ≺ pos 0 → x ≺ y → b *ℤ y ≺ b *ℤ x
turned_lt = ring 3 _ (λ ρ h k. mul_nn (sub_pos h) (sub_pos k) ⊢ h ⊢ k ⊢ simp (reify, ρ) (omega arith))

module _ (i j : ℤ) (L U : Pt) (f : Side) (l : Meets L f) (u : Meets U f) (above : below (pos 16 *ℤ j) L.y ≡ false) (under : below (pos 16 *ℤ j) U.y ≡ true) (e : f.a ≡ pos 0) where
  h : ℤ
  h = pos 16 *ℤ j

  -- by U where the side points up, and by L where it points down
  up_allows : pos 0 ≺ f.b → Allows (centre i j) f
  unfolding h
  up_allows b = record {
    with = λ _. flat_le f.a f.b f.c h (pos 16 *ℤ i) U.x U.y e (mul_mono f.b h U.y (lt_le (pos 0) f.b b) (below_laws.upto h U.y under)) u;
    without = λ k. flat_lt f.a f.b f.c h (pos 16 *ℤ i) U.x U.y e (mul_mono_lt f.b h U.y b (below_laws.under_top h U.y f.b b (rw e at k) under)) u;
  }

  down_allows : f.b ≺ pos 0 → Allows (centre i j) f
  unfolding h
  down_allows b = record {
    with = λ _. flat_le f.a f.b f.c h (pos 16 *ℤ i) L.x L.y e (turned_le f.b L.y h b (below_laws.past h L.y above)) l;
    without = λ k. flat_lt f.a f.b f.c h (pos 16 *ℤ i) L.x L.y e (turned_lt f.b L.y h b (below_laws.over_bottom h L.y f.b b (rw e at k) above)) l;
  }

  pub flat_allows : Normal f → Allows (centre i j) f
  flat_allows n = elim (le_or_lt f.b (pos 0)) [
    | inr b ↦ up_allows b
    | inl b ↦ elim (le_or_lt (pos 0) f.b) [ inr c ↦ down_allows c | inl c ↦ absurd (n (e, le_antisymm f.b (pos 0) b c)) ]
  ]
