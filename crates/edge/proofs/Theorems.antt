-- The claim of specs/Theorems.antt, under its name there: by the rows, one after another. Each row between two within reach is within reach.
use Prim.Native.Nat.{ℕ, zero, suc}
use mathlib.Core.Path.{◌≡◌, subst}
use mathlib.Core.List.{[]}
use mathlib.Core.Bool.{true}
use native.Mathlib.Omega.{arith}
use lib.IntN.{ℤ, pos, ◌+ℤ◌, ◌*ℤ◌}
use Rattle.integers.specs.Orders.{◌≼◌, ◌≺◌}
use Rattle.integers.proofs.Ring.{ring, reify, here}
use Rattle.edge.specs.Edge.{near, placed, raised_by}
use Rattle.edge.specs.Theorems.{EdgeCarries}
use Rattle.edge.proofs.Bounds.{test_bound, bound_test, between_bound}
use Rattle.edge.proofs.Carried.{Carries, Near, placed_carries, raised_carries, column_is}

-- a number of rows, as an integer
from_zero : (k : ℕ) → pos 0 ≼ pos k
from_zero k = here [] λ ρ. simp (reify, ρ) (omega arith)

one_more : (k : ℕ) → pos k +ℤ pos 1 ≡ pos (suc k)
one_more k = here [] λ ρ. simp (reify, ρ) (omega arith)

-- the row j + k lies from row j to row j + k + 1, and is 16 under the latter
from_first : (j k : ℤ) → pos 0 ≼ k → pos 16 *ℤ j ≼ pos 16 *ℤ (j +ℤ k)
from_first = ring 2 _ (λ ρ. simp (reify, ρ) (omega arith))

to_next : (j k n : ℤ) → k +ℤ pos 1 ≡ n → pos 16 *ℤ (j +ℤ k) ≼ pos 16 *ℤ (j +ℤ n)
to_next = ring 3 _ (λ ρ. simp (reify, ρ) (omega arith))

next_row : (j k n : ℤ) → k +ℤ pos 1 ≡ n → pos 16 *ℤ (j +ℤ k) +ℤ pos 16 ≡ pos 16 *ℤ (j +ℤ n)
next_row = ring 3 _ (λ ρ. simp (reify, ρ) (omega arith))

first_row : (j : ℤ) → pos 16 *ℤ j ≡ pos 16 *ℤ (j +ℤ pos 0)
first_row = ring 1 _ (λ ρ. simp (reify, ρ) (omega arith))

row_between : (j : ℤ) (k : ℕ) → near (pos 16 *ℤ j) ≡ true → near (pos 16 *ℤ (j +ℤ pos (suc k))) ≡ true → near (pos 16 *ℤ (j +ℤ pos k)) ≡ true
row_between j k f l =
    bound_test 263168 (pos 16 *ℤ (j +ℤ pos k))
    (between_bound 263168 (pos 16 *ℤ j) (pos 16 *ℤ (j +ℤ pos k)) (pos 16 *ℤ (j +ℤ pos (suc k)))
    (test_bound 263168 (pos 16 *ℤ j) f) (from_first j (pos k) (from_zero k)) (to_next j (pos k) (pos (suc k)) (one_more k)) (test_bound 263168 (pos 16 *ℤ (j +ℤ pos (suc k))) l))

module _ (px py qx qy j : ℤ) (px_near : near px ≡ true) (py_near : near py ≡ true) (qx_near : near qx ≡ true) (qy_near : near qy ≡ true) (first : near (pos 16 *ℤ j) ≡ true) (l : py ≺ qy) where
  reach : (h : ℤ) → near h ≡ true → Near px py qx qy h
  reach h n = record { px_near = px_near; py_near = py_near; qx_near = qx_near; qy_near = qy_near; h_near = n }

  carried : (k : ℕ) → near (pos 16 *ℤ (j +ℤ pos k)) ≡ true → Carries px py qx qy (pos 16 *ℤ (j +ℤ pos k)) (raised_by k (placed px py qx qy (pos 16 *ℤ j)))
  carried zero n = subst (λ (h : ℤ). Carries px py qx qy h (placed px py qx qy (pos 16 *ℤ j))) (first_row j) (placed_carries px py qx qy (pos 16 *ℤ j) (reach (pos 16 *ℤ j) first) l)
  carried (suc k) n =
      let h = pos 16 *ℤ (j +ℤ pos k) in
      let below = row_between j k first n in
      subst (λ (h : ℤ). Carries px py qx qy h (raised_by (suc k) (placed px py qx qy (pos 16 *ℤ j)))) (next_row j (pos k) (pos (suc k)) (one_more k)) (raised_carries px py qx qy h (reach h below) l (carried k below))

pub edge_carries : EdgeCarries
edge_carries px py qx qy j k a b c d f n l = column_is px py qx qy (pos 16 *ℤ (j +ℤ pos k)) l (carried px py qx qy j a b c d f l k n)
