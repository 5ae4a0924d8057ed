-- The corners of a side of the pen by their numbers: where they stand in the arrays, the edges between them, and that a highest one is among them.
use Prim.Native.Nat.{ℕ, zero, suc, ◌+◌, ◌-◌, ◌≤◌, ◌<◌}
use native.Mathlib.Omega.{arith}
use mathlib.Core.Path.{◌≡◌, refl, ◌∙◌, subst}
use mathlib.Core.Bool.{Bool, true, false}
use mathlib.Core.List.{List}
use lib.ListN.{length}
use lib.IntN.{ℤ}
use borrow.Author.Tests.{lt-ltb, le-ltb}
use Rattle.integers.specs.Count.{◌∈◌}
use Rattle.plane.specs.Point.{Pt, corners}
use Rattle.plane.specs.Polygon.{edge, edges}
use Rattle.plane.proofs.Read.{place}
use Rattle.plane.proofs.Round.{corner_after, place_in, edge_in}
use Rattle.flanks.specs.Walk.{place_of}
use Rattle.flanks.proofs.Walks.{place_left}

-- ---- the place of a corner
pub place_held : (n : ℕ) (left : Bool) (c : ℕ) → c < n → place_of c n left < n
place_held n false c h = h
place_held n true zero h = h
place_held n true (suc c) h = rw (place_left (suc c) n true refl (omega arith)) (omega arith)

-- every place has a corner of the side
pub number_of : (n : ℕ) (left : Bool) (i : ℕ) → i < n → (k : ℕ) × (k ≤ n - 1) × (place_of k n left ≡ i)
number_of n false i h = (i, omega arith, refl)
number_of n true zero h = (0, omega arith, refl)
number_of n true (suc i) h = (n - suc i, omega arith, place_left (n - suc i) n true refl (omega arith) ∙ omega arith)

-- ---- from one corner to the next
after_right : (n c : ℕ) → suc c < n → corner_after c n ≡ suc c
after_right n c h = rw (lt-ltb (c + 1) n (omega arith)) (omega arith)

after_left : (n c : ℕ) → suc c < n → corner_after (n - suc c) n ≡ place_of c n true
after_left n zero h = rw (le-ltb (n - 1 + 1) n (omega arith)) refl
after_left n (suc c) h = rw (lt-ltb (n - suc (suc c) + 1) n (omega arith), place_left (suc c) n true refl (omega arith)) (omega arith)

module _ (n : ℕ) (xs ys : List ℤ) (h : n ≤ length xs) (k : n ≤ length ys) where
  abbrev corner_at : Bool → ℕ → Pt
  corner_at left c = place xs ys (place_of c n left)

  pub corner_in : (left : Bool) (c : ℕ) → c < n → corner_at left c ∈ corners n xs ys
  corner_in left c l = place_in n xs ys h k (place_of c n left) (place_held n left c l)

  -- up the right side along the edges, and up the left one against them
  pub edge_right : (c : ℕ) → suc c < n → edge (corner_at false c) (corner_at false (suc c)) ∈ edges (corners n xs ys)
  edge_right c l =
      subst (λ (i : ℕ). edge (place xs ys c) (place xs ys i) ∈ edges (corners n xs ys)) (after_right n c l) (edge_in n xs ys h k c (omega arith))

  pub edge_left : (c : ℕ) → suc c < n → edge (corner_at true (suc c)) (corner_at true c) ∈ edges (corners n xs ys)
  edge_left c l =
      rw (place_left (suc c) n true refl (omega arith))
      (subst (λ (i : ℕ). edge (place xs ys (n - suc c)) (place xs ys i) ∈ edges (corners n xs ys)) (after_left n c l) (edge_in n xs ys h k (n - suc c) (omega arith)))
