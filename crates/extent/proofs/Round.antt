-- Where the line of a moved edge stands; the edges of a pen one after the other, and what each leaves of a row; then the two sides along the path.
use Prim.Native.Nat.{ℕ, suc, ◌+◌, ◌-◌, ◌≤◌, ◌<◌}
use native.Mathlib.Omega.{arith}
use native.Mathlib.Numerals.{add-one}
use mathlib.Core.Path.{◌≡◌, refl, sym, ap, ap₂, ◌∙◌}
use mathlib.Core.Logic.{inl, inr}
use mathlib.Core.Bool.{true, false, cond}
use mathlib.Core.List.{List, [], ◌∷◌, ◌++◌, map}
use lib.Dec.{ltb}
use lib.ListN.{length, drop, drop_of_length-le}
use lib.IntN.{ℤ, pos, neg_ℤ, ◌+ℤ◌, ◌-ℤ◌, ◌*ℤ◌}
use Rattle.integers.specs.Orders.{◌≼◌, ◌≺◌}
use Rattle.integers.specs.Compare.{max_z}
use Rattle.integers.proofs.Ring.{ring, reify}
use Rattle.integers.proofs.Order.{add_assoc, sub_nn}
use Rattle.integers.proofs.Tests.{max_case, max_first, max_second}
use Rattle.plane.specs.Point.{Pt, same, corners}
use Rattle.plane.specs.Polygon.{Side, edge, edges}
use Rattle.plane.proofs.Read.{origin, place, corners_long, from_place}
use Rattle.plane.proofs.Round.{head, rest, rest_cons, edges_rest, corner_after, next}
use Rattle.stroke.specs.Sweep.{Seg}
use Rattle.stroke.specs.Sides.{moved, touching, path_sides}
use Rattle.stroke.specs.Extent.{Left, narrow, narrowed}
use Rattle.extent.proofs.AnyOrder.{narrow_past}

-- ---- the line of an edge, at A and as much further out as B is
-- the further one of two numbers, from the first
further_one : (x y : ℤ) → x +ℤ max_z (y -ℤ x) (pos 0) ≡ max_z x y
further_one x y = elim (max_case x y) [
  | inl h ↦ ap (λ (z : ℤ). x +ℤ z) (max_first (y -ℤ x) (pos 0) (sub_nn h.1)) ∙ there x y ∙ sym h.0
  | inr h ↦ ap (λ (z : ℤ). x +ℤ z) (max_second (y -ℤ x) (pos 0) (short x y h.1)) ∙ here x ∙ sym h.0
]
  where
    there : (x y : ℤ) → x +ℤ (y -ℤ x) ≡ y
    there = ring 2 _ (simp reify (omega arith))

    short : (x y : ℤ) → y ≺ x → y -ℤ x ≼ pos 0
    short = ring 2 _ (λ ρ. simp (reify, ρ) (omega arith))

    here : (x : ℤ) → x +ℤ pos 0 ≡ x
    here = ring 1 _ (λ ρ. simp (reify, ρ) (omega arith))

pub moved_at : (a b px py ax ay bx by : ℤ) →
    a *ℤ (pos 8 *ℤ px +ℤ ax) +ℤ b *ℤ (pos 8 *ℤ py +ℤ ay) +ℤ max_z (a *ℤ (bx -ℤ ax) +ℤ b *ℤ (by -ℤ ay)) (pos 0) ≡
    pos 8 *ℤ (a *ℤ px +ℤ b *ℤ py) +ℤ max_z (a *ℤ ax +ℤ b *ℤ ay) (a *ℤ bx +ℤ b *ℤ by)
moved_at a b px py ax ay bx by =
    let P = a *ℤ px +ℤ b *ℤ py in
    let A = a *ℤ ax +ℤ b *ℤ ay in
    let B = a *ℤ bx +ℤ b *ℤ by in
    ap₂ (λ (x y : ℤ). x +ℤ max_z y (pos 0)) (at_A a b px py ax ay) (to_B a b ax ay bx by)
    ∙ add_assoc (pos 8 *ℤ P) A (max_z (B -ℤ A) (pos 0)) ∙ ap (λ (z : ℤ). pos 8 *ℤ P +ℤ z) (further_one A B)
  where
    at_A : (a b px py ax ay : ℤ) → a *ℤ (pos 8 *ℤ px +ℤ ax) +ℤ b *ℤ (pos 8 *ℤ py +ℤ ay) ≡ pos 8 *ℤ (a *ℤ px +ℤ b *ℤ py) +ℤ (a *ℤ ax +ℤ b *ℤ ay)
    at_A = ring 6 _ (λ ρ. simp (reify, ρ) (omega arith))

    to_B : (a b ax ay bx by : ℤ) → a *ℤ (bx -ℤ ax) +ℤ b *ℤ (by -ℤ ay) ≡ a *ℤ bx +ℤ b *ℤ by -ℤ (a *ℤ ax +ℤ b *ℤ ay)
    to_B = ring 6 _ (simp reify (omega arith))

-- ---- the edges
-- the corner at place i of n, which after the last is the first
abbrev pub corner_at : ℕ → ℕ → ℕ
corner_at i n = cond (ltb i n) i 0

module _ (n : ℕ) (xs ys : List ℤ) (h : n ≤ length xs) (k : n ≤ length ys) where
  -- what is left after the edges from place i on
  pub left_since : ℤ → Seg → ℕ → Left → Left
  left_since j g i s = narrowed j (map (moved g) (rest (head origin (corners n xs ys)) (drop i (corners n xs ys)))) s

  module _ (j : ℤ) (g : Seg) (s : Left) where
    pub since_start : narrowed j (map (moved g) (edges (corners n xs ys))) s ≡ left_since j g 0 s
    unfolding left_since
    since_start = ap (λ (l : List Side). narrowed j (map (moved g) l) s) (edges_rest (corners n xs ys))

    pub since_next : (i : ℕ) → i < n → left_since j g i s ≡ left_since j g (i + 1) (narrow j (moved g (edge (place xs ys i) (place xs ys (corner_after i n)))) s)
    unfolding left_since narrowed
    since_next i l =
        let F = head origin (corners n xs ys) in
        let cs = drop (suc i) (corners n xs ys) in
        let m : List Side → Left = λ es. narrowed j (map (moved g) es) s in
        ap (λ (l : List Pt). m (rest F l)) (from_place n xs ys i h k l)
        ∙ ap m (rest_cons F (place xs ys i) cs)
        ∙ ap (λ (Q : Pt). m (edge (place xs ys i) Q ∷ rest F cs)) (next n xs ys h k i l)
        ∙ ap (λ (k : ℕ). left_since j g k (narrow j (moved g (edge (place xs ys i) (place xs ys (corner_after i n)))) s)) (sym (add-one i))

    -- and so from place i back to the one before it: its edge may come last as well as first
    pub since_back : (i : ℕ) → 0 < i → i ≤ n →
        narrow j (moved g (edge (place xs ys (i - 1)) (place xs ys (corner_at i n)))) (left_since j g i s) ≡ left_since j g (i - 1) s
    unfolding left_since
    since_back i p l =
        let back : i - 1 + 1 ≡ i = omega arith in
        let e : ℕ → Side = λ k. moved g (edge (place xs ys (i - 1)) (place xs ys (corner_at k n))) in
        narrow_past j (e i) _ s ∙ sym (since_next (i - 1) (omega arith) ∙ ap (λ (k : ℕ). left_since j g k (narrow j (e k) s)) back)

    pub since_end : (i : ℕ) → n ≤ i → left_since j g i s ≡ s
    unfolding left_since rest narrowed
    since_end i l = ap (λ (l : List Pt). narrowed j (map (moved g) (rest (head origin (corners n xs ys)) l)) s) (drop_of_length-le (corners n xs ys) {i = i} (omega (arith, corners_long n xs ys h k)))

-- the sides of one list after those of another
pub narrowed_append : (j : ℤ) (l m : List Side) (s : Left) → narrowed j (l ++ m) s ≡ narrowed j m (narrowed j l s)
unfolding narrowed
narrowed_append j [] m s = refl
narrowed_append j (e ∷ l) m s = narrowed_append j l m (narrow j e s)

-- the two sides along the path, and none for a dot
module _ (cs : List Pt) (g : Seg) (j : ℤ) (s : Left) where
  pub no_path : same g.from g.to ≡ true → s ≡ narrowed j (path_sides cs g) s
  unfolding narrowed
  no_path e = rw e

  pub two_paths : same g.from g.to ≡ false →
      let u = g.to.x -ℤ g.from.x in
      let v = g.to.y -ℤ g.from.y in
      narrow j (touching cs g.from (neg_ℤ v) u) (narrow j (touching cs g.from v (neg_ℤ u)) s) ≡ narrowed j (path_sides cs g) s
  unfolding narrowed
  two_paths e = rw e
