-- How many pixels lie in a window, steps 1 and 3 of the idea at the top of specs/Weight. Of the strip along a direction (u, v) without common factor,
-- v neighbouring rows hold c: for each n they have exactly one pixel (i, j) with v i - u j = n, and the strip is c neighbouring values of n. Of the band
-- along a level path, a column holds as many as the band is pixels high.
use mathlib.Core.Path.{◌≡◌, ap, ap₂, ◌∙◌}
use mathlib.Core.Logic.{◌↔◌}
use mathlib.Core.List.{[], ◌∷◌}
use Prim.Native.Nat.{ℕ, ◌*◌, ◌≤◌}
use native.Mathlib.Omega.{arith}
use lib.Dec.{lit<}
use lib.IntN.{ℤ, pos, neg_ℤ, ◌+ℤ◌, ◌-ℤ◌, ◌*ℤ◌}
use Rattle.integers.specs.Orders.{◌≼◌, ◌≺◌}
use Rattle.integers.specs.Coprime.{Coprime}
use Rattle.integers.specs.Count.{Number}
use Rattle.integers.proofs.Ring.{ring, reify, here, ◌⊢◌, var}
use Rattle.integers.proofs.Floor.{fdiv, fdiv_lo, fdiv_hi, fdiv_unique}
use Rattle.integers.proofs.Count.{In, interval, number_iff, number_map}
use Rattle.integers.proofs.Bezout.{bezout}
use Rattle.plane.specs.Point.{Pt}
use Rattle.stroke.specs.Sweep.{centre}
use Rattle.stroke.specs.Weight.{Pixel, InRows}

-- ---- one pixel for each value of v i - u j
abbrev line : ℤ → ℕ → Pixel → ℤ
line u v p = pos v *ℤ p.column -ℤ u *ℤ p.row

-- with q the quotient of x - j by D, rounded down, x - D q is the one number of its kind among the D from j on
first_row : (x j D q : ℤ) → D *ℤ q ≼ x -ℤ j → j ≼ x -ℤ D *ℤ q
first_row = ring 4 _ (simp reify (omega arith))

last_row : (x j D q : ℤ) → x -ℤ j ≺ D *ℤ q +ℤ D → x -ℤ D *ℤ q ≺ j +ℤ D
last_row = ring 4 _ (simp reify (omega arith))

quotient_lo : (x i j D q : ℤ) → i ≡ x -ℤ D *ℤ q → j ≼ i → D *ℤ q ≼ x -ℤ j
quotient_lo = ring 5 _ (simp reify (omega arith))

quotient_hi : (x i j D q : ℤ) → i ≡ x -ℤ D *ℤ q → i ≺ j +ℤ D → x -ℤ j ≺ D *ℤ q +ℤ D
quotient_hi = ring 5 _ (simp reify (omega arith))

-- the pixels of value n are (n b - u q, -n a - D q), with a u + b D = 1
on_line : (a b u D n q : ℤ) → a *ℤ u +ℤ b *ℤ D ≡ pos 1 → D *ℤ (n *ℤ b -ℤ u *ℤ q) -ℤ u *ℤ (neg_ℤ (n *ℤ a) -ℤ D *ℤ q) ≡ n
on_line = ring 6 _ λ ρ e. ap (λ (z : ℤ). var ρ 4 *ℤ z) e ⊢ simp (reify, ρ) (omega arith)

row_of : (a b u D i j : ℤ) → a *ℤ u +ℤ b *ℤ D ≡ pos 1 → j ≡ neg_ℤ ((D *ℤ i -ℤ u *ℤ j) *ℤ a) -ℤ D *ℤ neg_ℤ (a *ℤ i +ℤ b *ℤ j)
row_of = ring 6 _ λ ρ e. ap (λ (z : ℤ). var ρ 5 *ℤ z) e ⊢ simp (reify, ρ) (omega arith)

column_of : (a b u D i j : ℤ) → a *ℤ u +ℤ b *ℤ D ≡ pos 1 → i ≡ (D *ℤ i -ℤ u *ℤ j) *ℤ b -ℤ u *ℤ neg_ℤ (a *ℤ i +ℤ b *ℤ j)
column_of = ring 6 _ λ ρ e. ap (λ (z : ℤ). var ρ 4 *ℤ z) e ⊢ simp (reify, ρ) (omega arith)

module _ (u : ℤ) (v : ℕ) (rising : 1 ≤ v) (a b : ℤ) (made : a *ℤ u +ℤ b *ℤ pos v ≡ pos 1) (j : ℤ) where
  quotient : ℤ → ℤ
  quotient n = fdiv (neg_ℤ (n *ℤ a) -ℤ j) v

  -- the pixel of value n in the v rows from j on
  valued : ℤ → Pixel
  valued n = record { column = n *ℤ b -ℤ u *ℤ quotient n; row = neg_ℤ (n *ℤ a) -ℤ pos v *ℤ quotient n }

  valued_in : (n : ℤ) → InRows j v (valued n).row
  unfolding quotient valued
  valued_in n = let x = neg_ℤ (n *ℤ a) in (first_row x j (pos v) (quotient n) (fdiv_lo (x -ℤ j) v rising), last_row x j (pos v) (quotient n) (fdiv_hi (x -ℤ j) v rising))

  valued_line : (n : ℤ) → line u v (valued n) ≡ n
  unfolding quotient valued
  valued_line n = on_line a b u (pos v) n (quotient n) made

  valued_unique : (p : Pixel) → InRows j v p.row → p ≡ valued (line u v p)
  unfolding quotient valued
  valued_unique p h =
      let n = line u v p in
      let q = neg_ℤ (a *ℤ p.column +ℤ b *ℤ p.row) in
      let x = neg_ℤ (n *ℤ a) in
      let e : p.row ≡ x -ℤ pos v *ℤ q = row_of a b u (pos v) p.column p.row made in
      let k : q ≡ quotient n = fdiv_unique (x -ℤ j) v q rising (quotient_lo x p.row j (pos v) q e h.0) (quotient_hi x p.row j (pos v) q e h.1) in
      ap₂ (λ (x y : ℤ). record { column = x; row = y })
      (column_of a b u (pos v) p.column p.row made ∙ ap (λ (z : ℤ). n *ℤ b -ℤ u *ℤ z) k)
      (e ∙ ap (λ (z : ℤ). x -ℤ pos v *ℤ z) k)

  -- so c neighbouring values are those of c pixels
  values_number : (M : ℤ) (c : ℕ) → Number (λ p. InRows j v p.row × In M c (line u v p)) c
  values_number M c = number_map (In M c) _ valued (line u v) (λ n h. valued_line n) (λ n h. (valued_in n, rw (valued_line n) h)) (λ p h. (h.1, valued_unique p h.0)) (interval M c)

-- ---- the strip along (u, v): up to the line on its right, and not on the line on its left
pub record Strip (c u v : ℤ) (A X : Pt) : Type 0 where
  pub left : neg_ℤ (pos 8 *ℤ c) ≺ v *ℤ (X.x -ℤ A.x) -ℤ u *ℤ (X.y -ℤ A.y)
  pub right : v *ℤ (X.x -ℤ A.x) -ℤ u *ℤ (X.y -ℤ A.y) ≼ pos 8 *ℤ c

-- its lines are 16 c apart, and 16 M is the last multiple of 16 up to the left one: so it has c of the values
values : (D u i j ax ay M : ℤ) (c : ℕ) → pos 16 *ℤ M ≼ D *ℤ ax -ℤ u *ℤ ay -ℤ pos (8 * c) → D *ℤ ax -ℤ u *ℤ ay -ℤ pos (8 * c) ≺ pos 16 *ℤ M +ℤ pos 16 →
    In M c (D *ℤ i -ℤ u *ℤ j) ↔
    ((neg_ℤ (pos (8 * c)) ≺ D *ℤ (pos 16 *ℤ i -ℤ ax) -ℤ u *ℤ (pos 16 *ℤ j -ℤ ay)) × (D *ℤ (pos 16 *ℤ i -ℤ ax) -ℤ u *ℤ (pos 16 *ℤ j -ℤ ay) ≼ pos (8 * c)))
values D u i j ax ay M c h k = h ⊢ k ⊢ here (D ∷ u ∷ i ∷ j ∷ ax ∷ ay ∷ M ∷ []) λ ρ a b c d e f g. simp (reify, ρ, a, b, c, d, e, f, g) (omega arith)

pub strip_number : (u : ℤ) (v : ℕ) → 1 ≤ v → Coprime u v → (A : Pt) (c : ℕ) (j : ℤ) → Number (λ (p : Pixel). InRows j v p.row × Strip (pos c) u (pos v) A (centre p.column p.row)) c
strip_number u v rising co A c j =
    let K = pos v *ℤ A.x -ℤ u *ℤ A.y -ℤ pos (8 * c) in
    let M = fdiv K 16 in
    let z = bezout u v co in
    let e : (p : Pixel) → In M c (line u v p) ↔ Strip (pos c) u (pos v) A (centre p.column p.row) = λ p.
    let s = values (pos v) u p.column p.row A.x A.y M c (fdiv_lo K 16 (lit< tt)) (fdiv_hi K 16 (lit< tt)) in
    ((λ h. record { left = (s.0 h).0; right = (s.0 h).1 }), λ h. s.1 (h.left, h.right)) in
    number_iff (λ p. InRows j v p.row × In M c (line u v p)) _ (λ p. ((λ h. (h.0, (e p).0 h.1)), λ h. (h.0, (e p).1 h.1))) (values_number u v rising z.0 z.1 z.2 j M c)

-- ---- the band around the level line at height h: up to its upper line, and not on its lower one
pub record Band (D h : ℤ) (X : Pt) : Type 0 where
  pub low : neg_ℤ (pos 8 *ℤ D) ≺ X.y -ℤ h
  pub high : X.y -ℤ h ≼ pos 8 *ℤ D

rows : (j h M : ℤ) (d : ℕ) → pos 16 *ℤ M ≼ h -ℤ pos (8 * d) → h -ℤ pos (8 * d) ≺ pos 16 *ℤ M +ℤ pos 16 →
    In M d j ↔ ((neg_ℤ (pos (8 * d)) ≺ pos 16 *ℤ j -ℤ h) × (pos 16 *ℤ j -ℤ h ≼ pos (8 * d)))
rows j h M d lo hi = lo ⊢ hi ⊢ here (j ∷ h ∷ M ∷ []) λ ρ a b c. simp (reify, ρ, a, b, c) (omega arith)

pub band_number : (h : ℤ) (d : ℕ) (i : ℤ) → Number (λ j. Band (pos d) h (centre i j)) d
band_number h d i =
    let K = h -ℤ pos (8 * d) in
    let M = fdiv K 16 in
    let e : (j : ℤ) → In M d j ↔ Band (pos d) h (centre i j) = λ j.
    let s = rows j h M d (fdiv_lo K 16 (lit< tt)) (fdiv_hi K 16 (lit< tt)) in
    ((λ h. record { low = (s.0 h).0; high = (s.0 h).1 }), λ h. s.1 (h.low, h.high)) in
    number_iff (In M d) _ e (interval M d)
