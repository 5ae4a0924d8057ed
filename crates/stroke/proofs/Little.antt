-- The point a little left of X, and by far less below it, against one side of a segment: it lies within the enlarged side exactly when the side allows X.
--
-- Let X lie d inside a side with the normal (a, b): d is 0 on its line, and negative outside. In the drawing m * m times as large the point beside X lies m m d + w
-- inside, where w = a m + b. Once m is more than |a| + |b|, w and its opposite are less than m m, so that the sign of d decides unless d is 0; and there the sign of w
-- decides, which is that of a, or of b where a is 0: the rule of kept sides.
use mathlib.Core.Path.{◌≡◌, refl}
use mathlib.Core.Logic.Iff
use mathlib.Core.Logic.{◌↔◌, inl, inr}
use mathlib.Core.Bool.{Bool, true, false}
use native.Mathlib.Omega.{arith}
use lib.IntN.{ℤ, pos, neg_ℤ, ◌+ℤ◌, ◌-ℤ◌, ◌*ℤ◌}
use lib.Signed.{clash_ℤ}
use Rattle.integers.specs.Orders.{◌≼◌, ◌≺◌}
use Rattle.integers.specs.Compare.{max_z}
use Rattle.integers.proofs.Ring.{ring, reify, ◌⊢◌}
use Rattle.integers.proofs.Order.{mul_nn, sub_nn, sub_pos, mul_assoc, le_or_lt, le_antisymm, lt_le, not_lt}
use Rattle.integers.proofs.Signs.{times_le, square_pos}
use Rattle.integers.proofs.Tests.{clash, max_l, max_r}
use Rattle.plane.specs.Point.{Pt}
use Rattle.plane.specs.Polygon.{Side, dot}
use Rattle.ties.specs.Kept.{kept}
use Rattle.ties.proofs.Kept.{kept_says}
use Rattle.stroke.specs.Beside.{beside}
use Rattle.stroke.proofs.Support.{one_lt}
use Rattle.stroke.proofs.Sides.{Meets}
use Rattle.stroke.proofs.Black.{Allows, allows_kept, allows_dropped}
use Rattle.stroke.proofs.Enlarged.{enlarge}

-- the size of a number; it is at least the number and its opposite, so it is not negative
abbrev size : ℤ → ℤ
size a = max_z a (neg_ℤ a)

size_nn : (a : ℤ) → pos 0 ≼ size a
size_nn a = from a (size a) (max_l a (neg_ℤ a)) (max_r a (neg_ℤ a))
  where
    from : (a s : ℤ) → a ≼ s → neg_ℤ a ≼ s → pos 0 ≼ s
    from = ring 2 _ (λ ρ. simp (reify, ρ) (omega arith))

-- ---- w = a m + b, for sizes A and B of a and b
-- it is less than m m, since A m + B m + m is no more than that; and so is its opposite
short : (m a b A B : ℤ) → pos 1 ≼ m → a ≼ A → b ≼ B → pos 0 ≼ B → A +ℤ B +ℤ pos 1 ≼ m → a *ℤ m +ℤ b ≺ m *ℤ m
short = ring 5 _ (λ ρ hm ha hb hB h.
    let k = sub_nn hm in mul_nn k (sub_nn h) ⊢ mul_nn k (sub_nn ha) ⊢ mul_nn k hB ⊢ hm ⊢ ha ⊢ hb ⊢ h ⊢ simp (reify, ρ) (omega arith))

turned : (m a b : ℤ) → neg_ℤ a *ℤ m +ℤ neg_ℤ b ≺ m *ℤ m → neg_ℤ (m *ℤ m) ≺ a *ℤ m +ℤ b
turned = ring 3 _ (simp reify (omega arith))

-- its sign is that of a, since m is more than b's size, and that of b where a is 0
past : (x A B m : ℤ) → pos 0 ≼ A → x ≼ B → A +ℤ B +ℤ pos 1 ≼ m → x ≺ m
past = ring 4 _ (λ ρ. simp (reify, ρ) (omega arith))

rightward : (m a b : ℤ) → pos 1 ≼ m → neg_ℤ b ≺ m → pos 0 ≺ a → pos 0 ≼ a *ℤ m +ℤ b
rightward = ring 3 _ (λ ρ hm hb h. mul_nn (sub_nn hm) (sub_pos h) ⊢ hm ⊢ hb ⊢ h ⊢ simp (reify, ρ) (omega arith))

leftward : (m a b : ℤ) → pos 1 ≼ m → b ≺ m → a ≺ pos 0 → a *ℤ m +ℤ b ≺ pos 0
leftward = ring 3 _ (λ ρ hm hb h. mul_nn (sub_nn hm) (sub_pos h) ⊢ hm ⊢ hb ⊢ h ⊢ simp (reify, ρ) (omega arith))

upright : (m a b : ℤ) → a ≡ pos 0 → a *ℤ m +ℤ b ≡ b
upright = ring 3 _ (λ ρ e. rw e (simp (reify, ρ) (omega arith)))

module _ (m a b : ℤ) (some : pos 1 ≼ m) (great : size a +ℤ size b +ℤ pos 1 ≼ m) where
  below : a *ℤ m +ℤ b ≺ m *ℤ m
  below = short m a b (size a) (size b) some (max_l a (neg_ℤ a)) (max_l b (neg_ℤ b)) (size_nn b) great

  above : neg_ℤ (m *ℤ m) ≺ a *ℤ m +ℤ b
  above = turned m a b (short m (neg_ℤ a) (neg_ℤ b) (size a) (size b) some (max_r a (neg_ℤ a)) (max_r b (neg_ℤ b)) (size_nn b) great)

  kept_sign : kept a b ≡ true → pos 0 ≼ a *ℤ m +ℤ b
  kept_sign k = elim ((kept_says a b).0 k) [
    | inl h ↦ rightward m a b some (past (neg_ℤ b) (size a) (size b) m (size_nn a) (max_r b (neg_ℤ b)) great) h
    | inr h ↦ rw (upright m a b h.0) (lt_le (pos 0) b h.1)
  ]

  -- a dropped normal has a < 0; or a = 0 and b < 0, since b is not 0 there
  dropped_sign : ¬ ((a ≡ pos 0) × (b ≡ pos 0)) → kept a b ≡ false → a *ℤ m +ℤ b ≺ pos 0
  dropped_sign normal k = elim (le_or_lt (pos 0) a) [
    | inr h ↦ leftward m a b some (past b (size a) (size b) m (size_nn a) (max_l b (neg_ℤ b)) great) h
    | inl h ↦
        let a0 = le_antisymm a (pos 0) ((not_lt (pos 0) a).0 (λ p. clash ((kept_says a b).1 (inl p)) k)) h in
        let b≤0 = (not_lt (pos 0) b).0 (λ p. clash ((kept_says a b).1 (inr (a0, p))) k) in
        rw (upright m a b a0) (elim (le_or_lt (pos 0) b) [ inr l ↦ l | inl l ↦ absurd (normal (a0, le_antisymm b (pos 0) b≤0 l)) ])
  ]

-- ---- q d + w with d = c - p, where q is m m: not negative for d > 0, negative for d < 0, and of w's sign for d = 0
inside : (q p c w : ℤ) → pos 0 ≺ q → neg_ℤ q ≺ w → p ≺ c → pos 0 ≼ q *ℤ (c -ℤ p) +ℤ w
inside = ring 4 _ (λ ρ hq hw h. mul_nn (sub_pos hq) (sub_pos h) ⊢ hq ⊢ hw ⊢ h ⊢ simp (reify, ρ) (omega arith))

outside : (q p c w : ℤ) → pos 0 ≺ q → w ≺ q → c ≺ p → q *ℤ (c -ℤ p) +ℤ w ≺ pos 0
outside = ring 4 _ (λ ρ hq hw h. mul_nn (sub_pos hq) (sub_pos h) ⊢ hq ⊢ hw ⊢ h ⊢ simp (reify, ρ) (omega arith))

with_line : (q p c w : ℤ) → pos 0 ≺ q → pos 0 ≼ w → p ≼ c → pos 0 ≼ q *ℤ (c -ℤ p) +ℤ w
with_line = ring 4 _ (λ ρ hq hw h. mul_nn (sub_pos hq) (sub_nn h) ⊢ hw ⊢ h ⊢ simp (reify, ρ) (omega arith))

without_line : (q p c w : ℤ) → pos 0 ≺ q → w ≺ pos 0 → c ≼ p → q *ℤ (c -ℤ p) +ℤ w ≺ pos 0
without_line = ring 4 _ (λ ρ hq hw h. mul_nn (sub_pos hq) (sub_nn h) ⊢ hw ⊢ h ⊢ simp (reify, ρ) (omega arith))

module _ (q p c w : ℤ) (hq : pos 0 ≺ q) where
  kept_iff : pos 0 ≼ w → w ≺ q → (p ≼ c) ↔ (pos 0 ≼ q *ℤ (c -ℤ p) +ℤ w)
  kept_iff hw h = (with_line q p c w hq hw, λ k. elim (le_or_lt p c) [ inl l ↦ l | inr l ↦ clash_ℤ (outside q p c w hq h l) k ])

  dropped_iff : w ≺ pos 0 → neg_ℤ q ≺ w → (p ≺ c) ↔ (pos 0 ≼ q *ℤ (c -ℤ p) +ℤ w)
  dropped_iff hw h = (inside q p c w hq h, λ k. elim (le_or_lt c p) [ inr l ↦ l | inl l ↦ clash_ℤ (without_line q p c w hq hw l) k ])

-- ---- one side
-- how far the point beside X lies inside, with a factor q taken out
beside_dot : (q m a b x y : ℤ) → q *ℤ a *ℤ (q *ℤ x -ℤ m) +ℤ q *ℤ b *ℤ (q *ℤ y -ℤ pos 1) ≡ q *ℤ (q *ℤ (a *ℤ x +ℤ b *ℤ y) -ℤ (a *ℤ m +ℤ b))
beside_dot = ring 6 _ (λ ρ. simp (reify, ρ) (omega arith))

difference : (q p c w : ℤ) → (q *ℤ p -ℤ w ≼ q *ℤ c) ↔ (pos 0 ≼ q *ℤ (c -ℤ p) +ℤ w)
difference = ring 4 _ (λ ρ. simp (reify, ρ) (omega arith))

-- so great is great enough for the side e
abbrev pub enough : Side → ℤ
enough e = size e.a +ℤ size e.b +ℤ pos 1

module _ (X : Pt) (m : ℤ) (some : pos 1 ≼ m) (e : Side) where
  abbrev p : ℤ
  p = dot e.a e.b X

  abbrev w : ℤ
  w = e.a *ℤ m +ℤ e.b

  hq : pos 0 ≺ m *ℤ m
  hq = square_pos m (one_lt m some)

  meets_iff : Meets (beside m X) (enlarge (m *ℤ m) e) ↔ (pos 0 ≼ m *ℤ m *ℤ (e.c -ℤ p) +ℤ w)
  meets_iff =
      let q = m *ℤ m in
      rw (beside_dot q m e.a e.b X.x X.y, mul_assoc q q e.c) (Iff.trans (times_le q (q *ℤ p -ℤ w) (q *ℤ e.c) hq) (difference q p e.c w))

  pub little_iff : enough e ≼ m → ¬ ((e.a ≡ pos 0) × (e.b ≡ pos 0)) → Allows X e ↔ Meets (beside m X) (enlarge (m *ℤ m) e)
  little_iff great normal = Iff.trans (go (kept e.a e.b) refl) (Iff.symm meets_iff)
    where
      go : (t : Bool) → kept e.a e.b ≡ t → Allows X e ↔ (pos 0 ≼ m *ℤ m *ℤ (e.c -ℤ p) +ℤ w)
      go true k = Iff.trans (allows_kept k) (kept_iff (m *ℤ m) p e.c w hq (kept_sign m e.a e.b some great k) (below m e.a e.b some great))
      go false k = Iff.trans (allows_dropped k) (dropped_iff (m *ℤ m) p e.c w hq (dropped_sign m e.a e.b some great normal k) (above m e.a e.b some great))
