-- An edge of the pen against a point of the strip along a rising path, in plain numbers.
-- The path starts at A and goes t times (u, v). The point is A + (dx, dy), in a row far enough inside, with M = v dx - u dy above -8c and up to 8c, where c is the greatest
-- v x - u y over the corners and z a corner that has it. The edge has the normal (a, b) and the offset ce, and P says how much further out it stands, over the two ends of
-- the path, than at A. Write N = a dx + b dy, and g = a u + b v for the normal's part along the path. Shown are:
--   meets     N is at most 8 ce + P: the point is within the moved edge;
--   through   where it is as much, and a is not positive, M is 8c, z lies on the edge, and it is the lowest corner or the highest.
-- Both come from c v N = v M (n·z) + g (c dy - M z.y): the two terms are at most 8 c v ce and c v P, so where the sum is as great as both together, each is as great as it can be.
use mathlib.Core.Path.{◌≡◌, ap}
use mathlib.Core.Logic.{◌⊎◌, inl, inr}
use native.Mathlib.Omega.{arith}
use lib.IntN.{ℤ, pos, neg_ℤ, ◌+ℤ◌, ◌-ℤ◌, ◌*ℤ◌}
use lib.Signed.{le_z_yes}
use Rattle.integers.specs.Orders.{◌≼◌, ◌≺◌}
use Rattle.integers.proofs.Ring.{ring, reify, ◌⊢◌, var}
use Rattle.integers.proofs.Order.{mul_nn, sub_nn, sub_pos, mul_bound, mul_cancel, le_or_lt, le_antisymm, le_trans, lt_le}
use Rattle.stroke.proofs.Support.{one_lt}

pub record Near (a b ce c u v t dx dy zx zy Dy P : ℤ) : Type 0 where
  pub c_some : pos 1 ≼ c
  pub v_some : pos 1 ≼ v
  pub ce_some : pos 1 ≼ ce
  -- the corner z, its place on the edge and its height
  pub furthest_z : v *ℤ zx +ℤ neg_ℤ u *ℤ zy ≡ c
  pub z_within : a *ℤ zx +ℤ b *ℤ zy ≼ ce
  pub z_turned : neg_ℤ ce ≼ a *ℤ zx +ℤ b *ℤ zy
  pub z_low : neg_ℤ Dy ≼ zy
  pub z_high : zy ≼ Dy
  -- the row is far enough inside
  pub row_low : pos 8 *ℤ Dy ≼ dy
  pub row_high : dy ≼ t *ℤ v -ℤ pos 8 *ℤ Dy
  -- the edge at A, and at the other end
  pub at_from : pos 0 ≼ P
  pub at_to : t *ℤ (a *ℤ u +ℤ b *ℤ v) ≼ P
  -- the strip
  pub strip_left : neg_ℤ (pos 8 *ℤ c) ≺ v *ℤ dx -ℤ u *ℤ dy
  pub strip_right : v *ℤ dx -ℤ u *ℤ dy ≼ pos 8 *ℤ c

nn : {x : ℤ} → pos 1 ≼ x → pos 0 ≼ x
nn {x} h = le_trans (pos 0) (pos 1) x (le_z_yes tt) h

-- ---- the sum and its two terms
parts : (a b u v dx dy zx zy : ℤ) →
    (v *ℤ zx +ℤ neg_ℤ u *ℤ zy) *ℤ (v *ℤ (a *ℤ dx +ℤ b *ℤ dy)) ≡
    v *ℤ ((v *ℤ dx -ℤ u *ℤ dy) *ℤ (a *ℤ zx +ℤ b *ℤ zy)) +ℤ (a *ℤ u +ℤ b *ℤ v) *ℤ ((v *ℤ zx +ℤ neg_ℤ u *ℤ zy) *ℤ dy -ℤ (v *ℤ dx -ℤ u *ℤ dy) *ℤ zy)
parts = ring 8 _ (simp reify (omega arith))

-- the factor T = c dy - M z.y lies between 0 and c t v, since the row is 8 Dy from both ends and |M z.y| at most 8 c Dy
from_start : (c dy mz Dy : ℤ) → pos 1 ≼ c → pos 8 *ℤ Dy ≼ dy → mz ≼ pos 8 *ℤ c *ℤ Dy → pos 0 ≼ c *ℤ dy -ℤ mz
from_start = ring 4 _ (λ ρ hc h k. mul_nn (sub_nn hc) (sub_nn h) ⊢ h ⊢ k ⊢ simp (reify, ρ) (omega arith))

to_end : (c dy mz Dy t v : ℤ) → pos 1 ≼ c → dy ≼ t *ℤ v -ℤ pos 8 *ℤ Dy → neg_ℤ (pos 8 *ℤ c *ℤ Dy) ≼ mz → c *ℤ dy -ℤ mz ≼ c *ℤ (t *ℤ v)
to_end = ring 6 _ (λ ρ hc h k. mul_nn (sub_nn hc) (sub_nn h) ⊢ h ⊢ k ⊢ simp (reify, ρ) (omega arith))

-- so g T is at most c v P, whatever the sign of g
along_up : (g T c t v P : ℤ) → pos 1 ≼ c → pos 1 ≼ v → pos 0 ≼ g → T ≼ c *ℤ (t *ℤ v) → t *ℤ g ≼ P → g *ℤ T ≼ c *ℤ (v *ℤ P)
along_up = ring 6 _ (λ ρ hc hv hg hT hP. mul_nn hg (sub_nn hT) ⊢ mul_nn (mul_nn (nn hc) (nn hv)) (sub_nn hP) ⊢ simp (reify, ρ) (omega arith))

along_down : (g T c v P : ℤ) → pos 1 ≼ c → pos 1 ≼ v → g ≺ pos 0 → pos 0 ≼ T → pos 0 ≼ P → g *ℤ T ≼ c *ℤ (v *ℤ P)
along_down = ring 5 _ (λ ρ hc hv hg hT hP. mul_nn (sub_pos hg) hT ⊢ hT ⊢ mul_nn (mul_nn (nn hc) (nn hv)) hP ⊢ simp (reify, ρ) (omega arith))

sum_le : (c v N Q gT ce P : ℤ) → pos 1 ≼ v → c *ℤ (v *ℤ N) ≡ v *ℤ Q +ℤ gT → Q ≼ pos 8 *ℤ c *ℤ ce → gT ≼ c *ℤ (v *ℤ P) → c *ℤ (v *ℤ N) ≼ c *ℤ (v *ℤ (pos 8 *ℤ ce +ℤ P))
sum_le = ring 7 _ (λ ρ hv e h k. mul_nn (nn hv) (sub_nn h) ⊢ e ⊢ k ⊢ simp (reify, ρ) (omega arith))

-- ---- where the sum is as great as it can be, so is each term
full_Q : (c v N Q gT ce P : ℤ) → pos 1 ≼ c → pos 1 ≼ v → c *ℤ (v *ℤ N) ≡ v *ℤ Q +ℤ gT → gT ≼ c *ℤ (v *ℤ P) → pos 8 *ℤ ce +ℤ P ≼ N → v *ℤ (pos 8 *ℤ c *ℤ ce) ≼ v *ℤ Q
full_Q = ring 7 _ (λ ρ hc hv e k h. mul_nn (mul_nn (nn hc) (nn hv)) (sub_nn h) ⊢ e ⊢ k ⊢ simp (reify, ρ) (omega arith))

full_g : (c v N Q gT ce P : ℤ) → pos 1 ≼ c → pos 1 ≼ v → c *ℤ (v *ℤ N) ≡ v *ℤ Q +ℤ gT → Q ≼ pos 8 *ℤ c *ℤ ce → pos 8 *ℤ ce +ℤ P ≼ N → c *ℤ (v *ℤ P) ≼ gT
full_g = ring 7 _ (λ ρ hc hv e k h. mul_nn (mul_nn (nn hc) (nn hv)) (sub_nn h) ⊢ mul_nn (nn hv) (sub_nn k) ⊢ e ⊢ simp (reify, ρ) (omega arith))

-- M (n·z) is 8 c ce only where M is 8c: it is above -8c, and n·z between -ce and ce
full_M : (c M nz ce : ℤ) → pos 1 ≼ ce → neg_ℤ (pos 8 *ℤ c) ≺ M → M ≼ pos 8 *ℤ c → nz ≼ ce → neg_ℤ ce ≼ nz → pos 8 *ℤ c *ℤ ce ≼ M *ℤ nz → pos 8 *ℤ c ≼ M
full_M c M nz ce h1 M1 M2 n1 n2 h = elim (le_or_lt (pos 0) M) [ inl k ↦ up c M nz ce h1 M2 n1 h k | inr k ↦ absurd (down c M nz ce h1 M1 n2 h k) ]
  where
    up : (c M nz ce : ℤ) → pos 1 ≼ ce → M ≼ pos 8 *ℤ c → nz ≼ ce → pos 8 *ℤ c *ℤ ce ≼ M *ℤ nz → pos 0 ≼ M → pos 8 *ℤ c ≼ M
    up = ring 4 _ (λ ρ h1 M2 n1 h k. mul_nn (sub_nn M2) (sub_nn h1) ⊢ mul_nn k (sub_nn n1) ⊢ h ⊢ simp (reify, ρ) (omega arith))

    down : (c M nz ce : ℤ) → pos 1 ≼ ce → neg_ℤ (pos 8 *ℤ c) ≺ M → neg_ℤ ce ≼ nz → pos 8 *ℤ c *ℤ ce ≼ M *ℤ nz → M ≺ pos 0 → ⊥
    down = ring 4 _ (λ ρ h1 M1 n2 h k. mul_nn (sub_pos M1) (sub_nn h1) ⊢ mul_nn (sub_pos k) (sub_nn n2) ⊢ sub_nn n2 ⊢ h1 ⊢ M1 ⊢ h ⊢ k ⊢ simp (reify, ρ) (omega arith))

full_z : (c M nz ce : ℤ) → M ≡ pos 8 *ℤ c → pos 8 *ℤ c *ℤ ce ≼ M *ℤ nz → c *ℤ ce ≼ c *ℤ nz
full_z = ring 4 _ (λ ρ e h. (rw e at h) ⊢ simp (reify, ρ) (omega arith))

drop_c : (c v P g M dy zy : ℤ) → M ≡ pos 8 *ℤ c → c *ℤ (v *ℤ P) ≼ g *ℤ (c *ℤ dy -ℤ M *ℤ zy) → c *ℤ (v *ℤ P) ≼ c *ℤ (g *ℤ (dy -ℤ pos 8 *ℤ zy))
drop_c = ring 7 _ (λ ρ e h. (rw e at h) ⊢ simp (reify, ρ) (omega arith))

-- ---- then g (dy - 8 z.y) is at least v P, which says where z is
-- upwards: the row is 8 Dy below the end, so z is Dy below the middle
top_row_lem : (v P g dy zy t : ℤ) → pos 1 ≼ v → t *ℤ g ≼ P → v *ℤ P ≼ g *ℤ (dy -ℤ pos 8 *ℤ zy) → g *ℤ (t *ℤ v) ≼ g *ℤ (dy -ℤ pos 8 *ℤ zy)
top_row_lem = ring 6 _ (λ ρ hv hP h. mul_nn (nn hv) (sub_nn hP) ⊢ h ⊢ simp (reify, ρ) (omega arith))

lowest_z : (v dy zy t Dy : ℤ) → t *ℤ v ≼ dy -ℤ pos 8 *ℤ zy → dy ≼ t *ℤ v -ℤ pos 8 *ℤ Dy → zy ≼ neg_ℤ Dy
lowest_z = ring 5 _ (λ ρ. simp (reify, ρ) (omega arith))

-- downwards: the row is 8 Dy above the start, so z is Dy above the middle
highest_z : (v P g dy zy Dy : ℤ) → pos 1 ≼ v → pos 0 ≼ P → v *ℤ P ≼ g *ℤ (dy -ℤ pos 8 *ℤ zy) → g ≺ pos 0 → pos 8 *ℤ Dy ≼ dy → ¬ (zy ≺ Dy)
highest_z = ring 6 _ (λ ρ hv hP h hg hd n. mul_nn (nn hv) hP ⊢ mul_nn (sub_pos hg) (sub_pos n) ⊢ mul_nn (sub_pos hg) (sub_nn hd) ⊢ hd ⊢ h ⊢ n ⊢ hg ⊢ simp (reify, ρ) (omega arith))

-- not along the path: then n is a multiple of (v, -u), and since it points left, n·z is not positive
normal_z : (a b u v zx zy : ℤ) → v *ℤ (a *ℤ zx +ℤ b *ℤ zy) ≡ a *ℤ (v *ℤ zx +ℤ neg_ℤ u *ℤ zy) +ℤ (a *ℤ u +ℤ b *ℤ v) *ℤ zy
normal_z = ring 6 _ (simp reify (omega arith))

along_path : (a v c g nz ce zy : ℤ) → a ≼ pos 0 → pos 1 ≼ c → pos 1 ≼ v → pos 1 ≼ ce → ce ≼ nz → v *ℤ nz ≡ a *ℤ c +ℤ g *ℤ zy → g ≡ pos 0 → ⊥
along_path = ring 7 _ (λ ρ ha hc hv hce hn e f.
    mul_nn (sub_nn ha) (nn hc) ⊢ mul_nn (sub_nn hv) (sub_nn hce) ⊢ mul_nn (nn hv) (sub_nn hn) ⊢ ap (λ z. z *ℤ var ρ 6) f ⊢ e ⊢ hv ⊢ hce ⊢ simp (reify, ρ) (omega arith))

-- ---- together
-- z lies on the edge, and is the lowest corner where the normal points on along the path, and the highest where it points back
pub record Through (a b ce u v zx zy Dy : ℤ) : Type 0 where
  pub on_edge : ce ≼ a *ℤ zx +ℤ b *ℤ zy
  pub extreme : ((pos 0 ≺ a *ℤ u +ℤ b *ℤ v) × (zy ≼ neg_ℤ Dy)) ⊎ ((a *ℤ u +ℤ b *ℤ v ≺ pos 0) × (Dy ≼ zy))

module _ {a b ce c u v t dx dy zx zy Dy P : ℤ} (w : Near a b ce c u v t dx dy zx zy Dy P) where
  sum : c *ℤ (v *ℤ (a *ℤ dx +ℤ b *ℤ dy)) ≡ v *ℤ ((v *ℤ dx -ℤ u *ℤ dy) *ℤ (a *ℤ zx +ℤ b *ℤ zy)) +ℤ (a *ℤ u +ℤ b *ℤ v) *ℤ (c *ℤ dy -ℤ (v *ℤ dx -ℤ u *ℤ dy) *ℤ zy)
  sum = rw w.furthest_z at (parts a b u v dx dy zx zy)

  strip_left' : neg_ℤ (pos 8 *ℤ c) ≼ v *ℤ dx -ℤ u *ℤ dy
  strip_left' = lt_le (neg_ℤ (pos 8 *ℤ c)) (v *ℤ dx -ℤ u *ℤ dy) w.strip_left

  across : (v *ℤ dx -ℤ u *ℤ dy) *ℤ (a *ℤ zx +ℤ b *ℤ zy) ≼ pos 8 *ℤ c *ℤ ce
  across = (mul_bound (pos 8 *ℤ c) ce (v *ℤ dx -ℤ u *ℤ dy) (a *ℤ zx +ℤ b *ℤ zy) strip_left' w.strip_right w.z_turned w.z_within).1

  along : (a *ℤ u +ℤ b *ℤ v) *ℤ (c *ℤ dy -ℤ (v *ℤ dx -ℤ u *ℤ dy) *ℤ zy) ≼ c *ℤ (v *ℤ P)
  along =
      let g = a *ℤ u +ℤ b *ℤ v in
      let M = v *ℤ dx -ℤ u *ℤ dy in
      let k = mul_bound (pos 8 *ℤ c) Dy M zy strip_left' w.strip_right w.z_low w.z_high in
      elim (le_or_lt (pos 0) g) [
        | inl h ↦ along_up g (c *ℤ dy -ℤ M *ℤ zy) c t v P w.c_some w.v_some h (to_end c dy (M *ℤ zy) Dy t v w.c_some w.row_high k.0) w.at_to
        | inr h ↦ along_down g (c *ℤ dy -ℤ M *ℤ zy) c v P w.c_some w.v_some h (from_start c dy (M *ℤ zy) Dy w.c_some w.row_low k.1) w.at_from
      ]

  pub near_meets : a *ℤ dx +ℤ b *ℤ dy ≼ pos 8 *ℤ ce +ℤ P
  near_meets =
      let N = a *ℤ dx +ℤ b *ℤ dy in
      let M = v *ℤ dx -ℤ u *ℤ dy in
      let s = pos 8 *ℤ ce +ℤ P in
      mul_cancel v N s (one_lt v w.v_some)
      (mul_cancel c (v *ℤ N) (v *ℤ s) (one_lt c w.c_some)
      (sum_le c v N (M *ℤ (a *ℤ zx +ℤ b *ℤ zy)) ((a *ℤ u +ℤ b *ℤ v) *ℤ (c *ℤ dy -ℤ M *ℤ zy)) ce P w.v_some sum across along))

  pub near_through : a ≼ pos 0 → pos 8 *ℤ ce +ℤ P ≼ a *ℤ dx +ℤ b *ℤ dy → Through a b ce u v zx zy Dy
  near_through ha h =
      let N = a *ℤ dx +ℤ b *ℤ dy in
      let M = v *ℤ dx -ℤ u *ℤ dy in
      let g = a *ℤ u +ℤ b *ℤ v in
      let nz = a *ℤ zx +ℤ b *ℤ zy in
      let T = c *ℤ dy -ℤ M *ℤ zy in
      let pc = one_lt c w.c_some in
      let q : pos 8 *ℤ c *ℤ ce ≼ M *ℤ nz = mul_cancel v (pos 8 *ℤ c *ℤ ce) (M *ℤ nz) (one_lt v w.v_some) (full_Q c v N (M *ℤ nz) (g *ℤ T) ce P w.c_some w.v_some sum along h) in
      let e_m : M ≡ pos 8 *ℤ c = le_antisymm M (pos 8 *ℤ c) w.strip_right (full_M c M nz ce w.ce_some w.strip_left w.strip_right w.z_within w.z_turned q) in
      let hn : ce ≼ nz = mul_cancel c ce nz pc (full_z c M nz ce e_m q) in
      let full = full_g c v N (M *ℤ nz) (g *ℤ T) ce P w.c_some w.v_some sum across h in
      let r : v *ℤ P ≼ g *ℤ (dy -ℤ pos 8 *ℤ zy) = mul_cancel c (v *ℤ P) (g *ℤ (dy -ℤ pos 8 *ℤ zy)) pc (drop_c c v P g M dy zy e_m full) in
      record { on_edge = hn; extreme = go hn r (le_or_lt (pos 0) g) (le_or_lt g (pos 0)) }
    where
      go : ce ≼ a *ℤ zx +ℤ b *ℤ zy → v *ℤ P ≼ (a *ℤ u +ℤ b *ℤ v) *ℤ (dy -ℤ pos 8 *ℤ zy) →
          (pos 0 ≼ a *ℤ u +ℤ b *ℤ v) ⊎ (a *ℤ u +ℤ b *ℤ v ≺ pos 0) → (a *ℤ u +ℤ b *ℤ v ≼ pos 0) ⊎ (pos 0 ≺ a *ℤ u +ℤ b *ℤ v) →
          ((pos 0 ≺ a *ℤ u +ℤ b *ℤ v) × (zy ≼ neg_ℤ Dy)) ⊎ ((a *ℤ u +ℤ b *ℤ v ≺ pos 0) × (Dy ≼ zy))
      go hn r (inr k) _ = inr (k, elim (le_or_lt Dy zy) [ inl l ↦ l | inr l ↦ absurd (highest_z v P _ dy zy Dy w.v_some w.at_from r k w.row_low l) ])
      go hn r (inl _) (inr k) = inl (k, lowest_z v dy zy t Dy (mul_cancel _ (t *ℤ v) (dy -ℤ pos 8 *ℤ zy) k (top_row_lem v P _ dy zy t w.v_some w.at_to r)) w.row_high)
      go hn r (inl k) (inl l) =
          let on-z = rw w.furthest_z at (normal_z a b u v zx zy) in
          absurd (along_path a v c (a *ℤ u +ℤ b *ℤ v) (a *ℤ zx +ℤ b *ℤ zy) ce zy ha w.c_some w.v_some w.ce_some hn on-z (le_antisymm _ _ l k))

-- ---- a level edge stands at the end of the path beyond the row, so it does not go through the point
pub level_misses : (a b ce v t dx dy Dy P : ℤ) → a ≡ pos 0 → pos 1 ≼ ce → pos 1 ≼ Dy → pos 8 *ℤ Dy ≼ dy → dy ≼ t *ℤ v -ℤ pos 8 *ℤ Dy →
    pos 0 ≼ P → t *ℤ (b *ℤ v) ≼ P → ¬ (pos 8 *ℤ ce +ℤ P ≼ a *ℤ dx +ℤ b *ℤ dy)
level_misses a b ce v t dx dy Dy P ea hce hD lo hi hP ht n = elim (le_or_lt (pos 0) b) [ inl k ↦ up a b ce v t dx dy Dy P ea hce hD hi ht n k | inr k ↦ down a b ce dx dy Dy P ea hce hD lo hP n k ]
  where
    up : (a b ce v t dx dy Dy P : ℤ) → a ≡ pos 0 → pos 1 ≼ ce → pos 1 ≼ Dy → dy ≼ t *ℤ v -ℤ pos 8 *ℤ Dy → t *ℤ (b *ℤ v) ≼ P → pos 8 *ℤ ce +ℤ P ≼ a *ℤ dx +ℤ b *ℤ dy → pos 0 ≼ b → ⊥
    up = ring 9 _ (λ ρ ea hce hD hi ht n k. mul_nn k (sub_nn hi) ⊢ mul_nn k (sub_nn hD) ⊢ ap (λ z. z *ℤ var ρ 5) ea ⊢ k ⊢ hce ⊢ ht ⊢ n ⊢ simp (reify, ρ) (omega arith))

    down : (a b ce dx dy Dy P : ℤ) → a ≡ pos 0 → pos 1 ≼ ce → pos 1 ≼ Dy → pos 8 *ℤ Dy ≼ dy → pos 0 ≼ P → pos 8 *ℤ ce +ℤ P ≼ a *ℤ dx +ℤ b *ℤ dy → b ≺ pos 0 → ⊥
    down = ring 7 _ (λ ρ ea hce hD lo hP n k. mul_nn (sub_pos k) (sub_nn lo) ⊢ mul_nn (sub_pos k) (sub_nn hD) ⊢ ap (λ z. z *ℤ var ρ 3) ea ⊢ k ⊢ lo ⊢ hD ⊢ hce ⊢ hP ⊢ n ⊢ simp (reify, ρ) (omega arith))
