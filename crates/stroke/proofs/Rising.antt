-- Line weight, the strip: on a path that goes t times (u, v), v at least 1, a centre in a row far enough inside is black exactly when it lies in the strip between the two
-- sides along the path, the right one with its line and the left one without. For the path's own two sides that is plain; a kept edge of the pen allows all of the strip
-- (`near_meets`), and a dropped one does not go through such a centre (`misses`).
use mathlib.Core.Path.{◌≡◌, refl, sym, ap, ◌∙◌, subst}
use mathlib.Core.Logic.Iff
use mathlib.Core.Logic.{◌⊎◌, inl, inr, ◌↔◌}
use mathlib.Core.Bool.{false}
use mathlib.Core.List.Memᴰ.{cast}
use mathlib.Core.List.{List}
use Prim.Native.Nat.{ℕ}
use native.Mathlib.Omega.{arith}
use lib.Dec.{le→leb}
use lib.IntN.{ℤ, pos, neg_ℤ, ◌+ℤ◌, ◌-ℤ◌, ◌*ℤ◌}
use lib.Signed.{le_z_yes}
use Rattle.integers.specs.Orders.{◌≼◌, ◌≺◌}
use Rattle.integers.specs.Compare.{max_z}
use Rattle.integers.specs.Count.{◌∈◌}
use Rattle.integers.proofs.Ring.{ring, reify, ◌⊢◌, var}
use Rattle.integers.proofs.Order.{mul_nn, sub_nn, sub_pos, le_or_lt, le_antisymm, lt_le}
use Rattle.integers.proofs.Signs.{neg_neg, neg_below, times_le, times_lt}
use Rattle.integers.proofs.Tests.{max_l, max_r, clash}
use Rattle.plane.specs.Point.{Pt, same}
use Rattle.plane.specs.Polygon.{Side, dot, edge, edges, PenLaws}
use Rattle.ties.proofs.Kept.{kept_laws}
use Rattle.ties.proofs.Laws.{dropped_leftward}
use Rattle.stroke.specs.Sweep.{Seg}
use Rattle.stroke.specs.Sides.{moved, furthest, touching}
use Rattle.stroke.specs.Black.{Black}
use Rattle.stroke.specs.Weight.{Direction, offset}
use Rattle.stroke.proofs.Corners.{edge_ends, ends_level, furthest_bound, corner_opposite, furthest_corner}
use Rattle.stroke.proofs.Support.{one_lt}
use Rattle.stroke.proofs.Sides.{sides_each, each_side, same_or_differ}
use Rattle.stroke.proofs.Black.{Allows, allows_kept, allows_dropped, black_iff}
use Rattle.stroke.proofs.Furthest.{above_lowest, furthest_times, furthest_turn}
use Rattle.stroke.proofs.Window.{Strip}
use Rattle.stroke.proofs.NearEdge.{Near, Through, near_meets, near_through, level_misses}

-- ---- the two sides along the path, W up and K across
right_side : (W K h x y ax ay t u v c : ℤ) → W ≡ t *ℤ v → K ≡ t *ℤ u → h ≡ t *ℤ c →
    (W *ℤ x +ℤ neg_ℤ K *ℤ y ≼ pos 8 *ℤ h +ℤ (W *ℤ ax +ℤ neg_ℤ K *ℤ ay)) ↔ (t *ℤ (v *ℤ (x -ℤ ax) -ℤ u *ℤ (y -ℤ ay)) ≼ t *ℤ (pos 8 *ℤ c))
right_side = ring 11 _ (λ ρ e f h. rw (e, f, h) (simp (reify, ρ) (omega arith)))

left_side : (W K h x y ax ay t u v c : ℤ) → W ≡ t *ℤ v → K ≡ t *ℤ u → h ≡ t *ℤ c →
    (neg_ℤ W *ℤ x +ℤ K *ℤ y ≺ pos 8 *ℤ h +ℤ (neg_ℤ W *ℤ ax +ℤ K *ℤ ay)) ↔ (t *ℤ neg_ℤ (pos 8 *ℤ c) ≺ t *ℤ (v *ℤ (x -ℤ ax) -ℤ u *ℤ (y -ℤ ay)))
left_side = ring 11 _ (λ ρ e f h. rw (e, f, h) (simp (reify, ρ) (omega arith)))

neg_times : (K t u : ℤ) → K ≡ t *ℤ u → neg_ℤ K ≡ t *ℤ neg_ℤ u
neg_times = ring 3 _ (simp reify (omega arith))

upwards : (W t v : ℤ) → pos 1 ≼ t → pos 1 ≼ v → W ≡ t *ℤ v → pos 0 ≺ W
upwards = ring 3 _ (λ ρ ht hv e. mul_nn (sub_nn ht) (sub_nn hv) ⊢ ht ⊢ hv ⊢ e ⊢ simp (reify, ρ) (omega arith))

not_same : (ay by : ℤ) → pos 0 ≺ by -ℤ ay → ¬ (ay ≡ by)
not_same = ring 2 _ (λ ρ. simp (reify, ρ) (omega arith))

-- c is some: of the rightmost corner and its mirror image one has v x - u y at least v Dx
c_pos : (v u x y c : ℤ) → pos 1 ≼ v → pos 1 ≼ x → v *ℤ x +ℤ neg_ℤ u *ℤ y ≼ c → v *ℤ x +ℤ neg_ℤ u *ℤ neg_ℤ y ≼ c → pos 1 ≼ c
c_pos = ring 5 _ (λ ρ hv hx h k. mul_nn (sub_nn hv) (sub_nn hx) ⊢ hv ⊢ hx ⊢ h ⊢ k ⊢ simp (reify, ρ) (omega arith))

-- ---- from A: the row, the edges, the corner z
row_from : (y ay D : ℤ) → ay +ℤ pos 8 *ℤ D ≼ y → pos 8 *ℤ D ≼ y -ℤ ay
row_from = ring 3 _ (λ ρ. simp (reify, ρ) (omega arith))

row_to : (y ay by D t v : ℤ) → by -ℤ ay ≡ t *ℤ v → y ≼ by -ℤ pos 8 *ℤ D → y -ℤ ay ≼ t *ℤ v -ℤ pos 8 *ℤ D
row_to = ring 6 _ (λ ρ. simp (reify, ρ) (omega arith))

turned_z : (a b x y c : ℤ) → a *ℤ neg_ℤ x +ℤ b *ℤ neg_ℤ y ≼ c → neg_ℤ c ≼ a *ℤ x +ℤ b *ℤ y
turned_z = ring 5 _ (simp reify (omega arith))

way : (a b ax ay bx by t u v m : ℤ) → bx -ℤ ax ≡ t *ℤ u → by -ℤ ay ≡ t *ℤ v → a *ℤ bx +ℤ b *ℤ by ≼ m → t *ℤ (a *ℤ u +ℤ b *ℤ v) ≼ m -ℤ (a *ℤ ax +ℤ b *ℤ ay)
way = ring 10 _ (λ ρ e f h. ap (λ z. var ρ 0 *ℤ z) e ⊢ ap (λ z. var ρ 1 *ℤ z) f ⊢ h ⊢ simp reify (omega arith))

level_way : (a b t u v P : ℤ) → a ≡ pos 0 → t *ℤ (a *ℤ u +ℤ b *ℤ v) ≼ P → t *ℤ (b *ℤ v) ≼ P
level_way = ring 6 _ (λ ρ e h. (rw e at h) ⊢ simp (reify, ρ) (omega arith))

out_of : (a b ce x y ax ay m : ℤ) → a *ℤ (x -ℤ ax) +ℤ b *ℤ (y -ℤ ay) ≼ pos 8 *ℤ ce +ℤ (m -ℤ (a *ℤ ax +ℤ b *ℤ ay)) → a *ℤ x +ℤ b *ℤ y ≼ pos 8 *ℤ ce +ℤ m
out_of = ring 8 _ (λ ρ. simp (reify, ρ) (omega arith))

into : (a b ce x y ax ay m : ℤ) → pos 8 *ℤ ce +ℤ m ≼ a *ℤ x +ℤ b *ℤ y → pos 8 *ℤ ce +ℤ (m -ℤ (a *ℤ ax +ℤ b *ℤ ay)) ≼ a *ℤ (x -ℤ ax) +ℤ b *ℤ (y -ℤ ay)
into = ring 8 _ (λ ρ. simp (reify, ρ) (omega arith))

-- ---- another corner w on a dropped edge through z: were it above z where the normal points on along the path, or below z where it points back, w would be further out
-- than z
no_further : (a b ce c u v zx zy wx wy : ℤ) → a ≼ pos 0 → a *ℤ wx +ℤ b *ℤ wy ≡ ce → a *ℤ zx +ℤ b *ℤ zy ≡ ce → v *ℤ wx +ℤ neg_ℤ u *ℤ wy ≼ c → v *ℤ zx +ℤ neg_ℤ u *ℤ zy ≡ c →
    (a *ℤ u +ℤ b *ℤ v) *ℤ (wy -ℤ zy) ≼ pos 0
no_further = ring 10 _ (λ ρ ha e f h k. mul_nn (sub_nn ha) (sub_nn h) ⊢ ap (λ z. var ρ 5 *ℤ z) e ⊢ ap (λ z. var ρ 5 *ℤ z) f ⊢ ap (λ z. var ρ 0 *ℤ z) k ⊢ simp (reify, ρ) (omega arith))

both_up : (x y : ℤ) → pos 0 ≺ x → pos 0 ≺ y → ¬ (x *ℤ y ≼ pos 0)
both_up = ring 2 _ (λ ρ h k n. mul_nn (sub_pos h) (sub_pos k) ⊢ h ⊢ k ⊢ n ⊢ simp (reify, ρ) (omega arith))

both_down : (x y : ℤ) → x ≺ pos 0 → y ≺ pos 0 → ¬ (x *ℤ y ≼ pos 0)
both_down = ring 2 _ (λ ρ h k n. mul_nn (sub_pos h) (sub_pos k) ⊢ h ⊢ k ⊢ n ⊢ simp (reify, ρ) (omega arith))

-- a dropped edge runs down from p to q, so p lies above the lowest corner and q below the highest
p_above : (py qy zy Dy : ℤ) → qy -ℤ py ≺ pos 0 → neg_ℤ Dy ≼ qy → zy ≼ neg_ℤ Dy → pos 0 ≺ py -ℤ zy
p_above = ring 4 _ (λ ρ. simp (reify, ρ) (omega arith))

q_below : (py qy zy Dy : ℤ) → qy -ℤ py ≺ pos 0 → py ≼ Dy → Dy ≼ zy → qy -ℤ zy ≺ pos 0
q_below = ring 4 _ (λ ρ. simp (reify, ρ) (omega arith))

module _ (cs : List Pt) (Dx Dy : ℤ) (pen : PenLaws cs Dx Dy) (g : Seg) (u : ℤ) (v : ℕ) (t : ℤ) (dir : Direction g u v t) where
  v_some : pos 1 ≼ pos v
  v_some = le_z_yes (le→leb 1 v dir.rising)

  t_pos : pos 0 ≺ t
  t_pos = one_lt t dir.times

  rises : pos 0 ≺ g.to.y -ℤ g.from.y
  rises = upwards (g.to.y -ℤ g.from.y) t (pos v) dir.times v_some dir.upward

  -- both sides along the path stand t times as far out as those of the direction
  right_far : furthest (g.to.y -ℤ g.from.y) (neg_ℤ (g.to.x -ℤ g.from.x)) cs ≡ t *ℤ offset cs u v
  right_far = furthest_times cs Dx Dy pen t (pos v) (neg_ℤ u) _ _ (lt_le (pos 0) t t_pos) dir.upward (neg_times _ t u dir.across)

  left_far : furthest (neg_ℤ (g.to.y -ℤ g.from.y)) (g.to.x -ℤ g.from.x) cs ≡ t *ℤ offset cs u v
  left_far = furthest_turn cs Dx Dy pen _ _ _ _ refl (neg_neg _) ∙ right_far

  c_some : pos 1 ≼ offset cs u v
  c_some =
      let z = pen.rightmost.0 in
      let m = pen.rightmost.1 in
      c_pos (pos v) u z.x z.y (offset cs u v) v_some (rw pen.rightmost.2 pen.somewide) (furthest_bound (pos v) (neg_ℤ u) cs m) (furthest_bound (pos v) (neg_ℤ u) cs (pen.mirror_y z m))

  -- the ends of the path differ, since it rises
  apart : same g.from g.to ≡ false
  apart = elim (same_or_differ g.from g.to) [ inl e ↦ absurd (not_same g.from.y g.to.y rises e.1) | inr e ↦ e ]

  module _ (X : Pt) where
    -- where X stands across the path
    abbrev M : ℤ
    M = pos v *ℤ (X.x -ℤ g.from.x) -ℤ u *ℤ (X.y -ℤ g.from.y)

    -- the right side is kept, the left one dropped
    right_iff : Allows X (touching cs g.from (g.to.y -ℤ g.from.y) (neg_ℤ (g.to.x -ℤ g.from.x))) ↔ (M ≼ pos 8 *ℤ offset cs u v)
    right_iff =
        let W = g.to.y -ℤ g.from.y in
        let K = g.to.x -ℤ g.from.x in
        Iff.trans (allows_kept (kept_laws.rightward W (neg_ℤ K) rises))
        (Iff.trans (right_side W K (furthest W (neg_ℤ K) cs) X.x X.y g.from.x g.from.y t u (pos v) (offset cs u v) dir.upward dir.across right_far)
        (times_le t M (pos 8 *ℤ offset cs u v) t_pos))

    left_iff : Allows X (touching cs g.from (neg_ℤ (g.to.y -ℤ g.from.y)) (g.to.x -ℤ g.from.x)) ↔ (neg_ℤ (pos 8 *ℤ offset cs u v) ≺ M)
    left_iff =
        let W = g.to.y -ℤ g.from.y in
        let K = g.to.x -ℤ g.from.x in
        Iff.trans (allows_dropped (dropped_leftward (neg_ℤ W) K (neg_below W rises)))
        (Iff.trans (left_side W K (furthest (neg_ℤ W) K cs) X.x X.y g.from.x g.from.y t u (pos v) (offset cs u v) dir.upward dir.across left_far)
        (times_lt t (neg_ℤ (pos 8 *ℤ offset cs u v)) M t_pos))

    module _ (lo : g.from.y +ℤ pos 8 *ℤ Dy ≼ X.y) (hi : X.y ≼ g.to.y -ℤ pos 8 *ℤ Dy) (s : Strip (offset cs u v) u (pos v) g.from X) where
      -- the corner that the right side touches
      z : Pt
      z = (furthest_corner cs Dx Dy pen (pos v) (neg_ℤ u)).0

      -- what the arithmetic of an edge in the strip asks for: the corner from the laws of the pen, the row and the strip as given
      near : (e : Side) → e ∈ edges cs →
          Near e.a e.b e.c (offset cs u v) u (pos v) t (X.x -ℤ g.from.x) (X.y -ℤ g.from.y) z.x z.y Dy
          (max_z (dot e.a e.b g.from) (dot e.a e.b g.to) -ℤ dot e.a e.b g.from)
      unfolding z
      near e me =
          let A = g.from in
          let B = g.to in
          let mz = (furthest_corner cs Dx Dy pen (pos v) (neg_ℤ u)).1 in
          let p_a = dot e.a e.b A in
          let p_b = dot e.a e.b B in
          record {
            c_some = c_some;
            v_some = v_some;
            ce_some = pen.thick e me;
            furthest_z = (furthest_corner cs Dx Dy pen (pos v) (neg_ℤ u)).2;
            z_within = pen.convex e z me mz;
            z_turned = turned_z e.a e.b z.x z.y e.c (pen.convex e _ me (corner_opposite cs Dx Dy pen mz));
            z_low = above_lowest cs Dx Dy pen mz;
            z_high = pen.high z mz;
            row_low = row_from X.y A.y Dy lo;
            row_high = row_to X.y A.y B.y Dy t (pos v) dir.upward hi;
            at_from = sub_nn (max_l p_a p_b);
            at_to = way e.a e.b A.x A.y B.x B.y t u (pos v) (max_z p_a p_b) dir.across dir.upward (max_r p_a p_b);
            strip_left = s.left;
            strip_right = s.right;
          }

      -- an edge with no part to the right does not go through X: a level one stands at an end of the path, and on a slanted one z would not be the furthest corner
      misses : (p q : Pt) → p ∈ cs → q ∈ cs → edge p q ∈ edges cs → (edge p q).a ≼ pos 0 → ¬ ((moved g (edge p q)).c ≼ dot (edge p q).a (edge p q).b X)
      misses p q mp mq me ha h = go (le_or_lt (pos 0) e.a)
        where
          e : Side
          e = edge p q

          n : pos 8 *ℤ e.c +ℤ (max_z (dot e.a e.b g.from) (dot e.a e.b g.to) -ℤ dot e.a e.b g.from) ≼ e.a *ℤ (X.x -ℤ g.from.x) +ℤ e.b *ℤ (X.y -ℤ g.from.y)
          n = into e.a e.b e.c X.x X.y g.from.x g.from.y _ h

          slant : e.a ≺ pos 0 → Through e.a e.b e.c u (pos v) z.x z.y Dy → ⊥
          slant k r =
              let w = near e me in
              let D = e.a *ℤ u +ℤ e.b *ℤ pos v in
              let ez = le_antisymm (dot e.a e.b z) e.c w.z_within r.on_edge in
              let at : (y : Pt) → y ∈ cs → dot e.a e.b y ≡ e.c → D *ℤ (y.y -ℤ z.y) ≼ pos 0 = λ y m ey.
              no_further e.a e.b e.c (offset cs u v) u (pos v) z.x z.y y.x y.y ha ey ez (furthest_bound (pos v) (neg_ℤ u) cs m) w.furthest_z in
              elim r.extreme [
                | inl s ↦ both_up D (p.y -ℤ z.y) s.0 (p_above p.y q.y z.y Dy k (above_lowest cs Dx Dy pen mq) s.1) (at p mp refl)
                | inr s ↦ both_down D (q.y -ℤ z.y) s.0 (q_below p.y q.y z.y Dy k (pen.high p mp) s.1) (at q mq (ends_level p.x p.y q.x q.y))
              ]

          go : (pos 0 ≼ e.a) ⊎ (e.a ≺ pos 0) → ⊥
          go (inl k) =
              let w = near e me in
              let ea = le_antisymm e.a (pos 0) ha k in
              level_misses e.a e.b e.c (pos v) t _ _ Dy _ ea w.ce_some pen.somehigh w.row_low w.row_high w.at_from (level_way e.a e.b t u (pos v) _ ea w.at_to) n
          go (inr k) = slant k (near_through (near e me) ha n)

      -- so a dropped edge allows X too
      edge_allows : (p q : Pt) → p ∈ cs → q ∈ cs → edge p q ∈ edges cs → Allows X (moved g (edge p q))
      edge_allows p q mp mq me =
          let e = edge p q in
          let m = max_z (dot e.a e.b g.from) (dot e.a e.b g.to) in
          record {
            with = λ _. out_of e.a e.b e.c X.x X.y g.from.x g.from.y m (near_meets (near e me));
            without = λ k. elim (le_or_lt (moved g e).c (dot e.a e.b X)) [
              | inr l ↦ l
              | inl l ↦ absurd (elim (le_or_lt e.a (pos 0)) [ inr h ↦ clash (kept_laws.rightward e.a e.b h) k | inl h ↦ misses p q mp mq me h l ])
            ];
          }

    -- all sides allow X exactly when the two along the path do
    pub rising_iff : g.from.y +ℤ pos 8 *ℤ Dy ≼ X.y → X.y ≼ g.to.y -ℤ pos 8 *ℤ Dy → Black cs g X ↔ Strip (offset cs u v) u (pos v) g.from X
    rising_iff lo hi =
        let k = black_iff cs Dx Dy pen g X in (
          (λ h. let p = (sides_each (Allows X) cs g (k.0 h)).path apart in record { left = left_iff.0 p.1; right = right_iff.0 p.0 }),
          λ s. k.1 (each_side (Allows X) cs g (record {
            edgewise = λ e m. let r = edge_ends cs m in subst (λ (d : Side). Allows X (moved g d)) (sym r.4) (edge_allows lo hi s r.0 r.1 r.2 r.3 (cast (sym r.4) m));
            path = λ _. (right_iff.1 s.right, left_iff.1 s.left);
          })),
        )
