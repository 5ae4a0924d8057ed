-- The drawing n times as large: its pen has the laws of a pen again, and the sides of a segment are those of before, enlarged.
use mathlib.Core.Path.{◌≡◌, refl, sym, ap, ap₂, ◌∙◌, subst}
use mathlib.Core.Logic.{◌↔◌}
use mathlib.Core.Bool.{Bool, true, false, cond, ◌&&◌}
use mathlib.Core.List.Memᴰ
use mathlib.Core.List.{List, [], ◌∷◌, ◌++◌, map, map-append}
use native.Mathlib.Omega.{arith}
use lib.IntN.{ℤ, pos, neg_ℤ, ◌+ℤ◌, ◌-ℤ◌, ◌*ℤ◌}
use Rattle.integers.specs.Orders.{◌≼◌, ◌≺◌}
use Rattle.integers.specs.Compare.{max_z, eq_z}
use Rattle.integers.specs.Count.{◌∈◌}
use Rattle.integers.proofs.Ring.{ring, reify, ◌⊢◌}
use Rattle.integers.proofs.Order.{mul_nn, sub_nn, sub_pos, mul_mono, mul_neg, lt_le}
use Rattle.integers.proofs.Signs.{times_zero, times_le, square_pos}
use Rattle.integers.proofs.Tests.{same_le, times_max}
use Rattle.plane.specs.Point.{Pt, pt, same}
use Rattle.plane.specs.Polygon.{Side, dot, edge, chain, edges, reach, PenLaws}
use Rattle.stroke.specs.Sweep.{Seg}
use Rattle.stroke.specs.Sides.{moved, furthest, touching, path_sides, sides}
use Rattle.stroke.specs.Beside.{larger, larger_seg}
use Rattle.stroke.proofs.Lists.{map_iff}

times_some : (t x : ℤ) → pos 0 ≺ t → pos 1 ≼ x → pos 1 ≼ t *ℤ x
times_some = ring 2 _ (λ ρ h k. mul_nn (sub_pos h) (sub_nn k) ⊢ h ⊢ k ⊢ simp (reify, ρ) (omega arith))

-- ---- coordinates: differences are n times as great, and a x + b y is n n times as great
ahead : (n p q : ℤ) → n *ℤ p -ℤ n *ℤ q ≡ n *ℤ (p -ℤ q)
ahead = ring 3 _ (simp reify (omega arith))

back : (n p q : ℤ) → neg_ℤ (n *ℤ p -ℤ n *ℤ q) ≡ n *ℤ neg_ℤ (p -ℤ q)
back = ring 3 _ (simp reify (omega arith))

dots : (n a b x y : ℤ) → n *ℤ a *ℤ (n *ℤ x) +ℤ n *ℤ b *ℤ (n *ℤ y) ≡ n *ℤ n *ℤ (a *ℤ x +ℤ b *ℤ y)
dots = ring 5 _ (simp reify (omega arith))

level : (n px py qx qy : ℤ) → (n *ℤ qy -ℤ n *ℤ py) *ℤ (n *ℤ px) +ℤ (n *ℤ px -ℤ n *ℤ qx) *ℤ (n *ℤ py) ≡ n *ℤ n *ℤ ((qy -ℤ py) *ℤ px +ℤ (px -ℤ qx) *ℤ py)
level = ring 5 _ (simp reify (omega arith))

eights : (N c d : ℤ) → pos 8 *ℤ (N *ℤ c) +ℤ N *ℤ d ≡ N *ℤ (pos 8 *ℤ c +ℤ d)
eights = ring 3 _ (λ ρ. simp (reify, ρ) (omega arith))

-- so a side becomes this one
abbrev pub enlarge : ℤ → Side → Side
enlarge n e = record { a = n *ℤ e.a; b = n *ℤ e.b; c = n *ℤ n *ℤ e.c }

-- sides are equal by their three numbers
abbrev side : ℤ → ℤ → ℤ → Side
side a b c = record { a = a; b = b; c = c }

side_eq : {a b c a' b' c' : ℤ} → a ≡ a' → b ≡ b' → c ≡ c' → side a b c ≡ side a' b' c'
side_eq p q r = rw (p, q, r)

module _ (n : ℤ) where
  -- ---- the edges of a polygon, one by one
  edge_larger : (P Q : Pt) → edge (larger n P) (larger n Q) ≡ enlarge n (edge P Q)
  edge_larger P Q = side_eq (ahead n Q.y P.y) (ahead n P.x Q.x) (level n P.x P.y Q.x Q.y)

  chain_larger : (F P : Pt) (l : List Pt) → chain (larger n F) (larger n P) (map (larger n) l) ≡ map (enlarge n) (chain F P l)
  unfolding chain
  chain_larger F P [] = ap (λ (e : Side). e ∷ []) (edge_larger P F)
  chain_larger F P (Q ∷ l) = ap₂ ◌∷◌ (edge_larger P Q) (chain_larger F Q l)

  edges_larger : (cs : List Pt) → edges (map (larger n) cs) ≡ map (enlarge n) (edges cs)
  unfolding edges
  edges_larger [] = refl
  edges_larger (P ∷ l) = chain_larger P P l

  reach_larger : (cs : List Pt) → reach (map (larger n) cs) ≡ n *ℤ reach cs
  reach_larger [] = sym (times_zero n)
  reach_larger (z ∷ l) = sym (mul_neg n z.y)

module _ (n : ℤ) (some : pos 0 ≺ n) where
  -- ---- the pen
  -- what holds of each edge, enlarged, holds of the edges of the enlarged pen
  each_edge : (cs : List Pt) (Q : Side → Type 0) → ((e : Side) → e ∈ edges cs → Q (enlarge n e)) → (e : Side) → e ∈ edges (map (larger n) cs) → Q e
  each_edge cs Q h e m = (map_iff (enlarge n) Q (edges cs)).0 h e (subst (λ (l : List Side). e ∈ l) (edges_larger n cs) m)

  within_larger : (e : Side) (z : Pt) → dot e.a e.b z ≼ e.c → dot (n *ℤ e.a) (n *ℤ e.b) (larger n z) ≼ n *ℤ n *ℤ e.c
  within_larger e z h = rw (dots n e.a e.b z.x z.y) (mul_mono (n *ℤ n) (dot e.a e.b z) e.c (lt_le (pos 0) (n *ℤ n) (square_pos n some)) h)

  -- each law is the pen's own, at the corners and edges of before
  pub pen_larger : (cs : List Pt) (Dx Dy : ℤ) → PenLaws cs Dx Dy → PenLaws (map (larger n) cs) (n *ℤ Dx) (n *ℤ Dy)
  pen_larger cs Dx Dy pen = record {
    mirror_x = each (λ z. pt (neg_ℤ z.x) z.y ∈ cs') (λ z m. subst (λ (x : ℤ). pt x (n *ℤ z.y) ∈ cs') (mul_neg n z.x) (Memᴰ.map (larger n) (pen.mirror_x z m)));
    mirror_y = each (λ z. pt z.x (neg_ℤ z.y) ∈ cs') (λ z m. subst (λ (y : ℤ). pt (n *ℤ z.x) y ∈ cs') (mul_neg n z.y) (Memᴰ.map (larger n) (pen.mirror_y z m)));
    convex = λ f z mf mz. each_edge cs (λ f. dot f.a f.b z ≼ f.c) (λ e me. within_all e (λ w mw. pen.convex e w me mw) z mz) f mf;
    thick = each_edge cs (λ e. pos 1 ≼ e.c) (λ e m. times_some (n *ℤ n) e.c (square_pos n some) (pen.thick e m));
    wide = each (λ z. z.x ≼ n *ℤ Dx) (λ z m. mul_mono n z.x Dx (lt_le (pos 0) n some) (pen.wide z m));
    high = each (λ z. z.y ≼ n *ℤ Dy) (λ z m. mul_mono n z.y Dy (lt_le (pos 0) n some) (pen.high z m));
    rightmost = let r = pen.rightmost in (larger n r.0, Memᴰ.map (larger n) r.1, ap (λ (x : ℤ). n *ℤ x) r.2);
    lowest = let r = pen.lowest in (larger n r.0, Memᴰ.map (larger n) r.1, ap (λ (y : ℤ). n *ℤ y) r.2 ∙ mul_neg n Dy);
    reaches = reach_larger n cs ∙ ap (λ (y : ℤ). n *ℤ y) pen.reaches;
    somewide = times_some n Dx some pen.somewide;
    somehigh = times_some n Dy some pen.somehigh;
  }
    where
      cs' : List Pt
      cs' = map (larger n) cs

      each : (Q : Pt → Type 0) → ((z : Pt) → z ∈ cs → Q (larger n z)) → (z : Pt) → z ∈ cs' → Q z
      each Q = (map_iff (larger n) Q cs).0

      within_all : (e : Side) → ((w : Pt) → w ∈ cs → dot e.a e.b w ≼ e.c) → (z : Pt) → z ∈ cs' → dot (n *ℤ e.a) (n *ℤ e.b) z ≼ n *ℤ n *ℤ e.c
      within_all e h = each (λ z. dot (n *ℤ e.a) (n *ℤ e.b) z ≼ n *ℤ n *ℤ e.c) (λ w m. within_larger e w (h w m))

  -- ---- the sides of a segment: the moved edges
  moved_larger : (g : Seg) (e : Side) → moved (larger_seg n g) (enlarge n e) ≡ enlarge n (moved g e)
  moved_larger g e =
      let A = dot e.a e.b g.from in
      let B = dot e.a e.b g.to in
      let further = ap₂ max_z (dots n e.a e.b g.from.x g.from.y) (dots n e.a e.b g.to.x g.to.y) ∙ times_max (n *ℤ n) A B (square_pos n some) in
      side_eq refl refl (ap (λ (z : ℤ). pos 8 *ℤ (n *ℤ n *ℤ e.c) +ℤ z) further ∙ eights (n *ℤ n) e.c (max_z A B))

  all_moved : (g : Seg) (l : List Side) → map (moved (larger_seg n g)) (map (enlarge n) l) ≡ map (enlarge n) (map (moved g) l)
  all_moved g [] = refl
  all_moved g (e ∷ l) = ap₂ ◌∷◌ (moved_larger g e) (all_moved g l)

  -- ---- and the two along the path
  furthest_larger : (a b : ℤ) (l : List Pt) → furthest (n *ℤ a) (n *ℤ b) (map (larger n) l) ≡ n *ℤ n *ℤ furthest a b l
  unfolding furthest
  furthest_larger a b [] = sym (times_zero (n *ℤ n))
  furthest_larger a b (z ∷ l) = ap₂ max_z (dots n a b z.x z.y) (furthest_larger a b l) ∙ times_max (n *ℤ n) (dot a b z) (furthest a b l) (square_pos n some)

  touching_larger : (cs : List Pt) (P : Pt) (a b : ℤ) {a' b' : ℤ} → a' ≡ n *ℤ a → b' ≡ n *ℤ b →
      touching (map (larger n) cs) (larger n P) a' b' ≡ enlarge n (touching cs P a b)
  touching_larger cs P a b p q =
      let F = furthest a b cs in
      rw (p, q) (side_eq refl refl (ap₂ (λ (x y : ℤ). pos 8 *ℤ x +ℤ y) (furthest_larger a b cs) (dots n a b P.x P.y) ∙ eights (n *ℤ n) F (dot a b P)))

  -- the ends differ exactly when they did
  same_larger : (P Q : Pt) → same (larger n P) (larger n Q) ≡ same P Q
  same_larger P Q = ap₂ ◌&&◌ (both P.x Q.x) (both P.y Q.y)
    where
      both : (x y : ℤ) → eq_z (n *ℤ x) (n *ℤ y) ≡ eq_z x y
      both x y = ap₂ ◌&&◌ (same_le (times_le n x y some)) (same_le (times_le n y x some))

  path_larger : (cs : List Pt) (g : Seg) → path_sides (map (larger n) cs) (larger_seg n g) ≡ map (enlarge n) (path_sides cs g)
  path_larger cs g =
      let A = g.from in
      let B = g.to in
      let u = B.x -ℤ A.x in
      let v = B.y -ℤ A.y in
      two (same A B) (touching cs A v (neg_ℤ u)) (touching cs A (neg_ℤ v) u) (same_larger A B)
      (touching_larger cs A v (neg_ℤ u) (ahead n B.y A.y) (back n B.x A.x)) (touching_larger cs A (neg_ℤ v) u (back n B.y A.y) (ahead n B.x A.x))
    where
      two : (t : Bool) (p q : Side) {t' : Bool} {p' q' : Side} → t' ≡ t → p' ≡ enlarge n p → q' ≡ enlarge n q →
          cond t' [] (p' ∷ q' ∷ []) ≡ map (enlarge n) (cond t [] (p ∷ q ∷ []))
      two true p q e h k = rw e
      two false p q e h k = rw (e, h, k)

  module _ (cs : List Pt) (g : Seg) where
    sides_larger : sides (map (larger n) cs) (larger_seg n g) ≡ map (enlarge n) (sides cs g)
    unfolding sides
    sides_larger =
        ap₂ ◌++◌ (ap (map (moved (larger_seg n g))) (edges_larger n cs) ∙ all_moved g (edges cs)) (path_larger cs g)
        ∙ sym (map-append (enlarge n) (map (moved g) (edges cs)) (path_sides cs g))

    -- what holds of each side, enlarged, is what holds of the sides of the enlarged segment
    pub each_larger : (Q : Side → Type 0) → ((e : Side) → e ∈ sides cs g → Q (enlarge n e)) ↔ ((e : Side) → e ∈ sides (map (larger n) cs) (larger_seg n g) → Q e)
    each_larger Q = rw sides_larger (map_iff (enlarge n) Q (sides cs g))
