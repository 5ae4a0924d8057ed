-- Whatever the rules of specs/Steps come to, its edges lie on their lines. A new edge does since L and R turn by exactly 1 where they are cut: step 1 lets no
-- more through, and each edge turns from every edge before it, a sum of two edges as well as they.
use mathlib.Core.Path.{◌≡◌, refl, sym, ap, ap₂, ◌∙◌}
use mathlib.Core.List.{List, [], ◌∷◌}
use native.Mathlib.Omega.{arith}
use lib.Signed.{lt_z_yes}
use lib.IntN.{ℤ, pos, neg_ℤ, ◌+ℤ◌, ◌-ℤ◌, ◌*ℤ◌}
use Rattle.integers.specs.Orders.{◌≼◌, ◌≺◌}
use Rattle.integers.proofs.Ring.{ring, reify}
use Rattle.setting.specs.declared.Setting.{Setting}
use Rattle.setting.specs.Setting.{Dx, Dy}
use Rattle.quarter.specs.Steps.{EdgeZ, CornerZ, all_of, turn, NewEdge, LeftOfL, LeftOfR, Cut, both, left, right, new, Dropped}
use Rattle.quarter.specs.Steps.{Comes, start, putting, cutting, On, end_of, Lie, none_lies, edge_lies}
use Rattle.quarter.proofs.Unique.{corner_one}

-- ---- what holds
-- each edge of the list turns from E
data Turns (E : EdgeZ) : List EdgeZ → Type 0 where
  none_turns : Turns E []
  edge_turns : {F : EdgeZ} {es : List EdgeZ} → pos 0 ≺ turn E F → Turns E es → Turns E (F ∷ es)

-- the edges lie on their lines, and each turns from all before it
data Rising : CornerZ → List EdgeZ → Type 0 where
  none_rises : {A : CornerZ} → Rising A []
  edge_rises : {A : CornerZ} {E : EdgeZ} {es : List EdgeZ} → On A E → Turns E es → Rising (end_of A E) es → Rising A (E ∷ es)

record Holds (A : CornerZ) (L : EdgeZ) (es : List EdgeZ) : Type 0 where
  on : On A L
  turns : Turns L es
  rising : Rising A es

-- ---- directions
turn_same : (E F G H : EdgeZ) → E.u ≡ G.u → E.v ≡ G.v → F.u ≡ H.u → F.v ≡ H.v → pos 0 ≺ turn G H → pos 0 ≺ turn E F
turn_same E F G H a b c d h = rw (a, b, c, d) h

turns_same : (E F : EdgeZ) {es : List EdgeZ} → E.u ≡ F.u → E.v ≡ F.v → Turns F es → Turns E es
turns_same E F a b none_turns = none_turns
turns_same E F a b (edge_turns {F = G} h t) = edge_turns (turn_same E G F G a b refl refl h) (turns_same E F a b t)

-- an edge that turns from two turns from their sum
sum_turn : (a b c d u v : ℤ) → pos 0 ≺ a *ℤ v -ℤ b *ℤ u → pos 0 ≺ c *ℤ v -ℤ d *ℤ u → pos 0 ≺ (a +ℤ c) *ℤ v -ℤ (b +ℤ d) *ℤ u
sum_turn = ring 6 _ (λ ρ. simp (reify, ρ) (omega arith))

-- the sum of two lies between them
before_sum : (a b c d : ℤ) → pos 0 ≺ a *ℤ d -ℤ b *ℤ c → pos 0 ≺ a *ℤ (b +ℤ d) -ℤ b *ℤ (a +ℤ c)
before_sum = ring 4 _ (λ ρ. simp (reify, ρ) (omega arith))

after_sum : (a b c d : ℤ) → pos 0 ≺ a *ℤ d -ℤ b *ℤ c → pos 0 ≺ (a +ℤ c) *ℤ d -ℤ (b +ℤ d) *ℤ c
after_sum = ring 4 _ (λ ρ. simp (reify, ρ) (omega arith))

-- ---- lines
on_along : (u v c x y s : ℤ) → v *ℤ x -ℤ u *ℤ y ≡ c → v *ℤ (x +ℤ s *ℤ u) -ℤ u *ℤ (y +ℤ s *ℤ v) ≡ c
on_along = ring 6 _ (simp reify (omega arith))

on_back : (u v c x y s : ℤ) → v *ℤ x -ℤ u *ℤ y ≡ c → v *ℤ (x -ℤ s *ℤ u) -ℤ u *ℤ (y -ℤ s *ℤ v) ≡ c
on_back = ring 6 _ (simp reify (omega arith))

-- s directions back along (a, b), and on along (c, d), s is off the sum of the offsets
sum_back : (a b e c d f x y s : ℤ) → b *ℤ x -ℤ a *ℤ y ≡ e → d *ℤ x -ℤ c *ℤ y ≡ f → s *ℤ (a *ℤ d -ℤ b *ℤ c) ≡ s →
    (b +ℤ d) *ℤ (x -ℤ s *ℤ a) -ℤ (a +ℤ c) *ℤ (y -ℤ s *ℤ b) ≡ e +ℤ f -ℤ s
sum_back = ring 9 _ (simp reify (omega arith))

sum_along : (a b e c d f x y s : ℤ) → b *ℤ x -ℤ a *ℤ y ≡ e → d *ℤ x -ℤ c *ℤ y ≡ f → s *ℤ (a *ℤ d -ℤ b *ℤ c) ≡ s →
    (b +ℤ d) *ℤ (x +ℤ s *ℤ c) -ℤ (a +ℤ c) *ℤ (y +ℤ s *ℤ d) ≡ e +ℤ f -ℤ s
sum_along = ring 9 _ (simp reify (omega arith))

times_turn : (s t : ℤ) → pos 0 ≺ t → t ≼ pos 1 → s *ℤ t ≡ s
times_turn s t h k = ap (λ (z : ℤ). s *ℤ z) (one t h k) ∙ by_one s
  where
    one : (t : ℤ) → pos 0 ≺ t → t ≼ pos 1 → t ≡ pos 1
    one = ring 1 _ (λ ρ. simp (reify, ρ) (omega arith))

    by_one : (s : ℤ) → s *ℤ pos 1 ≡ s
    by_one = ring 1 _ (λ ρ. simp (reify, ρ) (omega arith))

-- ---- the new edge
module _ {A B E : CornerZ} {L R N : EdgeZ} {s : ℤ} (n : NewEdge A L R s N B E) where
  new_starts : On A L → On A R → s *ℤ turn L R ≡ s → On B N
  new_starts h k e = rw (n.u, n.v, n.c, n.from_x, n.from_y) (sum_back L.u L.v L.c R.u R.v R.c A.x A.y s h k e)

  new_ends : On A L → On A R → s *ℤ turn L R ≡ s → On E N
  new_ends h k e = rw (n.u, n.v, n.c, n.to_x, n.to_y) (sum_along L.u L.v L.c R.u R.v R.c A.x A.y s h k e)

  new_after : pos 0 ≺ turn L R → pos 0 ≺ turn L N
  new_after h = rw (n.u, n.v) (before_sum L.u L.v R.u R.v h)

  new_before : pos 0 ≺ turn L R → pos 0 ≺ turn N R
  new_before h = rw (n.u, n.v) (after_sum L.u L.v R.u R.v h)

  new_turns : {es : List EdgeZ} → Turns L es → Turns R es → Turns N es
  new_turns none_turns none_turns = none_turns
  new_turns (edge_turns {F = F} h t) (edge_turns k r) = edge_turns {F = F} (rw (n.u, n.v) (sum_turn L.u L.v R.u R.v F.u F.v h k)) (new_turns t r)

  -- it is s directions long
  across_new : (x a c s l : ℤ) → s ≡ l → x -ℤ s *ℤ a +ℤ l *ℤ (a +ℤ c) ≡ x +ℤ s *ℤ c
  across_new = ring 5 _ (λ ρ e. rw (← e) (simp reify (omega arith)))

  new_end : s ≡ all_of N → end_of B N ≡ E
  new_end e = corner_one
      (rw (n.u, n.from_x, n.to_x) (across_new A.x L.u R.u s (all_of N) e))
      (rw (n.v, n.from_y, n.to_y) (across_new A.y L.v R.v s (all_of N) e))

  -- where it is as long as R it ends with R
  end_with : s ≡ all_of R → E ≡ end_of A R
  end_with e = corner_one (n.to_x ∙ ap (λ (z : ℤ). A.x +ℤ z *ℤ R.u) e) (n.to_y ∙ ap (λ (z : ℤ). A.y +ℤ z *ℤ R.v) e)

  -- what is left of R starts where it ends, and ends with R
  rest_on : {S : EdgeZ} → LeftOfR R s S → On A R → On E S
  rest_on r h = rw (r.u, r.v, r.c, n.to_x, n.to_y) (on_along R.u R.v R.c A.x A.y s h)

  across_rest : (x u s l m : ℤ) → x +ℤ s *ℤ u +ℤ (l -ℤ s +ℤ m) *ℤ u ≡ x +ℤ (l +ℤ m) *ℤ u
  across_rest = ring 5 _ (simp reify (omega arith))

  rest_end : {S : EdgeZ} → LeftOfR R s S → end_of E S ≡ end_of A R
  rest_end r = corner_one
      (rw (r.u, r.l1, r.l2, n.to_x) (across_rest A.x R.u s R.l1 R.l2))
      (rw (r.v, r.l1, r.l2, n.to_y) (across_rest A.y R.v s R.l1 R.l2))

  -- what is left of L ends where it starts
  left_on : {K : EdgeZ} → LeftOfL L s K → On A L → On B K
  left_on l h = rw (l.u, l.v, l.c, n.from_x, n.from_y) (on_back L.u L.v L.c A.x A.y s h)

-- ---- a cut
-- the new edge's two counts
split : (l s m : ℤ) → m ≡ s -ℤ l → s ≡ l +ℤ m
split = ring 3 _ (simp reify (omega arith))

module _ (A : CornerZ) (s : ℤ) (L R : EdgeZ) (rest : List EdgeZ) (onL : On A L) (onR : On A R) (t : pos 0 ≺ turn L R) (tL : Turns L rest)
    (tR : Turns R rest) (ahead : Rising (end_of A R) rest) (near : s *ℤ turn L R ≡ s) where
  -- what is left of R, after the new edge
  rest_rising : {B E : CornerZ} {N S : EdgeZ} → NewEdge A L R s N B E → LeftOfR R s S → Rising E (S ∷ rest)
  rest_rising {S = S} n r = edge_rises (rest_on n r onR) (turns_same S R r.u r.v tR) (rw (rest_end n r) ahead)

  rest_turns : {B E : CornerZ} {N S : EdgeZ} → NewEdge A L R s N B E → LeftOfR R s S → Turns N (S ∷ rest)
  rest_turns {N = N} {S} n r = edge_turns (turn_same N S N R refl refl r.u r.v (new_before n t)) (new_turns n tL tR)

  -- what is left of L, before the new edge
  left_turns : {B E : CornerZ} {N K : EdgeZ} {es : List EdgeZ} → NewEdge A L R s N B E → LeftOfL L s K → Turns L es → Turns K (N ∷ es)
  left_turns {N = N} {K} n l ts = edge_turns (turn_same K N L N l.u l.v refl refl (new_after n t)) (turns_same K L l.u l.v ts)

  cut_holds : {σ : Setting} {C : CornerZ} {K : EdgeZ} {after : List EdgeZ} → Cut σ A s L R rest C K after → Holds C K after
  cut_holds (left a b n k r e) = record { on = new_ends n onL onR near; turns = rw e (rest_turns n r); rising = rw e (rest_rising n r) }
  cut_holds {C = C} (right {N = N} a b n k l e) =
      let long : s ≡ all_of N = b ∙ sym (ap₂ ◌+ℤ◌ k.l1 k.l2) in
      let end : end_of C N ≡ end_of A R = new_end n long ∙ end_with n b in
      record {
        on = left_on n l onL;
        turns = rw e (left_turns n l tL);
        rising = rw e (edge_rises (new_starts n onL onR near) (new_turns n tL tR) (rw end ahead));
      }
  cut_holds (both a b n k e) = record { on = new_ends n onL onR near; turns = rw e (new_turns n tL tR); rising = rw (e, end_with n b) ahead }
  cut_holds (new {N = N} {S} a b n k l r e) =
      let end = new_end n (split N.l1 s N.l2 k.l2) in
      record {
        on = left_on n l onL;
        turns = rw e (left_turns n l (edge_turns (turn_same L S L R refl refl r.u r.v t) tL));
        rising = rw e (edge_rises (new_starts n onL onR near) (rest_turns n r) (rw end (rest_rising n r)));
      }

-- ---- all steps
dropping : {A C : CornerZ} {R K : EdgeZ} {rest : List EdgeZ} → Rising A (R ∷ rest) → Dropped A R C K → Holds C K rest
dropping {A} {R = R} {K} (edge_rises h t ahead) d = record {
  on = rw (d.u, d.v, d.c, d.x, d.y) (on_along R.u R.v R.c A.x A.y (all_of R) h);
  turns = turns_same K R d.u d.v t;
  rising = rw (corner_one d.x d.y) ahead;
}

cutting-holds :
    {σ : Setting} {A C : CornerZ} {s : ℤ} {L R K : EdgeZ} {rest after : List EdgeZ} → On A L → Turns L (R ∷ rest) → Rising A (R ∷ rest) → turn L R ≼ pos 1 →
    Cut σ A s L R rest C K after → Holds C K after
cutting-holds {A = A} {s = s} {L} {R} {rest = rest} onL (edge_turns t tL) (edge_rises onR tR ahead) near k =
    cut_holds A s L R rest onL onR t tL tR ahead (times_turn s (turn L R) t near) k

start_on : (x y : ℤ) → pos 0 *ℤ x -ℤ pos 1 *ℤ neg_ℤ y ≡ y
start_on = ring 2 _ (λ ρ. simp (reify, ρ) (omega arith))

start_ahead : (x y : ℤ) → pos 1 *ℤ x -ℤ pos 0 *ℤ neg_ℤ y ≡ x
start_ahead = ring 2 _ (λ ρ. simp (reify, ρ) (omega arith))

comes_holds : {σ : Setting} {A : CornerZ} {L : EdgeZ} {es : List EdgeZ} → Comes σ A L es → Holds A L es
comes_holds {σ} start = record {
  on = start_on (pos (Dx σ)) (pos (Dy σ));
  turns = edge_turns (lt_z_yes tt) none_turns;
  rising = edge_rises (start_ahead (pos (Dx σ)) (pos (Dy σ))) none_turns none_rises;
}
comes_holds (putting c o d) = dropping (comes_holds c).rising d
comes_holds (cutting c near a p k) = let h = comes_holds c in cutting-holds h.on h.turns h.rising near k

rising_lie : {A : CornerZ} {es : List EdgeZ} → Rising A es → Lie A es
rising_lie none_rises = none_lies
rising_lie (edge_rises h t r) = edge_lies h (rising_lie r)

pub comes_lie : {σ : Setting} {A : CornerZ} {L : EdgeZ} {es : List EdgeZ} → Comes σ A L es → On A L × Lie A es
comes_lie c = let h = comes_holds c in (h.on, rising_lie h.rising)
