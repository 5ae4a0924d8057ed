-- The rules of specs/Steps put out at most one list: each rule determines its numbers, no two of them fit the same corner, and a list that is put out ends.
use mathlib.Core.Path.{◌≡◌, refl, sym, ap, ap₂, ◌∙◌, subst}
use mathlib.Core.Logic.{inl, inr}
use mathlib.Core.List.{List, ◌∷◌}
use native.Mathlib.Omega.{arith}
use lib.IntN.{ℤ, pos, ◌+ℤ◌, ◌-ℤ◌, ◌*ℤ◌}
use lib.Signed.{clash_ℤ}
use Rattle.integers.specs.Orders.{◌≼◌, ◌≺◌}
use Rattle.integers.specs.Compare.{min_z, max_z}
use Rattle.integers.proofs.Ring.{ring, reify, ◌⊢◌}
use Rattle.integers.proofs.Order.{mul_nn, sub_nn, sub_pos, square_nn, le_or_lt, le_antisymm}
use Rattle.setting.specs.declared.Setting.{Setting}
use Rattle.quarter.specs.Steps.{square, norm_z, NearRootZ, EdgeZ, CornerZ, turn, Amount, none, some, Out, turned, spent}
use Rattle.quarter.specs.Steps.{NewEdge, LeftOfL, LeftOfR, CountsOf, NearestTo, Retained, Cut, both, left, right, new, Dropped, Puts, nothing, puts, cuts}

-- ---- the near root: over all whole numbers its inequalities hold of one at most
-- it is more than 0, since (2m-1)² < (2m+1)²
root_above : (a g m : ℤ) → pos 0 ≼ a → a *ℤ ((pos 2 *ℤ m -ℤ pos 1) *ℤ (pos 2 *ℤ m -ℤ pos 1)) ≼ g → g ≺ a *ℤ ((pos 2 *ℤ m +ℤ pos 1) *ℤ (pos 2 *ℤ m +ℤ pos 1)) → pos 0 ≺ m
root_above a g m h low high = elim (le_or_lt m (pos 0)) [ inl e ↦ absurd (no a g m h low high e) | inr e ↦ e ]
  where
    no : (a g m : ℤ) → pos 0 ≼ a → a *ℤ ((pos 2 *ℤ m -ℤ pos 1) *ℤ (pos 2 *ℤ m -ℤ pos 1)) ≼ g → g ≺ a *ℤ ((pos 2 *ℤ m +ℤ pos 1) *ℤ (pos 2 *ℤ m +ℤ pos 1)) → m ≼ pos 0 → ⊥
    no = ring 3 _ (λ ρ h low high e. mul_nn h (sub_nn e) ⊢ low ⊢ high ⊢ simp (reify, ρ) (omega arith))

-- for n < m the range of n ends where that of m has not begun
root_le : (a g m n : ℤ) → pos 0 ≼ a → a *ℤ ((pos 2 *ℤ m -ℤ pos 1) *ℤ (pos 2 *ℤ m -ℤ pos 1)) ≼ g → g ≺ a *ℤ ((pos 2 *ℤ n +ℤ pos 1) *ℤ (pos 2 *ℤ n +ℤ pos 1)) → pos 0 ≺ n → m ≼ n
root_le a g m n h low high above = elim (le_or_lt m n) [ inl e ↦ e | inr e ↦ absurd (no a g m n h low high above e) ]
  where
    sum_nn : (m n : ℤ) → pos 0 ≺ n → n ≺ m → pos 0 ≼ m +ℤ n
    sum_nn = ring 2 _ (λ ρ. simp (reify, ρ) (omega arith))

    no : (a g m n : ℤ) → pos 0 ≼ a → a *ℤ ((pos 2 *ℤ m -ℤ pos 1) *ℤ (pos 2 *ℤ m -ℤ pos 1)) ≼ g → g ≺ a *ℤ ((pos 2 *ℤ n +ℤ pos 1) *ℤ (pos 2 *ℤ n +ℤ pos 1)) → pos 0 ≺ n → n ≺ m → ⊥
    no = ring 4 _ (λ ρ h low high above e. mul_nn h (mul_nn (sub_pos e) (sum_nn _ _ above e)) ⊢ low ⊢ high ⊢ simp (reify, ρ) (omega arith))

root_one : {σ : Setting} {u v m n : ℤ} → NearRootZ σ u v m → NearRootZ σ u v n → m ≡ n
root_one {σ} {u} {v} {m} {n} f g =
    let a : ℤ = pos 64 *ℤ square (pos σ.q) in
    let w : ℤ = square (pos σ.w) *ℤ norm_z σ u v in
    let h : pos 0 ≼ a = mul_nn {x = pos 64} {y = square (pos σ.q)} (square_nn (pos 8)) (square_nn (pos σ.q)) in
    le_antisymm m n (root_le a w m n h f.least g.most (root_above a w n h g.least g.most))
    (root_le a w n m h g.least f.most (root_above a w m h f.least f.most))

-- ---- the nearest whole number to n / d: d is more than 0, since (2k-1)d < (2k+1)d
nearest_above : (n d k : ℤ) → (pos 2 *ℤ k -ℤ pos 1) *ℤ d ≼ pos 2 *ℤ n → pos 2 *ℤ n ≺ (pos 2 *ℤ k +ℤ pos 1) *ℤ d → pos 0 ≺ d
nearest_above = ring 3 _ (λ ρ. simp (reify, ρ) (omega arith))

nearest_le : (n d k j : ℤ) → (pos 2 *ℤ k -ℤ pos 1) *ℤ d ≼ pos 2 *ℤ n → pos 2 *ℤ n ≺ (pos 2 *ℤ j +ℤ pos 1) *ℤ d → pos 0 ≺ d → k ≼ j
nearest_le n d k j low high h = elim (le_or_lt k j) [ inl e ↦ e | inr e ↦ absurd (no n d k j low high h e) ]
  where
    no : (n d k j : ℤ) → (pos 2 *ℤ k -ℤ pos 1) *ℤ d ≼ pos 2 *ℤ n → pos 2 *ℤ n ≺ (pos 2 *ℤ j +ℤ pos 1) *ℤ d → pos 0 ≺ d → j ≺ k → ⊥
    no = ring 4 _ (λ ρ low high h e. mul_nn (sub_pos h) (sub_pos e) ⊢ low ⊢ high ⊢ h ⊢ e ⊢ simp (reify, ρ) (omega arith))

nearest_one : (n d k j : ℤ) → NearestTo n d k → NearestTo n d j → k ≡ j
nearest_one n d k j f g =
    let h = nearest_above n d k f.low f.high in
    le_antisymm k j (nearest_le n d k j f.low g.high h) (nearest_le n d j k g.low f.high h)

-- ---- step 2
amount_one : {σ : Setting} {L R : EdgeZ} {s t : ℤ} → Amount σ L R s → Amount σ L R t → s ≡ t
amount_one (none e h) (none f k) = e ∙ sym f
amount_one (none e h) (some k g f) = clash_ℤ k (rw e at h)
amount_one (some h f e) (none g k) = clash_ℤ h (rw g at k)
amount_one {L = L} {R} (some h f e) (some k g i) =
    e ∙ ap (λ (m : ℤ). min_z (min_z L.l2 R.l1) (L.c +ℤ R.c -ℤ m)) (root_one f g) ∙ sym i

-- a corner that is put out is not cut
out_or_cut : {σ : Setting} {L R : EdgeZ} {s : ℤ} → Out σ L R → turn L R ≼ pos 1 → Amount σ L R s → pos 0 ≺ s → ⊥
out_or_cut (turned h) k a i = clash_ℤ h k
out_or_cut (spent h b j) k a i = clash_ℤ i (rw (amount_one b a) at j)

-- ---- steps 3 to 5: the numbers of an edge and of a corner make it
edge_one : {E F : EdgeZ} → E.u ≡ F.u → E.v ≡ F.v → E.c ≡ F.c → E.l1 ≡ F.l1 → E.l2 ≡ F.l2 → E ≡ F
edge_one u v c l1 l2 = λ i. record { u = u i; v = v i; c = c i; l1 = l1 i; l2 = l2 i }

pub corner_one : {A B : CornerZ} → A.x ≡ B.x → A.y ≡ B.y → A ≡ B
corner_one x y = λ i. record { x = x i; y = y i }

-- what a round leaves: the next corner, the edge before it and the edges after it
record Same (C D : CornerZ) (K M : EdgeZ) (es fs : List EdgeZ) : Type 0 where
  corner : C ≡ D
  before : K ≡ M
  after : es ≡ fs

module _ {A : CornerZ} {L R : EdgeZ} {s : ℤ} {N M : EdgeZ} {B C D E : CornerZ} (f : NewEdge A L R s N B C) (g : NewEdge A L R s M D E) where
  starts_one : B ≡ D
  starts_one = corner_one (f.from_x ∙ sym g.from_x) (f.from_y ∙ sym g.from_y)

  ends_one : C ≡ E
  ends_one = corner_one (f.to_x ∙ sym g.to_x) (f.to_y ∙ sym g.to_y)

  new_one : N.l1 ≡ M.l1 → N.l2 ≡ M.l2 → N ≡ M
  new_one = edge_one (f.u ∙ sym g.u) (f.v ∙ sym g.v) (f.c ∙ sym g.c)

  new_counted : {F : EdgeZ} → CountsOf F N → CountsOf F M → N ≡ M
  new_counted a b = new_one (a.l1 ∙ sym b.l1) (a.l2 ∙ sym b.l2)

left_of_L_one : {L K M : EdgeZ} {s : ℤ} → LeftOfL L s K → LeftOfL L s M → K ≡ M
left_of_L_one f g = edge_one (f.u ∙ sym g.u) (f.v ∙ sym g.v) (f.c ∙ sym g.c) (f.l1 ∙ sym g.l1) (f.l2 ∙ sym g.l2)

left_of_R_one : {R K M : EdgeZ} {s : ℤ} → LeftOfR R s K → LeftOfR R s M → K ≡ M
left_of_R_one f g = edge_one (f.u ∙ sym g.u) (f.v ∙ sym g.v) (f.c ∙ sym g.c) (f.l1 ∙ sym g.l1) (f.l2 ∙ sym g.l2)

-- the retained point of an edge with the same direction, offset and start
retained_one : {σ : Setting} {x s : ℤ} {N M : EdgeZ} → N.u ≡ M.u → N.v ≡ M.v → N.c ≡ M.c → Retained σ x s N → Retained σ x s M → (N.l1 ≡ M.l1) × (N.l2 ≡ M.l2)
retained_one {σ} {x} {s} {N} {M} eu ev ec f g =
    let n : ℤ = square (pos σ.p) *ℤ M.v *ℤ M.c -ℤ x *ℤ norm_z σ M.u M.v in
    let d : ℤ = M.u *ℤ norm_z σ M.u M.v in
    let near : NearestTo n d f.k = rw (eu, ev, ec) at f.nearest in
    let ek : f.k ≡ g.k = nearest_one n d f.k g.k near g.nearest in
    let el : N.l1 ≡ M.l1 = f.l1 ∙ ap (λ (k : ℤ). max_z (pos 0) (min_z s k)) ek ∙ sym g.l1 in
    (el, f.l2 ∙ ap (λ (l : ℤ). s -ℤ l) el ∙ sym g.l2)

cut-one :
    {σ : Setting} {A C D : CornerZ} {s : ℤ} {L R K M : EdgeZ} {rest es fs : List EdgeZ} → Cut σ A s L R rest C K es → Cut σ A s L R rest D M fs → Same C D K M es fs
cut-one (both a b n k e) (both a' b' n' k' e') = record { corner = ends_one n n'; before = new_counted n n' k k'; after = e ∙ sym e' }
cut-one (both a b n k e) (left a' b' n' k' r' e') = absurd (b' b)
cut-one (both a b n k e) (right a' b' n' k' l' e') = absurd (a' a)
cut-one (both a b n k e) (new a' b' n' k' l' r' e') = absurd (a' a)
cut-one (left a b n k r e) (both a' b' n' k' e') = absurd (b b')
cut-one {rest = rest} (left a b n k r e) (left a' b' n' k' r' e') =
    record { corner = ends_one n n'; before = new_counted n n' k k'; after = e ∙ ap (λ (S : EdgeZ). S ∷ rest) (left_of_R_one r r') ∙ sym e' }
cut-one (left a b n k r e) (right a' b' n' k' l' e') = absurd (a' a)
cut-one (left a b n k r e) (new a' b' n' k' l' r' e') = absurd (a' a)
cut-one (right a b n k l e) (both a' b' n' k' e') = absurd (a a')
cut-one (right a b n k l e) (left a' b' n' k' r' e') = absurd (a a')
cut-one {rest = rest} (right a b n k l e) (right a' b' n' k' l' e') =
    record { corner = starts_one n n'; before = left_of_L_one l l'; after = e ∙ ap (λ (N : EdgeZ). N ∷ rest) (new_counted n n' k k') ∙ sym e' }
cut-one (right a b n k l e) (new a' b' n' k' l' r' e') = absurd (b' b)
cut-one (new a b n k l r e) (both a' b' n' k' e') = absurd (a a')
cut-one (new a b n k l r e) (left a' b' n' k' r' e') = absurd (a a')
cut-one (new a b n k l r e) (right a' b' n' k' l' e') = absurd (b b')
cut-one {σ} {s = s} {rest = rest} (new {N = N} a b n k l r e) (new {N = P} a' b' n' k' l' r' e') =
    let ec = starts_one n n' in
    let c = retained_one (n.u ∙ sym n'.u) (n.v ∙ sym n'.v) (n.c ∙ sym n'.c) k (subst (λ (B : CornerZ). Retained σ B.x s P) (sym ec) k') in
    record {
      corner = ec;
      before = left_of_L_one l l';
      after = e ∙ ap₂ (λ (N S : EdgeZ). N ∷ S ∷ rest) (new_one n n' c.0 c.1) (left_of_R_one r r') ∙ sym e';
    }

dropped_one : {A C D : CornerZ} {R K M : EdgeZ} (es : List EdgeZ) → Dropped A R C K → Dropped A R D M → Same C D K M es es
dropped_one es f g = record {
  corner = corner_one (f.x ∙ sym g.x) (f.y ∙ sym g.y);
  before = edge_one (f.u ∙ sym g.u) (f.v ∙ sym g.v) (f.c ∙ sym g.c) (f.l1 ∙ sym g.l1) (f.l2 ∙ sym g.l2);
  after = refl;
}

-- ---- all rounds
-- what is put out from the one is put out from the other
put_same : {σ : Setting} {C D : CornerZ} {K M : EdgeZ} {es fs : List EdgeZ} {cs : List CornerZ} → Same C D K M es fs → Puts σ D M fs cs → Puts σ C K es cs
put_same e p = rw (e.corner, e.before, e.after) p

pub puts_one : {σ : Setting} {A : CornerZ} {L : EdgeZ} {es : List EdgeZ} {cs ds : List CornerZ} → Puts σ A L es cs → Puts σ A L es ds → cs ≡ ds
puts_one nothing nothing = refl
puts_one {A = A} (puts {rest = rest} o d p) (puts o' d' q) = ap (λ (l : List CornerZ). A ∷ l) (puts_one p (put_same (dropped_one rest d d') q))
puts_one (puts o d p) (cuts t a h c q) = absurd (out_or_cut o t a h)
puts_one (cuts t a h c p) (puts o d q) = absurd (out_or_cut o t a h)
puts_one (cuts t a h c p) (cuts t' a' h' c' q) = puts_one p (put_same (cut-one c (rw (amount_one a' a) at c')) q)
