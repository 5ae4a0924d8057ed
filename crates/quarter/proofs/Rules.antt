-- The corners of the quarter are what the rules of specs/Steps put out: each round over naturals, y downwards, does what the rules say over whole numbers, y
-- upwards, since no difference in it falls below 0 (but for the last corner's next one, which is none); and the rounds end before their count does.
use Prim.Native.Nat.{ℕ, zero, suc, ◌+◌, ◌*◌, ◌-◌, ◌≤◌, ◌<◌, min}
use mathlib.Core.Path.{◌≡◌, refl, sym, ap, ◌∙◌, subst}
use mathlib.Core.Logic.{inl, inr}
use mathlib.Core.Bool.{Bool, true, false, not}
use mathlib.Core.List.{List, [], ◌∷◌, map}
use native.Mathlib.Omega.{arith}
use lib.Dec.{T, ltb, eqb, ltb→lt, nltb→le, eqb→eq}
use mir.Facts.{eqb_no}
use lib.IntN.{ℤ, pos, neg_ℤ, ◌+ℤ◌, ◌-ℤ◌, ◌*ℤ◌}
use Rattle.integers.specs.Orders.{◌≼◌, ◌≺◌}
use Rattle.integers.specs.Compare.{min_z}
use Rattle.integers.proofs.Ring.{ring, reify}
use Rattle.integers.proofs.Order.{le_refl, le_trans}
use Rattle.integers.proofs.Tests.{min_r}
use Rattle.setting.specs.declared.Setting.{Setting}
use Rattle.quarter.specs.declared.Edge.{Edge}
use Rattle.setting.specs.Setting.{Taken, Dx, Dy}
use Rattle.quarter.specs.NearRoot.{NearRoot, norm, near_root}
use Rattle.quarter.specs.Cutting.{Corner, State, size, amount, cut_edge, short_l, short_r, cut_by, cut, act, passed}
use Rattle.quarter.specs.Cutting.{step_at, first, corners, quarter}
use Rattle.quarter.specs.Steps.{NearRootZ, EdgeZ, CornerZ, start_corner, start_before, start_after}
use Rattle.quarter.specs.Steps.{turn, Amount, none, some, Out, NewEdge, LeftOfL, LeftOfR, Cut, Dropped, Puts, nothing, puts, cuts}
use Rattle.quarter.specs.Moment.{total, Cuttable}
use Rattle.quarter.specs.Theorems.{corner_z}
use Rattle.setting.proofs.Limits.{box_wide, box_high}
use Rattle.quarter.proofs.Naturals.{le_pos, lt_pos, diff_pos, min_pos}
use Rattle.quarter.proofs.NearRoot.{near_root_ok}
use Rattle.quarter.proofs.Nearest.{retained-ok}
use Rattle.quarter.proofs.Invariant.{After, upright, inner, Going, before_span, after_room}
use Rattle.quarter.proofs.Rounds.{Bounded, amount_bounded, Passed, Round, round, corners_by_step, state_at}
use Rattle.quarter.proofs.Progress.{first_going, first_total, corners_over}
use Rattle.quarter.proofs.Sizes.{before_small, after_small, y_small}

-- ---- an edge and a corner of naturals in whole numbers
abbrev edge_z : Edge → EdgeZ
edge_z e = record { u = pos e.u; v = pos e.v; c = pos e.c; l1 = pos e.l1; l2 = pos e.l2 }

abbrev at : ℕ → ℕ → CornerZ
at x y = corner_z (record { x = x; y = y })

-- ---- the near root
root_whole : (σ : Setting) (u v m : ℕ) → NearRoot σ u v m → NearRootZ σ (pos u) (pos v) (pos m)
unfolding norm
root_whole σ u v m r =
    let e : pos (2 * m - 1) ≡ pos (2 * m) -ℤ pos 1 = diff_pos (2 * m) 1 (omega (arith, r.positive)) in
    record {
      least = subst (λ (z : ℤ). pos (64 * (σ.q * σ.q)) *ℤ (z *ℤ z) ≼ pos (σ.w * σ.w * norm σ u v)) e (le_pos r.least);
      most = lt_pos r.most;
    }

-- ---- steps 1 and 2
-- what the rules say of a corner that is cut by n, or put out where n is 0
record Told (σ : Setting) (L R : Edge) (n : ℕ) : Type 0 where
  out : n ≡ 0 → Out σ (edge_z L) (edge_z R)
  taken : (s : ℕ) → n ≡ suc s → (turn (edge_z L) (edge_z R) ≼ pos 1) × Amount σ (edge_z L) (edge_z R) (pos (suc s))

not_more : (x y : ℤ) → x ≼ y → x -ℤ y ≼ pos 0
not_more = ring 2 _ (λ ρ. simp (reify, ρ) (omega arith))

one_more : (x y : ℤ) → x ≼ y +ℤ pos 1 → x -ℤ y ≼ pos 1
one_more = ring 2 _ (λ ρ. simp (reify, ρ) (omega arith))

two_more : (x y : ℤ) → y +ℤ pos 1 ≺ x → pos 1 ≺ x -ℤ y
two_more = ring 2 _ (λ ρ. simp (reify, ρ) (omega arith))

module _ (σ : Setting) (L R : Edge) where
  near_turn : L.u * R.v ≤ L.v * R.u + 1 → turn (edge_z L) (edge_z R) ≼ pos 1
  near_turn h = one_more (pos (L.u * R.v)) (pos (L.v * R.u)) (le_pos h)

  far_turn : L.v * R.u + 1 < L.u * R.v → pos 1 ≺ turn (edge_z L) (edge_z R)
  far_turn h = two_more (pos (L.u * R.v)) (pos (L.v * R.u)) (lt_pos h)

  -- the reduced amount, given the near root m: over the whole numbers it is negative where the difference of naturals is 0
  reduced : (b m : ℕ) → b ≡ min L.l2 R.l1 → L.u * R.v ≤ L.v * R.u + 1 → 1 ≤ b → NearRoot σ (L.u + R.u) (L.v + R.v) m → Told σ L R (min b (L.c + R.c - m))
  reduced b m eb near h r =
      let c : ℕ = L.c + R.c in
      let d : ℤ = pos c -ℤ pos m in
      let em : min_z (pos L.l2) (pos R.l1) ≡ pos b = min_pos L.l2 R.l1 ∙ ap pos (sym eb) in
      let positive : pos 0 ≺ min_z (pos L.l2) (pos R.l1) = subst (λ (z : ℤ). pos 0 ≺ z) (sym em) (lt_pos h) in
      let am : Amount σ (edge_z L) (edge_z R) (min_z (pos b) d) =
      some positive (root_whole σ (L.u + R.u) (L.v + R.v) m r) (ap (λ (z : ℤ). min_z z d) (sym em)) in
      record {
        out = λ e. Out.spent (near_turn near) am (le_trans (min_z (pos b) d) d (pos 0) (min_r (pos b) d) (not_more (pos c) (pos m) (le_pos (omega arith))));
        taken = λ s e.
            let eq : min_z (pos b) d ≡ pos (suc s) = ap (λ (z : ℤ). min_z (pos b) z) (sym (diff_pos c m (omega arith))) ∙ min_pos b (c - m) ∙ ap pos e in
            (near_turn near, subst (Amount σ (edge_z L) (edge_z R)) eq am);
      }

  amount_told : Taken σ → 1 ≤ L.u → L.u ≤ 32 → L.v ≤ 32 → R.u ≤ 32 → R.v ≤ 32 → Told σ L R (amount σ L R)
  unfolding amount
  amount_told τ h lu lv ru rv = go (ltb (1 + L.v * R.u) (L.u * R.v)) (ltb→lt (1 + L.v * R.u) (L.u * R.v)) (nltb→le (1 + L.v * R.u) (L.u * R.v))
    where
      m : ℕ
      m = near_root σ (L.u + R.u) (L.v + R.v)

      few : (b : ℕ) → b ≡ min L.l2 R.l1 → L.u * R.v ≤ L.v * R.u + 1 → Told σ L R (min b (L.c + R.c - m))
      few zero e near = record {
        out = λ _. Out.spent (near_turn near) (none (ap pos e ∙ sym (min_pos L.l2 R.l1)) (le_refl (pos 0))) (le_refl (pos 0));
        taken = λ s f. absurd (omega arith);
      }
      few (suc b) e near = reduced (suc b) m e near (omega arith) (near_root_ok σ τ (L.u + R.u) (L.v + R.v) (omega arith) (omega arith) (omega arith))

      go : (c : Bool) → (T c → 1 + L.v * R.u < L.u * R.v) → (T (not c) → L.u * R.v ≤ 1 + L.v * R.u) →
          Told σ L R (elim c as (λ _. ℕ) [ true ↦ 0 | false ↦ min (min L.l2 R.l1) (L.c + R.c - m) ])
      go true y n = let steep = y tt in record { out = λ _. Out.turned (far_turn (omega arith)); taken = λ s e. absurd (omega arith) }
      go false y n = let near = n tt in few (min L.l2 R.l1) refl (omega arith)

-- ---- steps 3 and 4
-- further down
lower : (y d : ℤ) → neg_ℤ (y +ℤ d) ≡ neg_ℤ y -ℤ d
lower = ring 2 _ (simp reify (omega arith))

higher : (y d : ℤ) → neg_ℤ (y -ℤ d) ≡ neg_ℤ y +ℤ d
higher = ring 2 _ (simp reify (omega arith))

rise : (y d : ℕ) → d ≤ y → neg_ℤ (pos (y - d)) ≡ neg_ℤ (pos y) +ℤ pos d
rise y d h = ap neg_ℤ (diff_pos y d h) ∙ higher (pos y) (pos d)

-- the state t, in whole numbers, is what the cut leaves
abbrev CutTo : Setting → ℕ → ℕ → ℕ → Edge → Edge → List Edge → State → Type 0
CutTo σ x y s L R rest t = Cut σ (at x y) (pos s) (edge_z L) (edge_z R) (map edge_z rest) (at t.x t.y) (edge_z t.before) (map edge_z t.after)

module _ (σ : Setting) (τ : Taken σ) (x y s : ℕ) (L R : Edge) (rest : List Edge) (h : 1 ≤ L.u) (w : Cuttable x y s L R) where
  new_told : (l1 l2 : ℕ) → NewEdge (at x y) (edge_z L) (edge_z R) (pos s) (edge_z (cut_edge L R s l1 l2)) (at (x - s * L.u) (y + s * L.v)) (at (x + s * R.u) (y - s * R.v))
  new_told l1 l2 = record {
    u = refl;
    v = refl;
    c = diff_pos (L.c + R.c) s w.offset;
    from_x = diff_pos x (s * L.u) w.across;
    from_y = lower (pos y) (pos (s * L.v));
    to_x = refl;
    to_y = rise y (s * R.v) w.down;
  }

  left_of_L : LeftOfL (edge_z L) (pos s) (edge_z (short_l L s))
  left_of_L = record { u = refl; v = refl; c = refl; l1 = refl; l2 = diff_pos L.l2 s w.left }

  left_of_R : LeftOfR (edge_z R) (pos s) (edge_z (short_r R s))
  left_of_R = record { u = refl; v = refl; c = refl; l1 = diff_pos R.l1 s w.right; l2 = refl }

  -- s is all of neither
  not_all : (n : ℕ) → (s ≡ n → ⊥) → ¬ (pos s ≡ pos n)
  not_all n f e = let i : s ≡ n = cc in f i

  cut_told : CutTo σ x y s L R rest (cut σ x y s L R rest)
  cut_told = go (eqb s (size L)) (eqb s (size R)) (eqb→eq s (size L)) (λ t. eqb_no t) (eqb→eq s (size R)) (λ t. eqb_no t)
    where
      go : (bl br : Bool) → (T bl → s ≡ size L) → (T (not bl) → s ≡ size L → ⊥) → (T br → s ≡ size R) → (T (not br) → s ≡ size R → ⊥) →
          CutTo σ x y s L R rest (cut_by bl br σ x y s L R rest)
      go true true yl nl yr nr = Cut.both (ap pos (yl tt)) (ap pos (yr tt)) (new_told L.l1 L.l2) (record { l1 = refl; l2 = refl }) refl
      go true false yl nl yr nr = Cut.left (ap pos (yl tt)) (not_all (size R) (nr tt)) (new_told L.l1 L.l2) (record { l1 = refl; l2 = refl }) left_of_R refl
      go false true yl nl yr nr = Cut.right (not_all (size L) (nl tt)) (ap pos (yr tt)) (new_told R.l1 R.l2) (record { l1 = refl; l2 = refl }) left_of_L refl
      go false false yl nl yr nr =
          Cut.new (not_all (size L) (nl tt)) (not_all (size R) (nr tt)) (new_told _ _)
          (retained-ok σ τ (L.u + R.u) (L.v + R.v) (L.c + R.c - s) (x - s * L.u) s (omega arith)) left_of_L left_of_R refl

-- ---- all rounds
-- the corner of A is put out: the next one, and what is put out from there on
record Next (σ : Setting) (A : CornerZ) (R : EdgeZ) (es : List EdgeZ) (cs : List CornerZ) : Type 0 where
  corner : CornerZ
  before : EdgeZ
  dropped : Dropped A R corner before
  more : Puts σ corner before es cs

module _ (σ : Setting) (τ : Taken σ) where
  abbrev PutsFrom : State → List Corner → Type 0
  PutsFrom t cs = Puts σ (at t.x t.y) (edge_z t.before) (map edge_z t.after) (map corner_z cs)

  abbrev Ends : ℕ → Type 0
  Ends f = (t : State) (k pu pv a b : ℕ) → b ≤ 32 → Going (Dx σ) k pu pv a b t → total t ≤ f → PutsFrom t (corners σ f t)

  -- the end of the last edge is above the middle, and no corner
  over_puts : (x y : ℕ) (R : Edge) (es : List Edge) (cs : List Corner) → es ≡ [] → cs ≡ [] → Next σ (at x y) (edge_z R) (map edge_z es) (map corner_z cs)
  over_puts x y R es cs e f = record {
    corner = record { x = pos x +ℤ pos (size R) *ℤ pos R.u; y = neg_ℤ (pos y) +ℤ pos (size R) *ℤ pos R.v };
    before = record { u = pos R.u; v = pos R.v; c = pos R.c; l1 = pos 0; l2 = pos (size R) };
    dropped = record { u = refl; v = refl; c = refl; l1 = refl; l2 = refl; x = refl; y = refl };
    more = rw (e, f) nothing;
  }

  passing : (f : ℕ) → Ends f → (x y : ℕ) (L R : Edge) (rest : List Edge) → y ≤ 32 → Passed (Dx σ) (state_at x y L (R ∷ rest)) (passed x y R rest) →
      total (state_at x y L (R ∷ rest)) ≤ suc f → Next σ (at x y) (edge_z R) (map edge_z rest) (map corner_z (corners σ f (passed x y R rest)))
  passing f rec x y L R rest hy p h = elim p.next [
    | inl e ↦ over_puts x y R rest (corners σ f (passed x y R rest)) e.0 (corners_over σ f (passed x y R rest) e.0)
    | inr g ↦ record {
      corner = at (x + size R * R.u) (y - size R * R.v);
      before = edge_z (passed x y R rest).before;
      dropped = record { u = refl; v = refl; c = refl; l1 = refl; l2 = refl; x = refl; y = rise y (size R * R.v) (omega (arith, g.behind.down)) };
      more = rec (passed x y R rest) 0 L.u L.v x y hy g (omega (arith, p.less));
    }
  ]

  acting :
      (f : ℕ) → Ends f → {k pu pv a b : ℕ} (x y : ℕ) (L R : Edge) (rest : List Edge) → b ≤ 32 → Going (Dx σ) k pu pv a b (state_at x y L (R ∷ rest)) →
      total (state_at x y L (R ∷ rest)) ≤ suc f → (n : ℕ) → Bounded L R n → Told σ L R n →
      Round (Dx σ) k pu pv a b (state_at x y L (R ∷ rest)) (act n σ x y L R rest) →
      PutsFrom (state_at x y L (R ∷ rest)) (corners_by_step σ f (state_at x y L (R ∷ rest)) (act n σ x y L R rest))
  acting f rec x y L R rest hb g h zero d t c =
      let n = passing f rec x y L R rest (omega (arith, g.behind.down)) (c.putting _ refl) h in
      puts (t.out refl) n.dropped n.more
  acting f rec {k} {pu} {pv} {a} {b} x y L R rest hb g h (suc s) d t c =
      let w = t.taken s refl in
      let r = c.cutting _ refl in
      let room : Cuttable x y (suc s) L R = record {
        left = d.left;
        right = d.right;
        across = before_span L (suc s) d.left g.behind;
        down = after_room (suc s) d.right g.ahead;
        offset = d.offset;
      } in
      cuts w.0 w.1 (lt_pos (omega arith)) (cut_told σ τ x y (suc s) L R rest g.behind.right room)
      (rec (cut σ x y (suc s) L R rest) k pu pv a b hb r.going (omega (arith, r.less)))

  told : {k pu pv a b : ℕ} (x y : ℕ) (L R : Edge) (rest : List Edge) → b ≤ 32 → Going (Dx σ) k pu pv a b (state_at x y L (R ∷ rest)) → Told σ L R (amount σ L R)
  told x y L R rest hb g =
      let hd = (box_wide τ).1 in
      let l = before_small hd hb g in
      let r = after_small hd (y_small hd hb g) g.ahead in
      amount_told σ L R τ g.behind.right l.u_small l.v_small r.u_small r.v_small

  stepping :
      (f : ℕ) → Ends f → {k pu pv a b : ℕ} (x y : ℕ) (L : Edge) (es : List Edge) → b ≤ 32 → Going (Dx σ) k pu pv a b (state_at x y L es) →
      total (state_at x y L es) ≤ suc f → Round (Dx σ) k pu pv a b (state_at x y L es) (step_at es σ x y L) → After (Dx σ) L.u L.v x y es →
      PutsFrom (state_at x y L es) (corners_by_step σ f (state_at x y L es) (step_at es σ x y L))
  stepping f rec x y L es hb g h c (upright {e = R} q) = acting f rec x y L R [] hb g h (amount σ L R) (amount_bounded σ L R) (told x y L R [] hb g) c
  stepping f rec x y L es hb g h c (inner y' {e = R} {es = rest} q k) = acting f rec x y L R rest hb g h (amount σ L R) (amount_bounded σ L R) (told x y L R rest hb g) c

  ends : (f : ℕ) → Ends f
  unfolding corners
  ends zero t k pu pv a b hb g h = absurd (omega (arith, g.behind.long))
  ends (suc f) t k pu pv a b hb g h = stepping f (ends f) t.x t.y t.before t.after hb g h (round σ t g) g.ahead

  pub puts_quarter : Puts σ (start_corner σ) (start_before σ) (start_after σ ∷ []) (map corner_z (quarter σ))
  unfolding quarter
  puts_quarter = ends (2 * Dx σ + 2 * Dy σ) (first σ) (Dx σ) 1 0 0 (Dy σ) (box_high τ).1 (first_going σ τ) (first_total σ)
