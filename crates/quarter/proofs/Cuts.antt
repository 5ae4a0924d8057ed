-- One cut keeps the invariant and takes at least one off the sum of l1 + l2. `cutting` has the two tests of `cut` as variables, each with what it says.
use Prim.Native.Nat.{ℕ, suc, ◌+◌, ◌*◌, ◌-◌, ◌≤◌, ◌<◌}
use mathlib.Core.Path.{◌≡◌, sym}
use mathlib.Core.Bool.{Bool, true, false, not}
use mathlib.Core.List.{List, ◌∷◌}
use native.Mathlib.Nat.{le_of_lt}
use native.Mathlib.Omega.{arith}
use lib.Dec.{T, eqb, eqb→eq}
use mir.Facts.{eqb_no}
use Rattle.setting.specs.declared.Setting.{Setting}
use Rattle.quarter.specs.declared.Edge.{Edge}
use Rattle.quarter.specs.Cutting.{State, size, retained, cut_by, cut}
use Rattle.quarter.specs.Moment.{sum, total}
use Rattle.quarter.proofs.Invariant.{After, Before, Going, after_flatter, after_turns, after_rises, after_line, after_room, before_span}
use Rattle.quarter.proofs.Pieces.{right_shortened, left_shortened, left_replaced, right_gone, new_on_line, new_between, new_flatter}
use Rattle.quarter.proofs.Slope.{slide_back}

-- the retained point is on the edge
pub retained_le : (σ : Setting) (u v c x s : ℕ) → retained σ u v c x s ≤ s
unfolding retained
retained_le σ u v c x s = omega arith

-- the state t is on the way, and its sum is less than n
pub record Closer (D k pu pv a b n : ℕ) (t : State) : Type 0 where
  pub going : Going D k pu pv a b t
  pub less : total t < n

module _ {D k pu pv a b x y : ℕ} (σ : Setting) (L R : Edge) (rest : List Edge) (s : ℕ)
    (e : L.l1 ≡ k) (base : k ≤ D) (bottom : 1 ≤ k → L.u ≡ 1) (p : 1 ≤ pu) (pos : 1 ≤ s) (hl : s ≤ L.l2) (hr : s ≤ R.l1) (near : L.u * R.v ≤ 1 + L.v * R.u)
    (r : Before pu pv a b x y L) (cl : L.c ≡ L.v * x + L.u * y) (q : After D L.u L.v x y (R ∷ rest)) where
  turn : L.v * R.u < L.u * R.v
  turn = after_turns r.right q

  -- step 1 lets no determinant above 1 through, and the edges turn
  one : L.u * R.v ≡ suc (L.v * R.u)
  one = omega (arith, turn)

  -- the end of the new edge
  lies_on : L.c + R.c - s ≡ (L.v + R.v) * (x + s * R.u) + (L.u + R.u) * (y - s * R.v)
  lies_on = new_on_line L.u L.v R.u R.v s x y L.c R.c one (after_room s hr q) cl (after_line q)

  reach : s * L.u ≤ x
  reach = before_span L s hl r

  -- whether s is all of L, and all of R
  cutting : (bl br : Bool) → (T bl → s ≡ size L) → (T (not bl) → s ≡ size L → ⊥) → (T br → s ≡ size R) → (T (not br) → s ≡ size R → ⊥) →
      Closer D k pu pv a b (size L + (size R + sum rest)) (cut_by bl br σ x y s L R rest)
  unfolding sum
  cutting true true yl nl yr nr =
      let el : s ≡ size L = yl tt in
      let er : s ≡ size R = yr tt in
      let g = right_gone s hr er q in
      record {
        going = record {
          kept = e;
          base = base;
          bottom = λ h. absurd (omega arith);
          turning = p;
          lies = lies_on;
          behind = left_replaced L R s p hl el (after_room s hr q) (after_rises q) turn r;
          ahead = after_flatter (L.u + R.u) (L.v + R.v) (omega (arith, r.right)) (le_of_lt (new_flatter L R turn)) g.1;
        };
        less = omega arith;
      }
  cutting true false yl nl yr nr =
      let el : s ≡ size L = yl tt in
      let er : s ≡ size R → ⊥ = nr tt in
      record {
        going = record {
          kept = e;
          base = base;
          bottom = λ h. absurd (omega arith);
          turning = p;
          lies = lies_on;
          behind = left_replaced L R s p hl el (after_room s hr q) (after_rises q) turn r;
          ahead = right_shortened s (L.u + R.u) (L.v + R.v) hr er (new_flatter L R turn) q;
        };
        less = omega arith;
      }
  cutting false true yl nl yr nr =
      let el : s ≡ size L → ⊥ = nl tt in
      let er : s ≡ size R = yr tt in
      let g = right_gone s hr er q in
      record {
        going = record {
          kept = e;
          base = base;
          bottom = bottom;
          turning = p;
          lies = slide_back L.u L.v s x y L.c reach cl;
          behind = left_shortened L s hl el r;
          ahead = new_between L R s R.l1 R.l2 cl (after_line q) one (sym er) pos reach (after_room s hr q) r.right (after_rises q) turn
              (after_flatter (L.u + R.u) (L.v + R.v) (omega (arith, r.right)) (le_of_lt (new_flatter L R turn)) g.1);
        };
        less = omega arith;
      }
  cutting false false yl nl yr nr =
      let el : s ≡ size L → ⊥ = nl tt in
      let er : s ≡ size R → ⊥ = nr tt in
      let small = retained_le σ (L.u + R.u) (L.v + R.v) (L.c + R.c - s) (x - s * L.u) s in
      record {
        going = record {
          kept = e;
          base = base;
          bottom = bottom;
          turning = p;
          lies = slide_back L.u L.v s x y L.c reach cl;
          behind = left_shortened L s hl el r;
          ahead = new_between L R s _ _ cl (after_line q) one (omega (arith, small)) pos reach (after_room s hr q) r.right (after_rises q) turn
              (right_shortened s (L.u + R.u) (L.v + R.v) hr er (new_flatter L R turn) q);
        };
        less = omega (arith, small);
      }

  pub cut_closer : Closer D k pu pv a b (size L + (size R + sum rest)) (cut σ x y s L R rest)
  cut_closer = cutting (eqb s (size L)) (eqb s (size R)) (eqb→eq s (size L)) (λ t. eqb_no t) (eqb→eq s (size R)) (λ t. eqb_no t)
