-- The loop of `quarter` goes from moment to moment of the steps: the laws of a moment say that there is room, that no number is too large, and that it ends.
use Rattle.quarter.proofs.Theorems.{steps_fall, at_most_33, ends_with_quarter, nothing_below_zero}
use Rattle.quarter.proofs.Depth.{at_most_8}
use Rattle.cutting.proofs.Stack.{drop_top, drop_front}
use Rattle.cutting.proofs.Stored.{stored_quarter}
use Rattle.cutting.specs.Held.{front, state, Room, Stepped, stored, put_out, outcome}
use Rattle.quarter.specs.Moment.{Moment, puts, cuts, total, Cuttable, Ready}
use Rattle.quarter.specs.Answer.{quarter_of}
use Rattle.quarter.specs.Cutting.{Corner, State, first, amount, act, step, step_at, quarter}
use Rattle.limits.specs.Sizes.{quarter_max}
use Rattle.setting.specs.Setting.{Taken}
use Rattle.quarter.specs.declared.Edge.{Edge}
use Rattle.quarter.specs.declared.Quarter.{Quarter}
use Rattle.cutting.specs.declared.Work.{Work}
use Rattle.setting.specs.declared.Setting.{Setting}
use lib.IntN.{ℤ, pos, neg_ℤ, ◌-ℤ◌, +ℤ_idl}
use mir.Syntax.{w8}
use mir.Val.{to_z, of_z}
use Rattle.integers.proofs.Machine.{Is, of_nat, num, sub}
use lib.ListN.{length, drop, get_or, set, length-set, length-drop, drop_of_length-le}
use native.Mathlib.Omega.{arith}
use mathlib.Core.List.{List, [], ◌∷◌, ◌++◌}
use mathlib.Core.Path.{◌≡◌, refl, sym, ap, subst, ◌∙◌}
use Prim.Native.Nat.{ℕ, zero, suc, ◌+◌, ◌-◌, ◌≤◌, ◌<◌}

-- how many places the stack of edges has
abbrev pub places : ℕ
places = 9

-- the edges after the corner are those from the stack's top to the array's end
abbrev pub at : Work → List Edge → ℕ → State
at t after top = record { x = t.x; y = t.y; before = t.before; after = drop top after }

abbrev pub top_edge : List Edge → ℕ → Edge
top_edge after top = get_or after top (record { u = 0; v = 0; c = 0; l1 = 0; l2 = 0 })

-- the corners put out so far are in the list, and the state is the steps' at that moment
pub record Held (σ : Setting) (t : Work) (after : List Edge) (top : ℕ) (q : Quarter) : Type 0 where
  pub taken : Taken σ
  pub long : length after ≡ places
  pub high : top ≤ places
  pub out : List Corner
  pub moment : Moment σ out (at t after top)
  pub list : q ≡ quarter_of out

-- ---- the first moment
pub begun : (σ : Setting) (t : Work) → state t [] ≡ first σ → t.more ≡ 1 → record { x = t.x; y = t.y; before = t.before; after = t.last ∷ [] } ≡ first σ
begun σ t e m =
    sym (ap (λ (k : ℕ). record { x = t.x; y = t.y; before = t.before; after = front k t.new t.last [] }) m)
    ∙ e

-- ---- what holds at a moment, and what one round makes of it
-- ---- what a round does to the list: a corner is stored where the amount is 0
module _ (q : Quarter) (a b : ℤ) where
  pub put_out_now : (d : ℕ) → d ≡ 0 → stored q a b ≡ put_out d q a b
  put_out_now zero h = refl
  put_out_now (suc d) h = absurd (omega (arith, h))

  pub kept : (d : ℕ) → (d ≡ 0 → ⊥) → q ≡ put_out d q a b
  kept zero h = absurd (h refl)
  kept (suc d) h = refl

-- a number of at most 32 is the same as an i8, and so is its opposite
pub across : {x : ℕ} → x ≤ 32 → Is w8 (pos x) x 32
across {x} h = of_nat x h tt

pub upwards : {y : ℕ} → y ≤ 32 → to_z w8 (of_z w8 (pos 0 -ℤ to_z w8 y)) ≡ neg_ℤ (pos y)
upwards {y} h = (sub (num (pos 0) tt) (across h) tt).reads ∙ +ℤ_idl (neg_ℤ (pos y))

module _ {σ : Setting} {t : Work} {after : List Edge} {top : ℕ} {q : Quarter} (h : Held σ t after top q) where
  pub few : length h.out + (places - top) ≤ quarter_max
  few = omega (arith, at_most_33 σ h.taken h.out (at t after top) h.moment, length-drop top after, h.long)

  -- there is a place below the top, so that an edge may be stored there
  pub low : 1 ≤ top
  low = omega (arith, at_most_8 σ h.taken h.moment, length-drop top after, h.long)

  -- where no edge is left, the corners put out are the quarter
  pub ended : places ≤ top → q ≡ quarter_of (quarter σ)
  ended l =
      let none = drop_of_length-le after {i = top} (omega (arith, h.long)) in
      h.list ∙ ap quarter_of (ends_with_quarter σ h.taken h.out (at t after top) h.moment none)

  module _ (l : top < places) where
    pub inside : top < length after
    inside = omega (arith, h.long)

    pub ready : Ready σ (at t after top) (top_edge after top)
    ready = nothing_below_zero σ h.taken h.out (at t after top) h.moment (top_edge after top) (drop (top + 1) after) (drop_top after top _ inside)

    -- there is a place in the list while an edge is left
    pub place : length h.out < quarter_max
    place = omega (arith, few)

    pub place_left : q.count < quarter_max
    place_left = subst (λ (p : Quarter). p.count < quarter_max) (sym h.list) place

    module _ {d : ℕ} (e : d ≡ amount σ t.before (top_edge after top)) where
      pub room : Room t (top_edge after top) d
      room = let r = ready in record {
        x_small = r.x_small;
        y_small = r.y_small;
        before = r.before;
        after = r.after;
        rightward = r.rightward;
        cuttable = subst (λ (d : ℕ). Cuttable t.x t.y d t.before (top_edge after top)) (sym e) r.cuttable;
      }

      module _ {n : Work} (s : Stepped σ t (top_edge after top) d n) where
        abbrev stack : List Edge
        stack = set (set after top n.last) (top - 1) n.new

        abbrev next : State
        next = at n stack (top + 1 - n.more)

        -- what the code does to its stack is the round of the definition
        stepped : step σ (at t after top) ≡ outcome d next
        stepped =
            let rest = drop (top + 1) after in
            ap (λ (es : List Edge). step_at es σ t.x t.y t.before) (drop_top after top _ inside)
            ∙ ap (λ (k : ℕ). act k σ t.x t.y t.before (top_edge after top) rest) (sym e)
            ∙ s.is rest
            ∙ ap (λ (es : List Edge). outcome d (record { x = n.x; y = n.y; before = n.before; after = es }))
            (sym (drop_front after top n.new n.last n.more s.few low inside))

        pub falls : total next < total (at t after top)
        falls = go d stepped
          where
            go : (d : ℕ) → step σ (at t after top) ≡ outcome d next → total next < total (at t after top)
            go zero w = (steps_fall σ h.taken h.out (at t after top) h.moment).0 next w
            go (suc d) w = (steps_fall σ h.taken h.out (at t after top) h.moment).1 next w

        pub again : {q' : Quarter} → q' ≡ put_out d q (pos t.x) (neg_ℤ (pos t.y)) → Held σ n stack (top + 1 - n.more) q'
        again {q'} k = go d stepped k
          where
            long' : length stack ≡ places
            long' = length-set (set after top n.last) (top - 1) n.new ∙ length-set after top n.last ∙ h.long

            go : (d : ℕ) → step σ (at t after top) ≡ outcome d next → q' ≡ put_out d q (pos t.x) (neg_ℤ (pos t.y)) →
                Held σ n stack (top + 1 - n.more) q'
            go zero w k = record {
              taken = h.taken;
              long = long';
              high = omega arith;
              out = h.out ++ (record { x = t.x; y = t.y } ∷ []);
              moment = puts h.moment w;
              list = k ∙ ap (λ (p : Quarter). stored p (pos t.x) (neg_ℤ (pos t.y))) h.list
                  ∙ stored_quarter h.out (record { x = t.x; y = t.y }) place;
            }
            go (suc d) w k = record { taken = h.taken; long = long'; high = omega arith; out = h.out; moment = cuts h.moment w; list = k ∙ h.list }
