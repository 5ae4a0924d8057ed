-- One row up: a flank that stands in a row stands in the next one, on the same edge or after a turn; and one that waits stands in the first row of the sweep.
use Prim.Native.Nat.{ℕ, zero, suc, ◌≤◌}
use native.Mathlib.Omega.{arith}
use mathlib.Core.Path.{◌≡◌, refl}
use mathlib.Core.Logic.{inr}
use mathlib.Core.Bool.{Bool, true, false, cond}
use mathlib.Core.List.{List}
use lib.ListN.{get_or}
use lib.IntN.{ℤ, pos, ◌+ℤ◌, ◌*ℤ◌}
use Rattle.integers.specs.Orders.{◌≼◌}
use Rattle.integers.proofs.Ring.{ring, reify}
use Rattle.integers.proofs.Order.{le_trans}
use Rattle.plane.specs.Point.{Pt}
use Rattle.ties.specs.Below.{below}
use Rattle.ties.proofs.Heights.{below_laws}
use Rattle.edge.specs.Edge.{near, raised}
use Rattle.edge.proofs.Carried.{raised_carries}
use Rattle.flanks.specs.declared.Ends.{Ends}
use Rattle.flanks.specs.declared.Flank.{Flank}
use Rattle.flanks.specs.Walk.{height_at}
use Rattle.flanks.specs.Flanks.{idle, turned, climbed}
use Rattle.flanks.proofs.Walks.{place_first}
use Rattle.flanks.proofs.Stands.{Known, Passed, Ready, Stands}
use Rattle.flanks.proofs.Turns.{corner_le, stays, turned_stands}

row_up : (h : ℤ) → h ≼ h +ℤ pos 16
row_up = ring 1 _ (λ ρ. simp (reify, ρ) (omega arith))

-- both sides begin at corner 0
first_height : (ys : List ℤ) (n : ℕ) (left : Bool) → height_at ys n left 0 ≡ pos 8 *ℤ get_or ys 0 (pos 0)
first_height ys n left = rw (place_first 0 n left refl) refl

module _ (n : ℕ) (xs ys : List ℤ) (Dy : ℤ) (left : Bool) (e : Ends) (On : Pt → Pt → Type 0) where
  -- on the same edge, up to its end
  raised_stands : (f : Flank) (h : ℤ) → Stands n xs ys Dy left e On f h → near (h +ℤ pos 16) ≡ true → below (h +ℤ pos 16) f.top ≡ true →
      Stands n xs ys Dy left e On (record { edge = raised f.edge; top = f.top; corner = f.corner; tangent = f.tangent }) (h +ℤ pos 16)
  raised_stands f h s n' b = record {
    P = s.P;
    Q = s.Q;
    on = s.on;
    rising = s.rising;
    reach = record { px_near = s.reach.px_near; py_near = s.reach.py_near; qx_near = s.reach.qx_near; qy_near = s.reach.qy_near; h_near = n' };
    from = le_trans s.P.y h (h +ℤ pos 16) s.from (row_up h);
    to = le_trans (h +ℤ pos 16) f.top s.Q.y (below_laws.upto (h +ℤ pos 16) f.top b) s.top;
    top = s.top;
    carries = raised_carries s.P.x s.P.y s.Q.x s.Q.y h s.reach s.rising s.carries;
    ready = record { known = s.ready.known; passed = λ i l. stays n xs ys Dy left e On f.tangent h (h +ℤ pos 16) i (row_up h) (s.ready.passed i l) };
  }

  pub climbed_stands : (f : Flank) (h : ℤ) → Stands n xs ys Dy left e On f h → near (h +ℤ pos 16) ≡ true → below (h +ℤ pos 16) (e.uy +ℤ pos 8 *ℤ Dy) ≡ true →
      Stands n xs ys Dy left e On (climbed f xs ys n left e (h +ℤ pos 16)) (h +ℤ pos 16)
  unfolding climbed
  climbed_stands f h s n' under = go (below (h +ℤ pos 16) f.top) refl
    where
      ready : Ready n xs ys Dy left e On f (h +ℤ pos 16)
      ready = record { known = s.ready.known; passed = λ i l. stays n xs ys Dy left e On f.tangent h (h +ℤ pos 16) i (row_up h) (s.ready.passed i l) }

      go : (t : Bool) → below (h +ℤ pos 16) f.top ≡ t →
          Stands n xs ys Dy left e On (cond t (record { edge = raised f.edge; top = f.top; corner = f.corner; tangent = f.tangent }) (turned f xs ys n left e (h +ℤ pos 16))) (h +ℤ pos 16)
      go true b = raised_stands f h s n' b
      go false b = turned_stands n xs ys Dy left e On f (h +ℤ pos 16) ready n' under

  -- a flank that waits has passed corner 0, and ends where the sweep begins
  pub first_stands : (t : ℕ) (h : ℤ) → Known n xs ys Dy left e t On → near h ≡ true →
      let low = e.ly +ℤ pos 8 *ℤ get_or ys 0 (pos 0) in
      below h low ≡ false → below h (e.uy +ℤ pos 8 *ℤ Dy) ≡ true → Stands n xs ys Dy left e On (climbed (idle low t) xs ys n left e h) h
  unfolding climbed
  first_stands t h K h_near above under =
      rw above (turned_stands n xs ys Dy left e On (idle (e.ly +ℤ pos 8 *ℤ get_or ys 0 (pos 0)) t) h (record { known = K; passed = passed }) h_near under)
    where
      passed : (i : ℕ) → i ≤ 0 → Passed n xs ys Dy left e On t h i
      passed zero l = rw (first_height ys n left) (inr (above, corner_le (get_or ys 0 (pos 0)) (get_or ys t (pos 0)) (K.sized.lowest t K.held)))
      passed (suc i) l = absurd (omega arith)
