-- From one edge of the outline to the next: a flank that is ready for a row stands in it after its turn, whichever of the three bands the row is in. The pen at the lower end
-- up to the height of its tangent there, the segment up to that at the upper end, and the pen at the upper end from there on.
use Prim.Native.Nat.{ℕ, suc, ◌-◌, ◌≤◌}
use native.Mathlib.Omega.{arith}
use mathlib.Core.Path.{◌≡◌, refl, sym, ◌∙◌, subst}
use mathlib.Core.Logic.{inl, inr}
use mathlib.Core.Bool.{Bool, true, false, cond}
use mathlib.Core.List.{List}
use lib.Dec.{leb→le}
use lib.IntN.{ℤ, pos, ◌+ℤ◌, ◌-ℤ◌, ◌*ℤ◌}
use Rattle.integers.specs.Orders.{◌≼◌, ◌≺◌}
use Rattle.integers.specs.Bound.{Abs}
use Rattle.integers.specs.Compare.{min_z}
use Rattle.integers.proofs.Ring.{ring, reify}
use Rattle.integers.proofs.Order.{le_refl}
use Rattle.integers.proofs.Bound.{abs_add, abs_mul, abs_pos}
use Rattle.integers.proofs.Tests.{clash, min_l}
use Rattle.plane.specs.Point.{Pt}
use Rattle.plane.proofs.Read.{place}
use Rattle.ties.specs.Below.{below}
use Rattle.ties.proofs.Heights.{below_laws}
use Rattle.edge.specs.Edge.{near}
use Rattle.edge.proofs.Bounds.{bound_test}
use Rattle.edge.proofs.Carried.{Near, placed_carries}
use Rattle.outline.specs.Outline.{put}
use Rattle.flanks.specs.declared.Ends.{Ends}
use Rattle.flanks.specs.declared.Flank.{Flank}
use Rattle.flanks.specs.Walk.{place_of, walked}
use Rattle.flanks.specs.Flanks.{on_pen, at_lower, along, at_upper, turned}
use Rattle.flanks.proofs.Sides.{place_held}
use Rattle.flanks.proofs.Stops.{walk_crosses}
use Rattle.flanks.proofs.Stands.{lower, upper, Known, high, tip, Passed, Ready, Stands}

-- ---- plain numbers
back : (h e : ℤ) → h -ℤ e +ℤ e ≡ h
back = ring 2 _ (simp reify (omega arith))

swap : (H e : ℤ) → H +ℤ e ≡ e +ℤ H
swap = ring 2 _ (simp reify (omega arith))

-- a height over the end e
over_end : (h e H : ℤ) → below (h -ℤ e) H ≡ below h (e +ℤ H)
over_end h e H = let k : below (h -ℤ e +ℤ e) (H +ℤ e) ≡ below (h -ℤ e) H = below_laws.shifted (h -ℤ e) H e in sym (rw (back h e, swap H e) at k)

-- rows past a height are past every lower one, and higher rows are past what lower ones are
fails : (t : Bool) → ¬ (t ≡ true) → t ≡ false
fails true h = absurd (h refl)
fails false h = refl

past_lower : (h y z : ℤ) → y ≼ z → below h z ≡ false → below h y ≡ false
past_lower h y z l p = fails (below h y) (λ e. clash (below_laws.higher h y z l e) p)

past_higher : (g h y : ℤ) → g ≼ h → below g y ≡ false → below h y ≡ false
past_higher g h y l p = fails (below h y) (λ e. clash (below_laws.lower g h y l e) p)

corner_lt : (e a b : ℤ) → e +ℤ pos 8 *ℤ a ≺ e +ℤ pos 8 *ℤ b → a ≺ b
corner_lt = ring 3 _ (λ ρ. simp (reify, ρ) (omega arith))

end_lt : (a b z : ℤ) → a +ℤ z ≺ b +ℤ z → a ≺ b
end_lt = ring 3 _ (simp reify (omega arith))

height_le : (e a b : ℤ) → a ≼ b → e +ℤ a ≼ e +ℤ b
height_le = ring 3 _ (simp reify (omega arith))

height_back : (e a b : ℤ) → e +ℤ a ≺ e +ℤ b → a ≼ b
height_back = ring 3 _ (simp reify (omega arith))

pub corner_le : (a b : ℤ) → a ≼ b → pos 8 *ℤ a ≼ pos 8 *ℤ b
corner_le = ring 2 _ (λ ρ. simp (reify, ρ) (omega arith))

end_le : (a b z : ℤ) → a ≼ b → a +ℤ z ≼ b +ℤ z
end_le = ring 3 _ (simp reify (omega arith))

-- a corner at an end is within reach of an edge's numbers
put_near : (e z : ℤ) → Abs e 262144 → Abs z 128 → near (e +ℤ pos 8 *ℤ z) ≡ true
put_near e z a b = bound_test 263168 (e +ℤ pos 8 *ℤ z) (abs_add a (abs_mul (abs_pos 8 {a = 8} (leb→le 8 8 tt)) b))

module _ (n : ℕ) (xs ys : List ℤ) (Dy : ℤ) (left : Bool) (e : Ends) (On : Pt → Pt → Type 0) where
  -- corner i of the side, its height, and that of the place t
  abbrev corner : ℕ → Pt
  corner i = place xs ys (place_of i n left)

  abbrev up : ℕ → ℤ
  up i = high n xs ys Dy left e On i

  abbrev tipped : ℕ → ℤ
  tipped t = tip n xs ys Dy left e On t

  abbrev Done : ℕ → ℤ → ℕ → Type 0
  Done = Passed n xs ys Dy left e On

  -- ---- a corner that is passed stays passed, and is passed at the end that the row has come to
  pub stays : (t : ℕ) (g h : ℤ) (i : ℕ) → g ≼ h → Done t g i → Done t h i
  stays t g h i l (inl p) = inl (past_higher g h (e.uy +ℤ up i) l p)
  stays t g h i l (inr p) = inr (past_higher g h (e.ly +ℤ up i) l p.0, p.1)

  passed_lower : (t : ℕ) (h : ℤ) (i : ℕ) → e.ly ≼ e.uy → Done t h i → below h (e.ly +ℤ up i) ≡ false
  passed_lower t h i l (inl p) = past_lower h (e.ly +ℤ up i) (e.uy +ℤ up i) (end_le e.ly e.uy (up i) l) p
  passed_lower t h i l (inr p) = p.0

  passed_upper : (t : ℕ) (h : ℤ) (i : ℕ) → below h (e.uy +ℤ tipped t) ≡ false → Done t h i → below h (e.uy +ℤ up i) ≡ false
  passed_upper t h i u (inl p) = p
  passed_upper t h i u (inr p) = past_lower h (e.uy +ℤ up i) (e.uy +ℤ tipped t) (height_le e.uy (up i) (tipped t) p.1) u

  -- ---- the pen's edge that the row meets, at an end E whose highest corner lies above the row
  module _ {t : ℕ} (K : Known n xs ys Dy left e t On) (E : Pt) (h : ℤ) (k : ℕ)
      (passed : (i : ℕ) → i ≤ k → below h (E.y +ℤ up i) ≡ false) (under : below h (E.y +ℤ pos 8 *ℤ Dy) ≡ true) where
    c : ℕ
    c = walked ys n left (h -ℤ E.y) k

    crosses : (suc c ≤ n - 1) × ((i : ℕ) → i ≤ c → below h (E.y +ℤ up i) ≡ false) × (below h (E.y +ℤ up (suc c)) ≡ true)
    unfolding c
    crosses =
        let j = K.top.0 in
        let w = walk_crosses ys n left (h -ℤ E.y) k (λ i l. over_end h E.y (up i) ∙ passed i l) j K.top.1
        (over_end h E.y (up j) ∙ subst (λ (y : ℤ). below h (E.y +ℤ pos 8 *ℤ y) ≡ true) (sym K.top.2) under) in
        (w.0, (λ i l. sym (over_end h E.y (up i)) ∙ w.1 i l), sym (over_end h E.y (up (suc c))) ∙ w.2)

    -- the two corners of that edge, and the ends of it
    P : Pt
    P = corner c

    Q : Pt
    Q = corner (suc c)

    climbs : E.y +ℤ up c ≺ E.y +ℤ up (suc c)
    climbs = below_laws.rising h (E.y +ℤ up c) (E.y +ℤ up (suc c)) (crosses.1 c (omega arith)) crosses.2

    -- where it is the outline's, the flank stands on it
    module _ (x_small : Abs E.x 262144) (y_small : Abs E.y 262144) (h_near : near h ≡ true) (on : On (put E P) (put E Q)) where
      pen_reach : Near (E.x +ℤ pos 8 *ℤ P.x) (E.y +ℤ pos 8 *ℤ P.y) (E.x +ℤ pos 8 *ℤ Q.x) (E.y +ℤ pos 8 *ℤ Q.y) h
      unfolding P Q
      pen_reach =
          let p = place_held n left c (omega (arith, crosses.0)) in
          let q = place_held n left (suc c) (omega (arith, crosses.0)) in
          record {
            px_near = put_near E.x P.x x_small (K.sized.x_small (place_of c n left) p);
            py_near = put_near E.y P.y y_small (K.sized.y_small (place_of c n left) p);
            qx_near = put_near E.x Q.x x_small (K.sized.x_small (place_of (suc c) n left) q);
            qy_near = put_near E.y Q.y y_small (K.sized.y_small (place_of (suc c) n left) q);
            h_near = h_near;
          }

      stands_on_pen : (top : ℤ) → top ≼ E.y +ℤ up (suc c) → ((i : ℕ) → i ≤ c → Done t h i) →
          Stands n xs ys Dy left e On (record { edge = (on_pen xs ys n left t k E.x E.y h).edge; top = top; corner = (on_pen xs ys n left t k E.x E.y h).corner; tangent = t }) h
      unfolding P Q c
      stands_on_pen top l done = record {
        P = put E P;
        Q = put E Q;
        on = on;
        rising = climbs;
        reach = pen_reach;
        from = below_laws.past h (E.y +ℤ up c) (crosses.1 c (omega arith));
        to = below_laws.upto h (E.y +ℤ up (suc c)) crosses.2;
        top = l;
        carries = placed_carries _ _ _ _ h pen_reach climbs;
        ready = record { known = K; passed = done };
      }

  -- ---- the three bands
  module _ (f : Flank) (h : ℤ) (r : Ready n xs ys Dy left e On f h) (h_near : near h ≡ true) where
    abbrev t : ℕ
    t = f.tangent

    abbrev K : Known n xs ys Dy left e t On
    K = r.known

    -- the pen at the lower end, in a row below its tangent
    lower_stands : below h (e.ly +ℤ tipped t) ≡ true →
        Stands n xs ys Dy left e On (at_lower f xs ys n left e h) h
    unfolding P Q c
    lower_stands b =
        let E = lower e in
        let gone : (i : ℕ) → i ≤ f.corner → below h (e.ly +ℤ up i) ≡ false = λ i l. passed_lower t h i K.sized.level (r.passed i l) in
        let under = below_laws.higher h (e.ly +ℤ tipped t) (e.ly +ℤ pos 8 *ℤ Dy) (height_le e.ly (tipped t) (pos 8 *ℤ Dy) (corner_le _ Dy (K.sized.highest t K.held))) b in
        let k = c K E h f.corner gone under in
        let w = crosses K E h f.corner gone under in
        -- what is passed at the lower end lies below the tangent
        let lies : (i : ℕ) → i ≤ k → e.ly +ℤ up i ≺ e.ly +ℤ tipped t = λ i l. below_laws.rising h (e.ly +ℤ up i) (e.ly +ℤ tipped t) (w.1 i l) b in
        let on = K.at_lower_lem k (omega (arith, w.0)) (corner_lt e.ly _ _ (climbs K E h f.corner gone under)) (corner_lt e.ly _ _ (lies k (omega arith))) in
        stands_on_pen K E h f.corner gone under K.sized.ends.lx_small K.sized.ends.ly_small h_near on (min_z (e.ly +ℤ up (suc k)) (e.ly +ℤ tipped t))
        (min_l (e.ly +ℤ up (suc k)) (e.ly +ℤ tipped t)) (λ i l. inr (w.1 i l, height_back e.ly (up i) (tipped t) (lies i l)))

    -- the segment from end to end
    path_stands : below h (e.ly +ℤ tipped t) ≡ false → below h (e.uy +ℤ tipped t) ≡ true → Stands n xs ys Dy left e On (along f xs ys e h) h
    path_stands a b =
        let T = place xs ys t in
        let rises = below_laws.rising h (e.ly +ℤ tipped t) (e.uy +ℤ tipped t) a b in
        let x = K.sized.x_small t K.held in
        let y = K.sized.y_small t K.held in
        let reach : Near (e.lx +ℤ pos 8 *ℤ T.x) (e.ly +ℤ pos 8 *ℤ T.y) (e.ux +ℤ pos 8 *ℤ T.x) (e.uy +ℤ pos 8 *ℤ T.y) h = record {
          px_near = put_near e.lx T.x K.sized.ends.lx_small x;
          py_near = put_near e.ly T.y K.sized.ends.ly_small y;
          qx_near = put_near e.ux T.x K.sized.ends.ux_small x;
          qy_near = put_near e.uy T.y K.sized.ends.uy_small y;
          h_near = h_near;
        } in
        record {
          P = put (lower e) T;
          Q = put (upper e) T;
          on = K.along (end_lt e.ly e.uy (tipped t) rises);
          rising = rises;
          reach = reach;
          from = below_laws.past h (e.ly +ℤ tipped t) a;
          to = below_laws.upto h (e.uy +ℤ tipped t) b;
          top = le_refl (e.uy +ℤ tipped t);
          carries = placed_carries _ _ _ _ h reach rises;
          ready = record { known = K; passed = r.passed };
        }

    -- the pen at the upper end, in a row past its tangent and below the sweep's highest height
    upper_stands : below h (e.uy +ℤ tipped t) ≡ false → below h (e.uy +ℤ pos 8 *ℤ Dy) ≡ true → Stands n xs ys Dy left e On (at_upper f xs ys n left e h) h
    unfolding P Q c
    upper_stands a under =
        let E = upper e in
        let gone : (i : ℕ) → i ≤ f.corner → below h (e.uy +ℤ up i) ≡ false = λ i l. passed_upper t h i a (r.passed i l) in
        let k = c K E h f.corner gone under in
        let w = crosses K E h f.corner gone under in
        let rises = below_laws.rising h (e.uy +ℤ tipped t) (e.uy +ℤ up (suc k)) a w.2 in
        let on = K.at_upper_lem k (omega (arith, w.0)) (corner_lt e.uy _ _ (climbs K E h f.corner gone under)) (corner_lt e.uy _ _ rises) in
        stands_on_pen K E h f.corner gone under K.sized.ends.ux_small K.sized.ends.uy_small h_near on (e.uy +ℤ up (suc k)) (le_refl (e.uy +ℤ up (suc k))) (λ i l. inl (w.1 i l))

    -- whichever it is
    pub turned_stands : below h (e.uy +ℤ pos 8 *ℤ Dy) ≡ true → Stands n xs ys Dy left e On (turned f xs ys n left e h) h
    turned_stands under = go (below h (e.ly +ℤ tipped t)) refl (below h (e.uy +ℤ tipped t)) refl
      where
        go : (s : Bool) → below h (e.ly +ℤ tipped t) ≡ s → (q : Bool) → below h (e.uy +ℤ tipped t) ≡ q → Stands n xs ys Dy left e On (cond s (at_lower f xs ys n left e h) (cond q (along f xs ys e h) (at_upper f xs ys n left e h))) h
        go true a q b = lower_stands a
        go false a true b = path_stands a b
        go false a false b = upper_stands b under
