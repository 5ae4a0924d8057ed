-- What is known of the two flanks of a segment, for a pen with the laws: each record `Known` is made of the pen's laws, the corners that the tangents take, and the outline's edges.
use Prim.Native.Nat.{ℕ, suc, ◌-◌, ◌≤◌, ◌<◌}
use native.Mathlib.Omega.{arith}
use mathlib.Core.Path.{◌≡◌, sym, ap, ◌∙◌}
use mathlib.Core.Bool.{Bool, true, false}
use mathlib.Core.List.{List}
use lib.ListN.{length, get_or}
use lib.IntN.{ℤ, pos, neg_ℤ, ◌-ℤ◌, ◌*ℤ◌}
use Rattle.integers.specs.Orders.{◌≼◌}
use Rattle.integers.specs.Bound.{Abs}
use Rattle.integers.specs.Count.{◌∈◌}
use Rattle.integers.proofs.Ring.{ring, reify}
use Rattle.integers.proofs.Order.{le_trans}
use Rattle.integers.proofs.Signs.{neg_neg}
use Rattle.integers.proofs.Bound.{abs_iff}
use Rattle.plane.specs.Point.{Pt, corners}
use Rattle.plane.specs.Polygon.{PenLaws}
use Rattle.plane.proofs.Read.{place, reach_some}
use Rattle.plane.proofs.Round.{place_in, in_place}
use Rattle.stroke.specs.Sweep.{Seg}
use Rattle.stroke.proofs.Furthest.{above_lowest}
use Rattle.outline.specs.Outline.{Ordered, OnRight, OnLeft}
use Rattle.outline.proofs.Within.{not_falling}
use Rattle.outline.proofs.AtEnds.{lower_right, upper_right, lower_left, upper_left}
use Rattle.outline.proofs.AlongPath.{path_right, path_left}
use Rattle.flanks.specs.declared.Ends.{Ends}
use Rattle.flanks.specs.Walk.{place_of, tangent_of}
use Rattle.flanks.proofs.Furthest.{tangent_in, tangent_furthest}
use Rattle.flanks.proofs.Sides.{number_of, corner_in, edge_right, edge_left}
use Rattle.flanks.proofs.Stands.{lower, upper, EndsSmall, Sized, Known}

-- ---- plain numbers
from_below : (x D m : ℤ) → neg_ℤ x ≼ D → D ≼ m → neg_ℤ m ≼ x
from_below = ring 3 _ (simp reify (omega arith))

low_as : (y z D : ℤ) → neg_ℤ y ≡ D → neg_ℤ D ≼ z → y ≼ z
low_as = ring 3 _ (simp reify (omega arith))

-- furthest to the right of the opposite direction is furthest to the left
other_side : (u v x y tx ty : ℤ) → neg_ℤ v *ℤ x -ℤ neg_ℤ u *ℤ y ≼ neg_ℤ v *ℤ tx -ℤ neg_ℤ u *ℤ ty → u *ℤ y -ℤ v *ℤ x ≼ u *ℤ ty -ℤ v *ℤ tx
other_side = ring 6 _ (simp reify (omega arith))

module _ (n : ℕ) (xs ys : List ℤ) (h : n ≤ length xs) (k : n ≤ length ys) (Dx Dy : ℤ) (pen : PenLaws (corners n xs ys) Dx Dy) (wide : Dx ≼ pos 128) (tall : Dy ≼ pos 128) where
  abbrev cs : List Pt
  cs = corners n xs ys

  -- ---- the pen's numbers
  pub some : 0 < n
  some = let r = in_place n xs ys pen.lowest.1 in omega (arith, r.1)

  x_bound : (i : ℕ) → i < n → Abs (get_or xs i (pos 0)) 128
  x_bound i l =
      let z = place xs ys i in
      let m = place_in n xs ys h k i l in
      (abs_iff z.x 128).1 (from_below z.x Dx (pos 128) (pen.wide _ (pen.mirror_x z m)) wide, le_trans z.x Dx (pos 128) (pen.wide z m) wide)

  y_bound : (i : ℕ) → i < n → Abs (get_or ys i (pos 0)) 128
  y_bound i l =
      let z = place xs ys i in
      let m = place_in n xs ys h k i l in
      (abs_iff z.y 128).1 (from_below z.y Dy (pos 128) (pen.high _ (pen.mirror_y z m)) tall, le_trans z.y Dy (pos 128) (pen.high z m) tall)

  -- corner 0 lies as far below the middle as the pen reaches
  pub first_low : neg_ℤ (get_or ys 0 (pos 0)) ≡ Dy
  first_low = reach_some n xs ys some h k ∙ pen.reaches

  lowest_first : (i : ℕ) → i < n → get_or ys 0 (pos 0) ≼ get_or ys i (pos 0)
  lowest_first i l = low_as (get_or ys 0 (pos 0)) (get_or ys i (pos 0)) Dy first_low (above_lowest cs Dx Dy pen (place_in n xs ys h k i l))

  -- a highest corner is there, and each side has it
  top_corner : (left : Bool) → (j : ℕ) × (j ≤ n - 1) × (get_or ys (place_of j n left) (pos 0) ≡ Dy)
  top_corner left =
      let z = pen.lowest.0 in
      let r = in_place n xs ys (pen.mirror_y z pen.lowest.1) in
      let s = number_of n left r.0 r.1 in
      (s.0, s.1, ap (λ (i : ℕ). get_or ys i (pos 0)) s.2 ∙ sym (ap (λ (p : Pt). p.y) r.2) ∙ ap neg_ℤ pen.lowest.2 ∙ sym (neg_neg Dy))

  module _ (g : Seg) (e : Ends) (o : Ordered g (lower e) (upper e)) (small : EndsSmall e) where
    sized : Sized n xs ys Dy e
    sized = record {
      level = not_falling g o;
      ends = small;
      x_small = x_bound;
      y_small = y_bound;
      highest = λ i l. pen.high (place xs ys i) (place_in n xs ys h k i l);
      lowest = lowest_first;
    }

    abbrev u : ℤ
    u = e.ux -ℤ e.lx

    abbrev v : ℤ
    v = e.uy -ℤ e.ly

    -- ---- the tangents
    abbrev right : ℕ
    right = tangent_of xs ys n u v

    abbrev left : ℕ
    left = tangent_of xs ys n (neg_ℤ u) (neg_ℤ v)

    abbrev R : Pt
    R = place xs ys right

    abbrev L : Pt
    L = place xs ys left

    right_furthest : (z : Pt) → z ∈ cs → v *ℤ z.x -ℤ u *ℤ z.y ≼ v *ℤ R.x -ℤ u *ℤ R.y
    right_furthest z m = let r = in_place n xs ys m in rw r.2 (tangent_furthest xs ys u v n some r.0 r.1)

    left_furthest : (z : Pt) → z ∈ cs → u *ℤ z.y -ℤ v *ℤ z.x ≼ u *ℤ L.y -ℤ v *ℤ L.x
    left_furthest z m =
        let r = in_place n xs ys m in
        other_side u v z.x z.y L.x L.y (rw r.2 (tangent_furthest xs ys (neg_ℤ u) (neg_ℤ v) n some r.0 r.1))

    -- ---- both flanks
    pub right_known : Known n xs ys Dy false e right (OnRight cs g)
    right_known =
        let t = tangent_in xs ys u v n some in
        let T = place_in n xs ys h k right t in
        record {
          sized = sized;
          held = t;
          top = top_corner false;
          at_lower_lem = λ c l r q. lower_right cs Dx Dy pen g o (corner_in n xs ys h k false c (omega (arith, l))) (corner_in n xs ys h k false (suc c) l) T (edge_right n xs ys h k c l) r right_furthest q;
          at_upper_lem = λ c l r q. upper_right cs Dx Dy pen g o (corner_in n xs ys h k false c (omega (arith, l))) (corner_in n xs ys h k false (suc c) l) T (edge_right n xs ys h k c l) r right_furthest q;
          along = λ r. path_right cs Dx Dy pen g o r T right_furthest;
        }

    pub left_known : Known n xs ys Dy true e left (OnLeft cs g)
    left_known =
        let t = tangent_in xs ys (neg_ℤ u) (neg_ℤ v) n some in
        let T = place_in n xs ys h k left t in
        record {
          sized = sized;
          held = t;
          top = top_corner true;
          at_lower_lem = λ c l r q. lower_left cs Dx Dy pen g o (corner_in n xs ys h k true c (omega (arith, l))) (corner_in n xs ys h k true (suc c) l) T (edge_left n xs ys h k c l) r left_furthest q;
          at_upper_lem = λ c l r q. upper_left cs Dx Dy pen g o (corner_in n xs ys h k true c (omega (arith, l))) (corner_in n xs ys h k true (suc c) l) T (edge_left n xs ys h k c l) r left_furthest q;
          along = λ r. path_left cs Dx Dy pen g o r T left_furthest;
        }
