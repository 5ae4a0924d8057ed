-- The columns between the flanks are the segment's extent: in a row of the sweep both flanks stand on edges of the outline that the row meets, and every other row has nothing.
use Prim.Native.Nat.{ℕ, zero, suc, ◌+◌, ◌≤◌, ◌<◌}
use native.Mathlib.Omega.{arith}
use mathlib.Core.Path.{◌≡◌, refl, sym, ap, ap₂, ◌∙◌, subst}
use mathlib.Core.Logic.{inl, inr}
use mathlib.Core.Bool.{Bool, true, false, not, cond, ◌&&◌}
use mathlib.Core.List.{List}
use lib.ListN.{length, get_or}
use lib.IntN.{ℤ, pos, neg_ℤ, ◌+ℤ◌, ◌-ℤ◌, ◌*ℤ◌}
use lib.Signed.{le_z}
use Rattle.integers.specs.Orders.{◌≼◌}
use Rattle.integers.specs.Bound.{Abs}
use Rattle.integers.proofs.Ring.{ring, reify}
use Rattle.integers.proofs.Order.{lt_le}
use Rattle.integers.proofs.Tests.{le_true, le_false, and_both}
use Rattle.integers.proofs.Bound.{abs_iff}
use Rattle.limits.specs.Sizes.{raster_max, in_range}
use Rattle.plane.specs.Point.{Pt, pt, corners}
use Rattle.plane.specs.Polygon.{PenLaws}
use Rattle.plane.proofs.Read.{corners_all}
use Rattle.ties.specs.Below.{below}
use Rattle.stroke.specs.Sweep.{Seg}
use Rattle.stroke.specs.Extent.{none, extent}
use Rattle.edge.proofs.Carried.{column_is}
use Rattle.outline.specs.Outline.{Ordered, forward, backward, OnRight, OnLeft, past}
use Rattle.outline.proofs.Theorems.{crossed_extent, outside_none}
use Rattle.flanks.specs.declared.Ends.{Ends}
use Rattle.flanks.specs.declared.Flank.{Flank}
use Rattle.flanks.specs.declared.Flanks.{Flanks}
use Rattle.flanks.specs.Walk.{tangent_of}
use Rattle.flanks.specs.Flanks.{ordered, held_of, idle, begun, inside_of, climbed, risen, flanks_at, span_at}
use Rattle.flanks.specs.Theorems.{FlanksBound}
use Rattle.flanks.proofs.Stands.{lower, upper, EndsSmall}
use Rattle.flanks.proofs.Rows.{height, next, flank_at, There, is_there}
use Rattle.flanks.proofs.OfPen.{first_low, right_known, left_known}

-- ---- the ends in order
abbrev segment : ℤ → ℤ → ℤ → ℤ → Seg
segment ax ay bx by = record { from = pt ax ay; to = pt bx by }

in_order : (ax ay bx by : ℤ) → Ordered (segment ax ay bx by) (lower (ordered ax ay bx by)) (upper (ordered ax ay bx by))
in_order ax ay bx by = go (le_z ay by) refl
  where
    go : (t : Bool) → le_z ay by ≡ t →
        let e : Ends = cond t (record { lx = ax; ly = ay; ux = bx; uy = by }) (record { lx = bx; ly = by; ux = ax; uy = ay }) in
        Ordered (segment ax ay bx by) (lower e) (upper e)
    go true l = forward (le_true l)
    go false l = backward (lt_le by ay (le_false l))

pub range_abs : (z : ℤ) → in_range z ≡ true → Abs z 262144
unfolding in_range
range_abs z r = let p = and_both _ _ r in (abs_iff z 262144).1 (le_true p.0, le_true p.1)

ends_small : (ax ay bx by : ℤ) → in_range ax ≡ true → in_range ay ≡ true → in_range bx ≡ true → in_range by ≡ true → EndsSmall (ordered ax ay bx by)
ends_small ax ay bx by a b c d = go (le_z ay by)
  where
    go : (t : Bool) → EndsSmall (cond t (record { lx = ax; ly = ay; ux = bx; uy = by }) (record { lx = bx; ly = by; ux = ax; uy = ay }))
    go true = record { lx_small = range_abs ax a; ly_small = range_abs ay b; ux_small = range_abs bx c; uy_small = range_abs by d }
    go false = record { lx_small = range_abs bx c; ly_small = range_abs by d; ux_small = range_abs ax a; uy_small = range_abs ay b }

-- ---- the sweep's lowest and highest height, by the pen's first corner
low_height : (l y D : ℤ) → neg_ℤ y ≡ D → l +ℤ pos 8 *ℤ y ≡ l -ℤ pos 8 *ℤ D
low_height = ring 3 _ (λ ρ q. rw (← q) (simp (reify, ρ) (omega arith)))

high_height : (h y D : ℤ) → neg_ℤ y ≡ D → h -ℤ pos 8 *ℤ y ≡ h +ℤ pos 8 *ℤ D
high_height = ring 3 _ (λ ρ q. rw (← q) (simp (reify, ρ) (omega arith)))

-- ---- two flanks, each going its own way
module _ (count : ℕ) (xs ys : List ℤ) (ax ay bx by : ℤ) where
  abbrev n : ℕ
  n = held_of count xs ys

  abbrev e : Ends
  e = ordered ax ay bx by

  abbrev u : ℤ
  u = e.ux -ℤ e.lx

  abbrev v : ℤ
  v = e.uy -ℤ e.ly

  abbrev low : ℤ
  low = e.ly +ℤ pos 8 *ℤ get_or ys 0 (pos 0)

  abbrev high : ℤ
  high = e.uy -ℤ pos 8 *ℤ get_or ys 0 (pos 0)

  abbrev made : Flank → Flank → Flanks
  made l r = record { ends = e; low = low; high = high; left = l; right = r }

  -- one row up, and from the first row on
  abbrev up : Bool → Flank → ℕ → Flank
  up left = next n xs ys left e low high

  abbrev side : Bool → ℕ → ℕ → ℕ → Flank
  side left = flank_at n xs ys left e low high

  rise_each : (l r : Flank) (j : ℕ) → risen count xs ys (made l r) j ≡ made (up true l j) (up false r j)
  unfolding risen
  rise_each l r j = go (inside_of low high j)
    where
      go : (t : Bool) → cond t (made (climbed l xs ys n true e (height j)) (climbed r xs ys n false e (height j))) (made l r)
          ≡ made (cond t (climbed l xs ys n true e (height j)) l) (cond t (climbed r xs ys n false e (height j)) r)
      go true = refl
      go false = refl

  abbrev left : ℕ
  left = tangent_of xs ys n (neg_ℤ u) (neg_ℤ v)

  abbrev right : ℕ
  right = tangent_of xs ys n u v

  both_sides : (j k : ℕ) → flanks_at count xs ys ax ay bx by j k ≡ made (side true left j k) (side false right j k)
  unfolding begun
  both_sides j zero = rise_each (idle low left) (idle low right) j
  both_sides j (suc k) = ap (λ (f : Flanks). risen count xs ys f (j + suc k)) (both_sides j k) ∙ rise_each (side true left j k) (side false right j k) (j + suc k)

  -- ---- for a pen
  module _ (Dx Dy : ℤ) (pen : PenLaws (corners n xs ys) Dx Dy) (wide : Dx ≼ pos 128) (tall : Dy ≼ pos 128) (small : EndsSmall e) where
    abbrev cs : List Pt
    cs = corners n xs ys

    abbrev g : Seg
    g = segment ax ay bx by

    xs_held : n ≤ length xs
    xs_held = omega arith

    ys_held : n ≤ length ys
    ys_held = omega arith

    first : neg_ℤ (get_or ys 0 (pos 0)) ≡ Dy
    first = first_low n xs ys xs_held ys_held Dx Dy pen wide tall

    low_is : low ≡ e.ly -ℤ pos 8 *ℤ Dy
    low_is = low_height e.ly (get_or ys 0 (pos 0)) Dy first

    high_is : high ≡ e.uy +ℤ pos 8 *ℤ Dy
    high_is = high_height e.uy (get_or ys 0 (pos 0)) Dy first

    o : Ordered g (lower e) (upper e)
    o = in_order ax ay bx by

    left_there : (j k : ℕ) → j + k < raster_max → There n xs ys Dy true e left (OnLeft cs g) low high (side true left j k) (j + k)
    left_there = is_there n xs ys Dy true e left (OnLeft cs g) (left_known n xs ys xs_held ys_held Dx Dy pen wide tall g e o small) low high refl high_is

    right_there : (j k : ℕ) → j + k < raster_max → There n xs ys Dy false e right (OnRight cs g) low high (side false right j k) (j + k)
    right_there = is_there n xs ys Dy false e right (OnRight cs g) (right_known n xs ys xs_held ys_held Dx Dy pen wide tall g e o small) low high refl high_is

    -- where both stand they stand on edges that the row meets
    between : (l r : Flank) (j : ℕ) → There n xs ys Dy true e left (OnLeft cs g) low high l j → There n xs ys Dy false e right (OnRight cs g) low high r j →
        span_at (made l r) j ≡ extent cs g (pos j)
    between l r j a b = go (below (height j) low) refl (below (height j) high) refl
      where
        go : (s : Bool) → below (height j) low ≡ s → (t : Bool) → below (height j) high ≡ t → cond (not s && t) (past l.edge.column r.edge.column) none ≡ extent cs g (pos j)
        go true p t q = sym (outside_none cs Dx Dy pen g (lower e) (upper e) o (pos j) (inl (rw (← low_is) p)))
        go false p false q = sym (outside_none cs Dx Dy pen g (lower e) (upper e) o (pos j) (inr (rw (← high_is) q)))
        go false p true q =
            let L = a.stands p q in
            let R = b.stands p q in
            ap₂ past (column_is L.P.x L.P.y L.Q.x L.Q.y (height j) L.rising L.carries) (column_is R.P.x R.P.y R.Q.x R.Q.y (height j) R.rising R.carries)
            ∙ sym (crossed_extent cs Dx Dy pen g (lower e) (upper e) o (pos j) (rw (← low_is) p) (rw (← high_is) q) L.P L.Q R.P R.Q L.on (L.from, L.to) R.on (R.from, R.to))

    bound : (j k : ℕ) → j + k < raster_max → span_at (flanks_at count xs ys ax ay bx by j k) (j + k) ≡ extent cs g (pos (j + k))
    bound j k m = ap (λ (f : Flanks). span_at f (j + k)) (both_sides j k) ∙ between (side true left j k) (side false right j k) (j + k) (left_there j k m) (right_there j k m)

-- as many corners as the arrays hold are all of them
pub flanks_bound : FlanksBound
flanks_bound count xs ys Dx Dy pen wide tall ax ay bx by a b c d j k m =
    let all = corners_all (held_of count xs ys) count xs ys refl in
    bound count xs ys ax ay bx by Dx Dy (subst (λ (cs : List Pt). PenLaws cs Dx Dy) all pen) wide tall (ends_small ax ay bx by a b c d) j k m
    ∙ ap (λ (cs : List Pt). extent cs (segment ax ay bx by) (pos (j + k))) (sym all)
