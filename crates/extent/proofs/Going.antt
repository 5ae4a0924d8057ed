-- The edges of a pen one after the other, from the last back: the limits that they leave, and the corner that was read last.
use mathlib.Core.Path.{◌≡◌, sym, ap, ◌∙◌}
use mathlib.Core.Bool.{Bool, cond}
use mathlib.Core.List.{List, map}
use Prim.Native.Nat.{ℕ, ◌-◌, ◌≤◌, ◌<◌}
use native.Mathlib.Nat.{le_refl}
use native.Mathlib.Omega.{arith}
use lib.ListN.{get_or}
use lib.IntN.{ℤ, pos}
use borrow.Author.Tests.{lt-ltb, le-ltb}
use Rattle.plane.specs.Point.{corners}
use Rattle.plane.specs.Polygon.{edge, edges}
use Rattle.extent.specs.declared.limit.Limits.{Limits}
use Rattle.stroke.specs.Sweep.{Seg}
use Rattle.stroke.specs.Sides.{moved}
use Rattle.stroke.specs.Extent.{narrow, narrowed}
use Rattle.extent.specs.Held.{Held, Steady, Corner, left}
use Rattle.plane.proofs.Read.{place}
use Rattle.extent.proofs.Round.{corner_at, left_since, since_start, since_back, since_end}

-- the corner at a place below n, and at n
at_below : (i n : ℕ) → i < n → i ≡ corner_at i n
at_below i n h = sym (ap (λ (t : Bool). cond t i 0) (lt-ltb i n h))

at_end : (n : ℕ) → 0 ≡ corner_at n n
at_end n = sym (ap (λ (t : Bool). cond t n 0) (le-ltb n n (le_refl n)))

-- the limits r, reached from r₀ by the edges from place i on, whose first corner is (qx, qy)
pub record Going (n : ℕ) (xs ys : List ℤ) (j : ℤ) (g : Seg) (r₀ r : Limits) (qx qy : ℤ) (i : ℕ) : Type 0 where
  pub held : Held n xs ys
  pub within : i ≤ n
  pub steady : Steady r
  pub corner : Corner qx qy
  pub x : qx ≡ get_or xs (corner_at i n) (pos 0)
  pub y : qy ≡ get_or ys (corner_at i n) (pos 0)
  pub same : left r ≡ left_since n xs ys held.in_xs held.in_ys j g i (left r₀)

-- before the first
pub going : {n : ℕ} {xs ys : List ℤ} {j : ℤ} {g : Seg} {r₀ : Limits} {qx qy : ℤ} → Held n xs ys → Steady r₀ → Corner qx qy →
    qx ≡ get_or xs 0 (pos 0) → qy ≡ get_or ys 0 (pos 0) → Going n xs ys j g r₀ r₀ qx qy n
going {n} {xs} {ys} h t q x y = record {
  held = h;
  within = le_refl n;
  steady = t;
  corner = q;
  x = x ∙ ap (λ (m : ℕ). get_or xs m (pos 0)) (at_end n);
  y = y ∙ ap (λ (m : ℕ). get_or ys m (pos 0)) (at_end n);
  same = sym (since_end _ _ _ h.in_xs h.in_ys _ _ _ n (le_refl n));
}

-- one edge more
pub going_on : {n : ℕ} {xs ys : List ℤ} {j : ℤ} {g : Seg} {r₀ r r' : Limits} {qx qy px py : ℤ} {i : ℕ} → Going n xs ys j g r₀ r qx qy i → 0 < i → Steady r' → Corner px py →
    px ≡ get_or xs (i - 1) (pos 0) → py ≡ get_or ys (i - 1) (pos 0) →
    left r' ≡ narrow j (moved g (edge (place xs ys (i - 1)) (place xs ys (corner_at i n)))) (left r) → Going n xs ys j g r₀ r' px py (i - 1)
going_on {n} {xs} {ys} {j} {g} {r₀ = r₀} {i = i} v h t p x y e =
    let k = v.held in
    let inside = v.within in
    let there = at_below (i - 1) n (omega arith) in
    record {
      held = k;
      within = omega arith;
      steady = t;
      corner = p;
      x = x ∙ ap (λ (m : ℕ). get_or xs m (pos 0)) there;
      y = y ∙ ap (λ (m : ℕ). get_or ys m (pos 0)) there;
      same = e ∙ ap (narrow j (moved g (edge (place xs ys (i - 1)) (place xs ys (corner_at i n))))) v.same
          ∙ since_back n xs ys k.in_xs k.in_ys j g (left r₀) i h inside;
    }

-- all of them
pub gone : {n : ℕ} {xs ys : List ℤ} {j : ℤ} {g : Seg} {r₀ r : Limits} {qx qy : ℤ} {i : ℕ} → Going n xs ys j g r₀ r qx qy i → i ≡ 0 →
    left r ≡ narrowed j (map (moved g) (edges (corners n xs ys))) (left r₀)
gone {n} {xs} {ys} {j} {g} {r₀ = r₀} v e =
    let h = v.held in
    v.same ∙ ap (λ (k : ℕ). left_since n xs ys h.in_xs h.in_ys j g k (left r₀)) e ∙ sym (since_start n xs ys h.in_xs h.in_ys j g (left r₀))
