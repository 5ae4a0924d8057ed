-- The loop that makes the whole polygon: the corners stored so far and those still to come are the whole polygon, and each round moves one over.
use Prim.Native.Nat.{ℕ, suc, ◌+◌, ◌*◌, ◌-◌, ◌≤◌, ◌<◌}
use mathlib.Core.Path.{◌≡◌, refl, sym, ap, ap₂, subst, ◌∙◌}
use mathlib.Core.Bool.{Bool, true, false, cond}
use mathlib.Core.List.{List, [], ◌∷◌, ◌++◌, append_assoc}
use native.Mathlib.Numerals.{add-one}
use native.Mathlib.Omega.{arith}
use lib.ListN.{length, get_or, drop, length-append, drop_of_length-le}
use lib.Seq.{drop-cons}
use Rattle.limits.specs.Sizes.{pen_max}
use Rattle.quarter.specs.declared.Quarter.{Quarter}
use Rattle.plane.specs.Point.{Pt, same}
use Rattle.pen.specs.declared.Pen.{Pen}
use Rattle.pen.specs.Polygon.{around, once_each, closed, whole}
use Rattle.pen.specs.Answer.{pen_of}
use Rattle.pen.specs.Mirrored.{origin, corners_of, Mirrorable, pushed}
use Rattle.pen.proofs.Laid.{once, pushed_pen}
use Rattle.pen.proofs.Walk.{walk_long}

-- the walk around the polygon, and its corner i
abbrev pub walk : Quarter → List Pt
walk q = around (corners_of q)

abbrev pub corner : Quarter → ℕ → Pt
corner q i = get_or (walk q) i origin

-- at place i of the walk the pen p holds the corners before a, which is the last that was seen, and a and those from i on are still to come
pub record Going (q : Quarter) (p : Pen) (i : ℕ) (a : Pt) : Type 0 where
  pub mirrorable : Mirrorable q
  pub begun : 1 ≤ i
  pub inside : i ≤ 4 * q.count
  pub seen : a ≡ corner q (i - 1)
  pub out : List Pt
  pub few : length out < i
  pub held : p ≡ pen_of out
  pub left : out ++ once_each (corner q 0) (corner q (i - 1)) (drop i (walk q)) ≡ whole (corners_of q)

-- ---- one corner with the next one
one_at_most : (a b : Pt) → length (once a b) ≤ 1
one_at_most a b = go (same a b)
  where
    go : (t : Bool) → length (cond t [] (a ∷ [])) ≤ 1
    go true = omega arith
    go false = omega arith

once_cons : (f p r : Pt) (l : List Pt) → once_each f p (r ∷ l) ≡ once p r ++ once_each f r l
unfolding once_each
once_cons f p r l = go (same p r)
  where
    go : (t : Bool) → cond t (once_each f r l) (p ∷ once_each f r l) ≡ cond t [] (p ∷ []) ++ once_each f r l
    go true = refl
    go false = refl

-- ---- the loop
-- before the first corner is stored the whole walk is still to come
pub going_first : (q : Quarter) {p : Pen} {a : Pt} → Mirrorable q → p ≡ pen_of [] → a ≡ corner q 0 → Going q p 1 a
going_first q m e h = record {
  mirrorable = m;
  begun = omega arith;
  inside = omega (arith, m.some);
  seen = h;
  out = [];
  few = omega arith;
  held = e;
  left = first (walk q) (omega (arith, walk_long q m, m.some));
}
  where
    first : (l : List Pt) → 1 ≤ length l → once_each (get_or l 0 origin) (get_or l 0 origin) (drop 1 l) ≡ closed l
    first [] h = absurd (omega arith)
    first (z ∷ l) h = refl

module _ {q : Quarter} {p : Pen} {i : ℕ} {a : Pt} (g : Going q p i a) where
  -- there is a place for one corner more
  pub going_room : p.count < pen_max
  going_room = subst (λ (p : Pen). p.count < pen_max) (sym g.held) (omega (arith, g.few, g.inside, g.mirrorable.few))

  -- the pen once a, with the next corner b, is stored, unless they are equal
  more : {p' : Pen} {b : Pt} (z : Pt) → b ≡ z → p' ≡ pushed p a b → p' ≡ pen_of (g.out ++ once (corner q (i - 1)) z)
  more z eb e =
      e ∙ ap₂ (λ (a b : Pt). pushed p a b) g.seen eb ∙ ap (λ (p : Pen). pushed p (corner q (i - 1)) z) g.held
      ∙ pushed_pen g.out (corner q (i - 1)) z (omega (arith, g.few, g.inside, g.mirrorable.few))

  -- one corner further
  pub going_on : {p' : Pen} {b : Pt} → i < 4 * q.count → b ≡ corner q i → p' ≡ pushed p a b → Going q p' (i + 1) b
  going_on l eb e =
      let z = corner q (i - 1) in
      let r = corner q i in
      let rest = drop (suc i) (walk q) in
      let back : i + 1 - 1 ≡ i = omega arith in
      let next : drop i (walk q) ≡ r ∷ rest = drop-cons (walk q) i origin (omega (arith, walk_long q g.mirrorable)) in
      record {
        mirrorable = g.mirrorable;
        begun = omega arith;
        inside = omega arith;
        seen = rw back eb;
        out = g.out ++ once z r;
        few = omega (arith, length-append g.out (once z r), one_at_most z r, g.few);
        held = more r eb e;
        left = rw (back, add-one) (append_assoc g.out (once z r) (once_each (corner q 0) r rest)
            ∙ ap (λ (l : List Pt). g.out ++ l) (sym (once_cons (corner q 0) z r rest) ∙ ap (once_each (corner q 0) z) (sym next))
            ∙ g.left);
      }

  -- the last corner goes with the first
  pub going_ended : {p' : Pen} {f : Pt} → 4 * q.count ≤ i → f ≡ corner q 0 → p' ≡ pushed p a f → p' ≡ pen_of (whole (corners_of q))
  unfolding once_each
  going_ended l ef e =
      let none : drop i (walk q) ≡ [] = drop_of_length-le (walk q) {i = i} (omega (arith, walk_long q g.mirrorable)) in
      more (corner q 0) ef e
      ∙ ap pen_of (ap (λ (l : List Pt). g.out ++ once_each (corner q 0) (corner q (i - 1)) l) (sym none) ∙ g.left)
