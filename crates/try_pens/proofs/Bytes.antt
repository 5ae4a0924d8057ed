-- The bytes of the corners, one corner more at a time.
use Prim.Native.Nat.{ℕ, suc, ◌+◌, ◌*◌, ◌≤◌, ◌<◌}
use native.Mathlib.Numerals.{add-one}
use native.Mathlib.Omega.{arith}
use mathlib.Core.Path.{◌≡◌, refl, sym, ap, ◌∙◌}
use mathlib.Core.List.{List, [], ◌∷◌, ◌++◌, append_assoc, append-nil}
use lib.ListN.{length, take, get_or, set, length-set, length-take}
use lib.Seq.{take-suc, take-suc-set}
use lib.IntN.{ℤ, pos}
use Rattle.pen.specs.declared.Pen.{Pen}
use Rattle.plane.specs.Point.{Pt, pt, points, corners}
use Rattle.limits.specs.Sizes.{pen_max}
use Rattle.wire.specs.Write.{byte_of}
use Rattle.try_pens.specs.Answer.{answer_max, pairs}

-- the lists with a last corner more
points_snoc : (xs ys : List ℤ) (a b : ℤ) →
    length xs ≡ length ys → points (xs ++ (a ∷ [])) (ys ++ (b ∷ [])) ≡ points xs ys ++ (pt a b ∷ [])
unfolding points
points_snoc [] [] a b e = refl
points_snoc [] (y ∷ ys) a b e = absurd (omega arith)
points_snoc (x ∷ xs) [] a b e = absurd (omega arith)
points_snoc (x ∷ xs) (y ∷ ys) a b e = ap (λ (l : List Pt). pt x y ∷ l) (points_snoc xs ys a b (omega arith))

pairs_snoc : (cs : List Pt) (z : Pt) → pairs (cs ++ (z ∷ [])) ≡ pairs cs ++ (byte_of z.x ∷ byte_of z.y ∷ [])
unfolding pairs
pairs_snoc [] z = refl
pairs_snoc (c ∷ cs) z = ap (λ (l : List ℕ). byte_of c.x ∷ byte_of c.y ∷ l) (pairs_snoc cs z)

corners_more : (n : ℕ) (xs ys : List ℤ) → n < length xs → n < length ys →
    corners (n + 1) xs ys ≡ corners n xs ys ++ (pt (get_or xs n (pos 0)) (get_or ys n (pos 0)) ∷ [])
corners_more n xs ys h k =
    let e : length (take n xs) ≡ length (take n ys) = simp length-take (omega arith) in
    rw (add-one, take-suc xs n (pos 0), take-suc ys n (pos 0)) (points_snoc (take n xs) (take n ys) (get_or xs n (pos 0)) (get_or ys n (pos 0)) e)

-- two stores, one after the other
pub two_more : (out : List ℕ) (k a b : ℕ) → k + 1 < length out → take (k + 2) (set (set out k a) (k + 1) b) ≡ take k out ++ (a ∷ b ∷ [])
two_more out k a b h =
    let e : k + 2 ≡ suc (suc k) = omega arith in
    let f : suc k < length (set out k a) = simp length-set (omega arith) in
    let g : k < length out = omega arith in
    rw (e, add-one, take-suc-set (set out k a) (suc k) b, take-suc-set out k a, append_assoc)

-- so many corners are written, behind the two bytes that out₀ has
pub record Going (out₀ : List ℕ) (p : Pen) (out : List ℕ) (i : ℕ) : Type 0 where
  pub within : i ≤ p.count
  pub long : length out ≡ answer_max
  pub held : take (2 * i + 2) out ≡ take 2 out₀ ++ pairs (corners i p.x p.y)

-- a turn of the loop: one corner more
pub more : {out₀ out out' : List ℕ} {p : Pen} {i : ℕ} →
    Going out₀ p out i →
    i < p.count →
    p.count ≤ pen_max →
    length p.x ≡ pen_max →
    length p.y ≡ pen_max →
    out' ≡ set (set out (2 * i + 2) (byte_of (get_or p.x i (pos 0)))) (2 * i + 2 + 1) (byte_of (get_or p.y i (pos 0))) →
    Going out₀ p out' (i + 1)
more {out₀} {out} {out'} {p} {i} g h few lx ly e =
    let a = byte_of (get_or p.x i (pos 0)) in
    let b = byte_of (get_or p.y i (pos 0)) in
    let written = corners i p.x p.y in
    let next = pt (get_or p.x i (pos 0)) (get_or p.y i (pos 0)) in
    let n : 2 * (i + 1) + 2 ≡ 2 * i + 2 + 2 = omega arith in
    let k : 2 * i + 2 + 1 < length out = omega (arith, g.long) in
    record {
      within = omega arith;
      long = ap length e ∙ simp length-set g.long;
      held =
          rw (n, e) (two_more out (2 * i + 2) a b k
          ∙ ap (λ (l : List ℕ). l ++ (a ∷ b ∷ [])) g.held
          ∙ append_assoc (take 2 out₀) (pairs written) (a ∷ b ∷ [])
          ∙ ap (λ (l : List ℕ). take 2 out₀ ++ l)
          (sym (pairs_snoc written next) ∙ ap pairs (sym (corners_more i p.x p.y (omega arith) (omega arith)))));
    }

-- before the first turn
pub begun : (out₀ : List ℕ) (p : Pen) → length out₀ ≡ answer_max → Going out₀ p out₀ 0
unfolding points pairs
begun out₀ p h = record { within = omega arith; long = h; held = sym (append-nil (take 2 out₀)) }
