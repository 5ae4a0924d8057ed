-- The edges of a polygon one after the other: from corner i to the next one, which after the last is corner 0.
use Prim.Native.Nat.{ℕ, zero, suc, ◌+◌, ◌≤◌, ◌<◌}
use native.Mathlib.Omega.{arith}
use native.Mathlib.Numerals.{add-one}
use mathlib.Core.Path.{◌≡◌, refl, sym, ap, subst, ◌∙◌}
use mathlib.Core.Bool.{Bool, true, false, cond}
use mathlib.Core.List.Memᴰ
use mathlib.Core.List.{List, [], ◌∷◌}
use lib.Dec.{ltb}
use lib.ListN.{length, drop, drop_of_length-le}
use lib.IntN.{ℤ}
use borrow.Author.Tests.{ltb-true, ltb-false}
use Rattle.integers.specs.Count.{◌∈◌}
use Rattle.plane.specs.Point.{Pt, points, corners}
use Rattle.plane.specs.Polygon.{Side, edge, chain, edges}
use Rattle.plane.proofs.Read.{origin, place, corners_long, from_place}

-- the first of a list, and of none the corner F
abbrev pub head : Pt → List Pt → Pt
head F [] = F
head F (P ∷ l) = P

-- the edges from the corners of the list, the last one to F
unfoldable pub rest : Pt → List Pt → List Side
rest F [] = []
rest F (P ∷ l) = chain F P l

pub rest_cons : (F P : Pt) (l : List Pt) → rest F (P ∷ l) ≡ edge P (head F l) ∷ rest F l
unfolding rest chain
rest_cons F P [] = refl
rest_cons F P (Q ∷ l) = refl

pub edges_rest : (cs : List Pt) → edges cs ≡ rest (head origin cs) cs
unfolding rest edges
edges_rest [] = refl
edges_rest (P ∷ l) = refl

-- the place after place i of n
abbrev pub corner_after : ℕ → ℕ → ℕ
corner_after i n = cond (ltb (i + 1) n) (i + 1) 0

module _ (n : ℕ) (xs ys : List ℤ) (h : n ≤ length xs) (k : n ≤ length ys) where
  first : 0 < n → head origin (corners n xs ys) ≡ place xs ys 0
  first l = ap (head origin) (from_place n xs ys 0 h k l)

  pub next : (i : ℕ) → i < n → head (head origin (corners n xs ys)) (drop (suc i) (corners n xs ys)) ≡ place xs ys (corner_after i n)
  next i l = go (ltb (i + 1) n) refl
    where
      go : (t : Bool) → ltb (i + 1) n ≡ t → head (head origin (corners n xs ys)) (drop (suc i) (corners n xs ys)) ≡ place xs ys (cond t (i + 1) 0)
      go true e = ap (head (head origin (corners n xs ys))) (from_place n xs ys (suc i) h k (omega (arith, ltb-true (i + 1) n e))) ∙ ap (place xs ys) (sym (add-one i))
      go false e =
          ap (head (head origin (corners n xs ys))) (drop_of_length-le (corners n xs ys) {i = suc i} (omega (arith, corners_long n xs ys h k, ltb-false (i + 1) n e)))
          ∙ first (omega arith)

-- the edges from a later corner on are edges
later : (F : Pt) (l : List Pt) (i : ℕ) {e : Side} → e ∈ rest F (drop i l) → e ∈ rest F l
later F l zero m = m
later F [] (suc i) m = m
later F (P ∷ l) (suc i) {e} m = subst (λ (es : List Side). e ∈ es) (sym (rest_cons F P l)) (Memᴰ.tail (later F l i m))

-- the corners that the arrays hold, and the edges between them
module _ (n : ℕ) (xs ys : List ℤ) (h : n ≤ length xs) (k : n ≤ length ys) where
  pub place_in : (i : ℕ) → i < n → place xs ys i ∈ corners n xs ys
  place_in i l = dropped (corners n xs ys) i (subst (λ (cs : List Pt). place xs ys i ∈ cs) (sym (from_place n xs ys i h k l)) (Memᴰ.head refl))
    where
      dropped : (cs : List Pt) (i : ℕ) {z : Pt} → z ∈ drop i cs → z ∈ cs
      dropped cs zero m = m
      dropped [] (suc i) m = m
      dropped (P ∷ cs) (suc i) m = Memᴰ.tail (dropped cs i m)

  pub edge_in : (i : ℕ) → i < n → edge (place xs ys i) (place xs ys (corner_after i n)) ∈ edges (corners n xs ys)
  edge_in i l =
      let cs = corners n xs ys in
      let F = head origin cs in
      let e = edge (place xs ys i) (place xs ys (corner_after i n)) in
      let first : e ∈ rest F (drop i cs) =
      subst (λ (ps : List Pt). e ∈ rest F ps) (sym (from_place n xs ys i h k l))
      (subst (λ (es : List Side). e ∈ es) (sym (rest_cons F (place xs ys i) (drop (suc i) cs)))
      (Memᴰ.head (ap (edge (place xs ys i)) (sym (next n xs ys h k i l))))) in
      subst (λ (es : List Side). e ∈ es) (sym (edges_rest cs)) (later F cs i first)

-- each corner stands at some place
pub in_place : (n : ℕ) (xs ys : List ℤ) {z : Pt} → z ∈ corners n xs ys → (i : ℕ) × (i < n) × (z ≡ place xs ys i)
unfolding points
in_place zero xs ys m = absurd (Memᴰ.not-nil m)
in_place (suc n) [] ys m = absurd (Memᴰ.not-nil m)
in_place (suc n) (x ∷ xs) [] m = absurd (Memᴰ.not-nil m)
in_place (suc n) (x ∷ xs) (y ∷ ys) (Memᴰ.head e) = (0, omega arith, e)
in_place (suc n) (x ∷ xs) (y ∷ ys) (Memᴰ.tail m) = let r = in_place n xs ys m in (suc r.0, omega (arith, r.1), r.2)
