-- The edges of the whole polygon. A convex quarter is given by IsQuarter; each edge of the walk around its mirror images is slanted, upright or level, or
-- one of these turned by half a turn; and it bounds the whole polygon, which `Fits` says by the quarter alone: with |a| ≤ A and |b| ≤ B, A x - B y ≤ c.
use mathlib.Core.Path.{◌≡◌, subst}
use mathlib.Core.List.{List, [], ◌∷◌}
use native.Mathlib.Omega.{arith}
use lib.IntN.{ℤ, pos, neg_ℤ, ◌+ℤ◌, ◌-ℤ◌, ◌*ℤ◌}
use Rattle.integers.specs.Orders.{◌≼◌, ◌≺◌}
use Rattle.integers.specs.Count.{◌∈◌}
use Rattle.integers.proofs.Ring.{ring, reify, ◌⊢◌}
use Rattle.integers.proofs.Order.{mul_nn, sub_nn, sub_pos, mul_bound}
use Rattle.plane.specs.Point.{Pt}
use Rattle.pen.specs.Polygon.{turned}
use Rattle.plane.specs.Polygon.{Side, dot, edge}

-- ---- a convex quarter
-- d is to the right of c and above it, and all corners are on the inner side of the edge between them
pub record Rises (all : List Pt) (c d : Pt) : Type 0 where
  pub across : c.x ≺ d.x
  pub up : c.y ≺ d.y
  pub inner : (z : Pt) → z ∈ all → dot (edge c d).a (edge c d).b z ≼ (edge c d).c

-- R holds of each corner and the next, and the last is D to the right
abbrev pub Steps : (Pt → Pt → Type 0) → ℤ → Pt → List Pt → Type 0
Steps R D c [] = c.x ≡ D
Steps R D c (d ∷ q) = R c d × Steps R D d q

-- z is in the lower right quarter of the box
pub record Low (Dx Dy : ℤ) (z : Pt) : Type 0 where
  pub right₀ : pos 0 ≼ z.x
  pub wide : z.x ≼ Dx
  pub below : z.y ≼ pos 0
  pub deep : neg_ℤ Dy ≼ z.y

-- the corners c and q of a convex quarter, from the bottom
pub record IsQuarter (c : Pt) (q : List Pt) (Dx Dy : ℤ) : Type 0 where
  pub low : (z : Pt) → z ∈ c ∷ q → Low Dx Dy z
  pub steps : Steps (Rises (c ∷ q)) Dx c q
  pub bottom : c.y ≡ neg_ℤ Dy
  pub wide₁ : pos 1 ≼ Dx
  pub high₁ : pos 1 ≼ Dy

-- ---- an edge of the whole
-- a lies between -A and A
abbrev pub Between : ℤ → ℤ → Type 0
Between A a = (neg_ℤ A ≼ a) × (a ≼ A)

pub record Fits (all : List Pt) (e : Side) : Type 0 where
  pub A : ℤ
  pub B : ℤ
  pub a_in : Between A e.a
  pub b_in : Between B e.b
  pub inner : (z : Pt) → z ∈ all → A *ℤ z.x +ℤ B *ℤ neg_ℤ z.y ≼ e.c
  pub thick : pos 1 ≼ e.c

add : (a b A B c : ℤ) → a ≼ A → b ≼ B → A +ℤ B ≼ c → a +ℤ b ≼ c
add = ring 5 _ (simp reify (omega arith))

-- an edge that fits bounds every point w between a corner z of the quarter and its mirror images
pub fits-inner :
    (all : List Pt) (e : Side) → Fits all e → (z w : Pt) → z ∈ all → Between z.x w.x → Between (neg_ℤ z.y) w.y → dot e.a e.b w ≼ e.c
fits-inner all e f z w m x y =
    add (e.a *ℤ w.x) (e.b *ℤ w.y) (f.A *ℤ z.x) (f.B *ℤ neg_ℤ z.y) e.c (mul_bound f.A z.x e.a w.x f.a_in.0 f.a_in.1 x.0 x.1).1
    (mul_bound f.B (neg_ℤ z.y) e.b w.y f.b_in.0 f.b_in.1 y.0 y.1).1 (f.inner z m)

-- a step from c to d, back, and back between the mirror images
pub step_between : (c d : ℤ) → c ≺ d → Between (d -ℤ c) (d -ℤ c) × Between (d -ℤ c) (c -ℤ d) × Between (d -ℤ c) (neg_ℤ c -ℤ neg_ℤ d)
step_between = ring 2 _ (simp reify (omega arith))

pub level_between : (x : ℤ) → Between (pos 0) (x -ℤ x)
level_between = ring 1 _ (λ ρ. simp (reify, ρ) (omega arith))

-- a slanted edge from c to d, and its mirror image in the x axis: it bounds z by what is given, and the middle is inside
pub slant_inner : (cx cy dx dy x y : ℤ) → (dy -ℤ cy) *ℤ x +ℤ (cx -ℤ dx) *ℤ y ≼ (dy -ℤ cy) *ℤ cx +ℤ (cx -ℤ dx) *ℤ cy →
    ((dy -ℤ cy) *ℤ x +ℤ (dx -ℤ cx) *ℤ neg_ℤ y ≼ (dy -ℤ cy) *ℤ cx +ℤ (cx -ℤ dx) *ℤ cy) × ((dy -ℤ cy) *ℤ x +ℤ (dx -ℤ cx) *ℤ neg_ℤ y ≼ (neg_ℤ cy -ℤ neg_ℤ dy) *ℤ dx +ℤ (dx -ℤ cx) *ℤ neg_ℤ dy)
slant_inner = ring 6 _ (simp reify (omega arith))

pub slant_thick : (cx cy dx dy : ℤ) → pos 0 ≼ cx → dy ≼ pos 0 → cx ≺ dx → cy ≺ dy → (pos 1 ≼ (dy -ℤ cy) *ℤ cx +ℤ (cx -ℤ dx) *ℤ cy) × (pos 1 ≼ (neg_ℤ cy -ℤ neg_ℤ dy) *ℤ dx +ℤ (dx -ℤ cx) *ℤ neg_ℤ dy)
slant_thick = ring 4 _ (λ ρ h1 h2 h3 h4. mul_nn (sub_pos h4) h1 ⊢ mul_nn (sub_pos h3) (sub_pos h4) ⊢ mul_nn (sub_pos h3) (sub_nn h2) ⊢ h1 ⊢ h2 ⊢ h3 ⊢ h4 ⊢ simp (reify, ρ) (omega arith))

-- the upright edge from (x, y) to its mirror image in the x axis
pub upright_inner : (x y zx zy : ℤ) → y ≺ pos 0 → zx ≼ x → (neg_ℤ y -ℤ y) *ℤ zx +ℤ pos 0 *ℤ neg_ℤ zy ≼ (neg_ℤ y -ℤ y) *ℤ x +ℤ (x -ℤ x) *ℤ y
upright_inner = ring 4 _ (λ ρ h k. mul_nn (sub_pos h) (sub_nn k) ⊢ k ⊢ simp (reify, ρ) (omega arith))

pub upright_thick : (x y : ℤ) → y ≺ pos 0 → pos 1 ≼ x → pos 1 ≼ (neg_ℤ y -ℤ y) *ℤ x +ℤ (x -ℤ x) *ℤ y
upright_thick = ring 2 _ (λ ρ h k. mul_nn (sub_pos h) (sub_nn k) ⊢ h ⊢ k ⊢ simp (reify, ρ) (omega arith))

-- the level edge at the top, from (x, -y) to its mirror image in the y axis
pub level_inner : (x y zx zy : ℤ) → pos 0 ≺ x → y ≼ zy → pos 0 *ℤ zx +ℤ (x -ℤ neg_ℤ x) *ℤ neg_ℤ zy ≼ (neg_ℤ y -ℤ neg_ℤ y) *ℤ x +ℤ (x -ℤ neg_ℤ x) *ℤ neg_ℤ y
level_inner = ring 4 _ (λ ρ h k. mul_nn (sub_pos h) (sub_nn k) ⊢ k ⊢ simp (reify, ρ) (omega arith))

pub level_thick : (x y d : ℤ) → pos 0 ≺ x → pos 1 ≼ d → y ≡ neg_ℤ d → pos 1 ≼ (neg_ℤ y -ℤ neg_ℤ y) *ℤ x +ℤ (x -ℤ neg_ℤ x) *ℤ neg_ℤ y
level_thick = ring 3 _ (λ ρ h k e. rw e (mul_nn (sub_pos h) (sub_nn k) ⊢ h ⊢ k ⊢ simp (reify, ρ) (omega arith)))

-- the same edge after half a turn
turned_c : (px py rx ry : ℤ) → (ry -ℤ py) *ℤ px +ℤ (px -ℤ rx) *ℤ py ≡ (neg_ℤ ry -ℤ neg_ℤ py) *ℤ neg_ℤ px +ℤ (neg_ℤ px -ℤ neg_ℤ rx) *ℤ neg_ℤ py
turned_c = ring 4 _ (simp reify (omega arith))

turned_a : (A p r : ℤ) → Between A (r -ℤ p) → Between A (neg_ℤ r -ℤ neg_ℤ p)
turned_a = ring 3 _ (simp reify (omega arith))

pub fits_turn : (all : List Pt) (p r : Pt) → Fits all (edge p r) → Fits all (edge (turned p) (turned r))
fits_turn all p r f =
    let e = turned_c p.x p.y r.x r.y in
    record {
      A = f.A;
      B = f.B;
      a_in = turned_a f.A p.y r.y f.a_in;
      b_in = turned_a f.B r.x p.x f.b_in;
      inner = λ z m. subst (λ w. f.A *ℤ z.x +ℤ f.B *ℤ neg_ℤ z.y ≼ w) e (f.inner z m);
      thick = subst (λ w. pos 1 ≼ w) e f.thick;
    }
