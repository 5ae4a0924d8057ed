-- The corners of the walk around the whole polygon are the mirror images of the quarter's corners, and those only.
use Prim.Native.Nat.{◌+◌, ◌*◌}
use mathlib.Core.Path.{◌≡◌, refl, sym, ap, ◌∙◌}
use mathlib.Core.Logic.{◌⊎◌, inl, inr}
use mathlib.Core.List.Memᴰ
use mathlib.Core.List.{List, [], ◌∷◌, map}
use lib.ListN.{length, length-map}
use lib.IntN.{ℤ, neg_ℤ}
use native.Mathlib.Omega.{arith}
use Rattle.integers.specs.Count.{◌∈◌}
use Rattle.integers.proofs.Ring.{ring, reify}
use Rattle.plane.specs.Point.{Pt, pt}
use Rattle.pen.specs.Polygon.{flipped, turned, up_and_back, around}

-- the elements of a mapped list
pub map_mem : {A B : Type 0} (f : A → B) (l : List A) {y : B} → y ∈ map f l → (x : A) × (x ∈ l) × (y ≡ f x)
map_mem f [] m = absurd (Memᴰ.not-nil m)
map_mem f (x ∷ l) (Memᴰ.head e) = (x, Memᴰ.head refl, e)
map_mem f (x ∷ l) (Memᴰ.tail m) = let r = map_mem f l m in (r.0, Memᴰ.tail r.1, r.2)

pub mem_map : {A B : Type 0} (f : A → B) (l : List A) {x : A} → x ∈ l → f x ∈ map f l
mem_map f [] m = absurd (Memᴰ.not-nil m)
mem_map f (y ∷ l) (Memᴰ.head e) = Memᴰ.head (ap f e)
mem_map f (y ∷ l) (Memᴰ.tail m) = Memᴰ.tail (mem_map f l m)

-- the mirror image in the y axis
abbrev pub crossed : Pt → Pt
crossed z = pt (neg_ℤ z.x) z.y

-- the walk around the polygon of c and q, after c
abbrev pub onwards : Pt → List Pt → List Pt
onwards c q = up_and_back q (flipped c ∷ turned c ∷ map turned (up_and_back q (flipped c ∷ [])))

-- ---- how many they are
pub side_length : (q l : List Pt) → length (up_and_back q l) ≡ length q + length q + length l
unfolding up_and_back
side_length [] l = omega arith
side_length (z ∷ q) l = omega (arith, side_length q (flipped z ∷ l))

pub around_length : (q : List Pt) → length (around q) ≡ 4 * length q
around_length q = omega (arith, side_length q (map turned (up_and_back q [])), length-map (up_and_back q []) turned, side_length q [])

-- ---- which they are
-- l, then q and its mirror images in the x axis, are the points of the right side
side_on : (q l : List Pt) {z : Pt} → z ∈ l → z ∈ up_and_back q l
unfolding up_and_back
side_on [] l m = m
side_on (w ∷ q) l m = Memᴰ.tail (side_on q (flipped w ∷ l) (Memᴰ.tail m))

side_in : (q l : List Pt) {z : Pt} → z ∈ q → (z ∈ up_and_back q l) × (flipped z ∈ up_and_back q l)
unfolding up_and_back
side_in [] l m = absurd (Memᴰ.not-nil m)
side_in (w ∷ q) l (Memᴰ.head e) = (Memᴰ.head e, Memᴰ.tail (side_on q (flipped w ∷ l) (Memᴰ.head (ap flipped e))))
side_in (w ∷ q) l (Memᴰ.tail m) = let r = side_in q (flipped w ∷ l) m in (Memᴰ.tail r.0, Memᴰ.tail r.1)

side_of : (q l : List Pt) {w : Pt} → w ∈ up_and_back q l → ((z : Pt) × (z ∈ q) × ((w ≡ z) ⊎ (w ≡ flipped z))) ⊎ (w ∈ l)
unfolding up_and_back
side_of [] l m = inr m
side_of (c ∷ q) l (Memᴰ.head e) = inl (c, Memᴰ.head refl, inl e)
side_of (c ∷ q) l {w} (Memᴰ.tail m) = go (side_of q (flipped c ∷ l) m)
  where
    go : ((z : Pt) × (z ∈ q) × ((w ≡ z) ⊎ (w ≡ flipped z))) ⊎ (w ∈ flipped c ∷ l) → ((z : Pt) × (z ∈ c ∷ q) × ((w ≡ z) ⊎ (w ≡ flipped z))) ⊎ (w ∈ l)
    go (inl r) = inl (r.0, Memᴰ.tail r.1, r.2)
    go (inr (Memᴰ.head e)) = inl (c, Memᴰ.head refl, inr e)
    go (inr (Memᴰ.tail m)) = inr m

-- w is a mirror image of z, or z
pub data Image (z w : Pt) : Type 0 where
  is : w ≡ z → Image z w
  is_flipped : w ≡ flipped z → Image z w
  is_turned : w ≡ turned z → Image z w
  is_crossed : w ≡ crossed z → Image z w

pub neg_neg : (x : ℤ) → neg_ℤ (neg_ℤ x) ≡ x
neg_neg = ring 1 _ (simp reify (omega arith))

turned_flipped : (z : Pt) → turned (flipped z) ≡ crossed z
turned_flipped z i = pt (neg_ℤ z.x) (neg_neg z.y i)

pub turned_twice : (z : Pt) → turned (turned z) ≡ z
turned_twice z i = pt (neg_neg z.x i) (neg_neg z.y i)

module _ (c : Pt) (q : List Pt) where
  pub image_of : {w : Pt} → w ∈ c ∷ onwards c q → (z : Pt) × (z ∈ c ∷ q) × Image z w
  unfolding up_and_back
  image_of {w} m = go (side_of (c ∷ q) (map turned (up_and_back (c ∷ q) [])) m)
    where
      first : (z : Pt) → (w ≡ z) ⊎ (w ≡ flipped z) → Image z w
      first z (inl e) = is e
      first z (inr e) = is_flipped e

      second : (z v : Pt) → w ≡ turned v → (v ≡ z) ⊎ (v ≡ flipped z) → Image z w
      second z v e (inl h) = is_turned (e ∙ ap turned h)
      second z v e (inr h) = is_crossed (e ∙ ap turned h ∙ turned_flipped z)

      half : (v : Pt) → w ≡ turned v → ((z : Pt) × (z ∈ c ∷ q) × ((v ≡ z) ⊎ (v ≡ flipped z))) ⊎ (v ∈ []) → (z : Pt) × (z ∈ c ∷ q) × Image z w
      half v e (inl r) = (r.0, r.1, second r.0 v e r.2)
      half v e (inr n) = absurd (Memᴰ.not-nil n)

      go : ((z : Pt) × (z ∈ c ∷ q) × ((w ≡ z) ⊎ (w ≡ flipped z))) ⊎ (w ∈ map turned (up_and_back (c ∷ q) [])) → (z : Pt) × (z ∈ c ∷ q) × Image z w
      go (inl r) = (r.0, r.1, first r.0 r.2)
      go (inr k) = let r = map_mem turned (up_and_back (c ∷ q) []) k in half r.0 r.2 (side_of (c ∷ q) [] r.1)

  pub image_in : {z w : Pt} → z ∈ c ∷ q → Image z w → w ∈ c ∷ onwards c q
  unfolding up_and_back
  image_in {z} m (is e) = Memᴰ.cast e (side_in (c ∷ q) (map turned (up_and_back (c ∷ q) [])) m).0
  image_in {z} m (is_flipped e) = Memᴰ.cast e (side_in (c ∷ q) (map turned (up_and_back (c ∷ q) [])) m).1
  image_in {z} m (is_turned e) = Memᴰ.cast e (side_on (c ∷ q) (map turned (up_and_back (c ∷ q) [])) (mem_map turned (up_and_back (c ∷ q) []) (side_in (c ∷ q) [] m).0))
  image_in {z} m (is_crossed e) = Memᴰ.cast (e ∙ sym (turned_flipped z)) (side_on (c ∷ q) (map turned (up_and_back (c ∷ q) [])) (mem_map turned (up_and_back (c ∷ q) []) (side_in (c ∷ q) [] m).1))

-- the mirror images of an image
pub image_crossed : {z w : Pt} → Image z w → Image z (crossed w)
image_crossed (is e) = is_crossed (ap crossed e)
image_crossed (is_flipped e) = is_turned (ap crossed e)
image_crossed {z} (is_turned e) = is_flipped (ap crossed e ∙ λ i. pt (neg_neg z.x i) (neg_ℤ z.y))
image_crossed {z} (is_crossed e) = is (ap crossed e ∙ λ i. pt (neg_neg z.x i) z.y)

pub image_flipped : {z w : Pt} → Image z w → Image z (flipped w)
image_flipped (is e) = is_flipped (ap flipped e)
image_flipped {z} (is_flipped e) = is (ap flipped e ∙ λ i. pt z.x (neg_neg z.y i))
image_flipped {z} (is_turned e) = is_crossed (ap flipped e ∙ λ i. pt (neg_ℤ z.x) (neg_neg z.y i))
image_flipped (is_crossed e) = is_turned (ap flipped e)
