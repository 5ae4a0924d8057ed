-- The order in which the walk around the polygon meets its corners: up the right half, then down the left half. What is left of a walk in this order, equal
-- neighbours listed once, has no corner twice.
use mathlib.Core.Path.{◌≡◌, refl, sym, subst}
use mathlib.Core.Logic.{◌⊎◌, inl, inr}
use mathlib.Core.Bool.{Bool, true, false, cond}
use mathlib.Core.List.Memᴰ
use mathlib.Core.List.{List, [], ◌∷◌}
use native.Mathlib.Omega.{arith}
use lib.IntN.{ℤ, pos}
use Rattle.integers.specs.Orders.{◌≺◌}
use Rattle.integers.specs.Count.{◌∈◌, NoDup}
use Rattle.integers.proofs.Ring.{ring, reify}
use Rattle.plane.specs.Point.{Pt, same}
use Rattle.pen.specs.Polygon.{once_each}
use Rattle.pen.proofs.Once.{same_eq, eq_same}

-- ---- the order
-- to the right of the y axis, or on its lower half; and the opposite of that
abbrev pub RightHalf : Pt → Type 0
RightHalf p = (pos 0 ≺ p.x) ⊎ ((p.x ≡ pos 0) × (p.y ≺ pos 0))

abbrev pub LeftHalf : Pt → Type 0
LeftHalf p = (p.x ≺ pos 0) ⊎ ((p.x ≡ pos 0) × (pos 0 ≺ p.y))

pub data Before (p r : Pt) : Type 0 where
  upward : RightHalf p → RightHalf r → p.y ≺ r.y → Before p r
  over : RightHalf p → LeftHalf r → Before p r
  downward : LeftHalf p → LeftHalf r → r.y ≺ p.y → Before p r

apart : (x y : ℤ) → (pos 0 ≺ x) ⊎ ((x ≡ pos 0) × (y ≺ pos 0)) → (x ≺ pos 0) ⊎ ((x ≡ pos 0) × (pos 0 ≺ y)) → ⊥
apart x y (inl h) (inl k) = both x h k
  where
    both : (x : ℤ) → pos 0 ≺ x → x ≺ pos 0 → ⊥
    both = ring 1 _ (λ ρ. simp (reify, ρ) (omega arith))
apart x y (inl h) (inr k) = both x h k.0
  where
    both : (x : ℤ) → pos 0 ≺ x → x ≡ pos 0 → ⊥
    both = ring 1 _ (λ ρ. simp (reify, ρ) (omega arith))
apart x y (inr h) (inl k) = both x h.0 k
  where
    both : (x : ℤ) → x ≡ pos 0 → x ≺ pos 0 → ⊥
    both = ring 1 _ (λ ρ. simp (reify, ρ) (omega arith))
apart x y (inr h) (inr k) = both y h.1 k.1
  where
    both : (y : ℤ) → y ≺ pos 0 → pos 0 ≺ y → ⊥
    both = ring 1 _ (λ ρ. simp (reify, ρ) (omega arith))

-- no point is in both halves
one_half : (p : Pt) → RightHalf p → LeftHalf p → ⊥
one_half p h k = apart p.x p.y h k

lt_trans : (x y z : ℤ) → x ≺ y → y ≺ z → x ≺ z
lt_trans = ring 3 _ (simp reify (omega arith))

lt_self : (x : ℤ) → x ≺ x → ⊥
lt_self = ring 1 _ (simp reify (omega arith))

before_trans : {p r z : Pt} → Before p r → Before r z → Before p z
before_trans {p} {r} {z} (upward a b h) (upward c d k) = upward a d (lt_trans p.y r.y z.y h k)
before_trans (upward a b h) (over c d) = over a d
before_trans {p} {r} (upward a b h) (downward c d k) = absurd (one_half r b c)
before_trans {p} {r} (over a b) (upward c d k) = absurd (one_half r c b)
before_trans {p} {r} (over a b) (over c d) = absurd (one_half r c b)
before_trans (over a b) (downward c d k) = over a d
before_trans {p} {r} (downward a b h) (upward c d k) = absurd (one_half r c b)
before_trans {p} {r} (downward a b h) (over c d) = absurd (one_half r c b)
before_trans {p} {r} {z} (downward a b h) (downward c d k) = downward a d (lt_trans z.y r.y p.y k h)

-- none comes before itself
before_self : {p : Pt} → Before p p → ⊥
before_self {p} (upward a b h) = lt_self p.y h
before_self {p} (over a b) = one_half p a b
before_self {p} (downward a b h) = lt_self p.y h

-- ---- a walk in this order
-- from p along the list each point equals the next or comes before it; the last may also be f, where the walk began
pub data InOrder (f : Pt) : Pt → List Pt → Type 0 where
  ends : {p : Pt} → InOrder f p []
  closes : {p r : Pt} → r ≡ f → InOrder f p (r ∷ [])
  stays : {p r : Pt} {l : List Pt} → p ≡ r → InOrder f r l → InOrder f p (r ∷ l)
  goes : {p r : Pt} {l : List Pt} → Before p r → InOrder f r l → InOrder f p (r ∷ l)

-- what is left of a walk from p: each is p or comes after it, and none is there twice
pub record Distinct (p : Pt) (l : List Pt) : Type 0 where
  pub after : (z : Pt) → z ∈ l → (z ≡ p) ⊎ Before p z
  pub once : NoDup l

no_corner : (p : Pt) → Distinct p []
no_corner p = record { after = λ z m. absurd (Memᴰ.not-nil m); once = tt }

only : {p z : Pt} → z ∈ p ∷ [] → (z ≡ p) ⊎ Before p z
only (Memᴰ.head e) = inl e
only (Memᴰ.tail m) = absurd (Memᴰ.not-nil m)

one_corner : (p : Pt) → Distinct p (p ∷ [])
one_corner p = record { after = λ z m. only m; once = ((λ m. Memᴰ.not-nil m), tt) }

-- a corner before the others
module _ (p r : Pt) (b : Before p r) (l : List Pt) (d : Distinct r l) where
  later : {z : Pt} → (z ≡ r) ⊎ Before r z → Before p z
  later (inl e) = subst (Before p) (sym e) b
  later (inr k) = before_trans b k

  all_after : {z : Pt} → z ∈ p ∷ l → (z ≡ p) ⊎ Before p z
  all_after (Memᴰ.head e) = inl e
  all_after {z} (Memᴰ.tail m) = inr (later (d.after z m))

  one_more : Distinct p (p ∷ l)
  one_more = record { after = λ z m. all_after m; once = ((λ m. before_self (later (d.after p m))), d.once) }

pub once_distinct : (f p : Pt) (l : List Pt) → InOrder f p l → Distinct p (once_each f p l)
unfolding once_each
once_distinct f p [] ends = go (same p f)
  where
    go : (t : Bool) → Distinct p (cond t [] (p ∷ []))
    go true = no_corner p
    go false = one_corner p
once_distinct f p (r ∷ l) (closes e) = go (same p r) (same r f) refl
  where
    go : (t s : Bool) → same r f ≡ s → Distinct p (cond t (cond s [] (r ∷ [])) (p ∷ cond s [] (r ∷ [])))
    go true true h = no_corner p
    go false true h = one_corner p
    go t false h = absurd (eq_same r f e h)
once_distinct f p (r ∷ l) (stays e k) = go (same p r) refl (once_each f r l) (once_distinct f r l k)
  where
    go : (t : Bool) → same p r ≡ t → (m : List Pt) → Distinct r m → Distinct p (cond t m (p ∷ m))
    go true h m d = subst (λ (w : Pt). Distinct w m) (sym e) d
    go false h m d = absurd (eq_same p r e h)
once_distinct f p (r ∷ l) (goes b k) = go (same p r) refl (once_each f r l) (once_distinct f r l k)
  where
    go : (t : Bool) → same p r ≡ t → (m : List Pt) → Distinct r m → Distinct p (cond t m (p ∷ m))
    go true h m d = subst (λ (w : Pt). Distinct w m) (sym (same_eq p r h)) d
    go false h m d = one_more p r b m d
