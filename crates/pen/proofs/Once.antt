-- A closed walk over points, and the same with equal neighbours listed once: what holds of any two different neighbours holds of the edges that are
-- left, and the same points are left.
use Prim.Native.Nat.{suc, ◌≤◌}
use mathlib.Core.Path.{◌≡◌, refl, sym, ap₂, ◌∙◌, subst}
use mathlib.Core.Logic.{◌⊎◌, inl, inr}
use mathlib.Core.Bool.{Bool, true, false, cond, ◌&&◌}
use mathlib.Core.List.Memᴰ
use mathlib.Core.List.{List, [], ◌∷◌, map}
use lib.ListN.{length}
use native.Mathlib.Omega.{arith}
use Rattle.integers.specs.Compare.{eq_z}
use Rattle.integers.specs.Count.{◌∈◌}
use Rattle.integers.proofs.Tests.{clash, and_both, eqz, eq_iff}
use Rattle.plane.specs.Point.{Pt, pt, same}
use Rattle.pen.specs.Polygon.{once_each}
use Rattle.plane.specs.Polygon.{Side, edge, chain}

-- R holds of each point and the next, and of the last and f
abbrev pub Linked : (Pt → Pt → Type 0) → Pt → Pt → List Pt → Type 0
Linked R f p [] = R p f
Linked R f p (r ∷ l) = R p r × Linked R f r l

-- what holds of neighbours holds of the edges
pub linked_edge : (G : Side → Type 0) (f p : Pt) (l : List Pt) → Linked (λ p r. G (edge p r)) f p l → (e : Side) → e ∈ chain f p l → G e
unfolding chain
linked_edge G f p [] h e (Memᴰ.head k) = subst G (sym k) h
linked_edge G f p [] h e (Memᴰ.tail m) = absurd (Memᴰ.not-nil m)
linked_edge G f p (r ∷ l) h e (Memᴰ.head k) = subst G (sym k) h.0
linked_edge G f p (r ∷ l) h e (Memᴰ.tail m) = linked_edge G f r l h.1 e m

pub linked_map : (R : Pt → Pt → Type 0) (t : Pt → Pt) (f p : Pt) (l : List Pt) → Linked (λ p r. R (t p) (t r)) f p l → Linked R (t f) (t p) (map t l)
linked_map R t f p [] h = h
linked_map R t f p (r ∷ l) h = (h.0, linked_map R t f r l h.1)

-- the test of equal points
pub same_eq : (p r : Pt) → same p r ≡ true → p ≡ r
same_eq p r e =
    let h = and_both (eq_z p.x r.x) (eq_z p.y r.y) e in
    λ i. pt (eqz p.x r.x h.0 i) (eqz p.y r.y h.1 i)

pub eq_same : (p r : Pt) → p ≡ r → same p r ≡ false → ⊥
eq_same p r e f = clash (ap₂ ◌&&◌ ((eq_iff p.x p.x).1 refl) ((eq_iff p.y p.y).1 refl)) (subst (λ (w : Pt). same p w ≡ false) (sym e) f)

-- what is left, each once, is nothing (then all were f), or begins with the same corner and is linked
abbrev pub Left : (Pt → Pt → Type 0) → Pt → Pt → List Pt → Type 0
Left S f p [] = p ≡ f
Left S f p (r ∷ l) = (r ≡ p) × Linked S f r l

module _ (S : Pt → Pt → Type 0) (f : Pt) where
  pub once_linked : (p : Pt) (l : List Pt) → Linked (λ p r. (p ≡ r) ⊎ S p r) f p l → Left S f p (once_each f p l)
  unfolding once_each
  once_linked p [] h = go (same p f) refl h
    where
      go : (t : Bool) → same p f ≡ t → (p ≡ f) ⊎ S p f → Left S f p (cond t [] (p ∷ []))
      go true e h = same_eq p f e
      go false e (inl h) = absurd (eq_same p f h e)
      go false e (inr h) = (refl, h)
  once_linked p (r ∷ l) h = go (same p r) refl h.0 (once_each f r l) (once_linked r l h.1)
    where
      keep : (m : List Pt) → S p r → Left S f r m → Left S f p (p ∷ m)
      keep [] s h = (refl, subst (S p) h s)
      keep (q ∷ m) s h = (refl, (subst (S p) (sym h.0) s, h.1))

      pass : (m : List Pt) → p ≡ r → Left S f r m → Left S f p m
      pass [] e h = e ∙ h
      pass (q ∷ m) e h = (h.0 ∙ sym e, h.1)

      go : (t : Bool) → same p r ≡ t → (p ≡ r) ⊎ S p r → (m : List Pt) → Left S f r m → Left S f p (cond t m (p ∷ m))
      go true e h m k = pass m (same_eq p r e) k
      go false e (inl h) m k = absurd (eq_same p r h e)
      go false e (inr h) m k = keep m h k

module _ (f : Pt) where
  -- the same points are left, but that f may be left out
  pub once_sub : (p : Pt) (l : List Pt) {z : Pt} → z ∈ once_each f p l → z ∈ p ∷ l
  unfolding once_each
  once_sub p [] {z} m = go (same p f) m
    where
      go : (t : Bool) → z ∈ cond t [] (p ∷ []) → z ∈ p ∷ []
      go true m = absurd (Memᴰ.not-nil m)
      go false m = m
  once_sub p (r ∷ l) {z} m = go (same p r) (λ k. once_sub r l k) m
    where
      go : (t : Bool) → (z ∈ once_each f r l → z ∈ r ∷ l) → z ∈ cond t (once_each f r l) (p ∷ once_each f r l) → z ∈ p ∷ r ∷ l
      go true ih m = Memᴰ.tail (ih m)
      go false ih (Memᴰ.head e) = Memᴰ.head e
      go false ih (Memᴰ.tail m) = Memᴰ.tail (ih m)

  pub once_mem : (p : Pt) (l : List Pt) {z : Pt} → z ∈ p ∷ l → (z ∈ once_each f p l) ⊎ (z ≡ f)
  unfolding once_each
  once_mem p [] {z} (Memᴰ.head e) = go (same p f) refl
    where
      go : (t : Bool) → same p f ≡ t → (z ∈ cond t [] (p ∷ [])) ⊎ (z ≡ f)
      go true k = inr (e ∙ same_eq p f k)
      go false k = inl (Memᴰ.head e)
  once_mem p [] {z} (Memᴰ.tail m) = absurd (Memᴰ.not-nil m)
  once_mem p (r ∷ l) {z} (Memᴰ.head e) = go (same p r) refl (λ k. once_mem r l (Memᴰ.head k))
    where
      go : (t : Bool) → same p r ≡ t → (z ≡ r → (z ∈ once_each f r l) ⊎ (z ≡ f)) → (z ∈ cond t (once_each f r l) (p ∷ once_each f r l)) ⊎ (z ≡ f)
      go true k ih = ih (e ∙ same_eq p r k)
      go false k ih = inl (Memᴰ.head e)
  once_mem p (r ∷ l) {z} (Memᴰ.tail m) = go (same p r) (once_mem r l m)
    where
      go : (t : Bool) → (z ∈ once_each f r l) ⊎ (z ≡ f) → (z ∈ cond t (once_each f r l) (p ∷ once_each f r l)) ⊎ (z ≡ f)
      go t (inr k) = inr k
      go true (inl k) = inl k
      go false (inl k) = inl (Memᴰ.tail k)

  pub once_few : (p : Pt) (l : List Pt) → length (once_each f p l) ≤ suc (length l)
  unfolding once_each
  once_few p [] = go (same p f)
    where
      go : (t : Bool) → length (cond t [] (p ∷ [])) ≤ 1
      go true = omega arith
      go false = omega arith
  once_few p (r ∷ l) = go (same p r) (once_few r l)
    where
      go : (t : Bool) → length (once_each f r l) ≤ suc (length l) → length (cond t (once_each f r l) (p ∷ once_each f r l)) ≤ suc (suc (length l))
      go true h = omega arith
      go false h = omega arith
