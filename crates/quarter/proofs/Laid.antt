-- Arrays that hold a list's numbers from their start: a store past the last is a number more. What the list is of does not matter: corners in the
-- crate cutting, points in the crate pen.
use Prim.Native.Nat.{ℕ, zero, suc, ◌+◌, ◌-◌, ◌≤◌, ◌<◌}
use mathlib.Core.Path.{◌≡◌, refl, sym, subst, ◌∙◌}
use mathlib.Core.List.Memᴰ
use mathlib.Core.List.{List, [], ◌∷◌, ◌++◌, map, map-append}
use native.Mathlib.Omega.{arith}
use lib.ListN.{length, set, replicate, get_or, length-append, length-map, length-replicate}
use lib.Seq.{set-append_seam, append_snoc}
use lib.IntN.{ℤ, pos}
use Rattle.integers.specs.Count.{◌∈◌}
use Rattle.integers.specs.Bound.{Abs}
use Rattle.quarter.specs.Answer.{laid}

laid_more : (n : ℕ) (l : List ℤ) (a : ℤ) → length l < n → set (laid n l) (length l) a ≡ laid n (l ++ (a ∷ []))
laid_more n l a h = go (n - length l) refl
  where
    go : (k : ℕ) → n - length l ≡ k → set (laid n l) (length l) a ≡ laid n (l ++ (a ∷ []))
    go zero e = absurd (omega arith)
    go (suc k) e =
        let f : n - length (l ++ (a ∷ [])) ≡ k = omega (arith, length-append l (a ∷ [])) in
        rw (e, f) (set-append_seam l (pos 0) (replicate k (pos 0)) a ∙ sym (append_snoc l a (replicate k (pos 0))))

-- one number f of each element
pub laid_corner : {A : Type 0} (n : ℕ) (f : A → ℤ) (cs : List A) (z : A) → length cs < n → set (laid n (map f cs)) (length cs) (f z) ≡ laid n (map f (cs ++ (z ∷ [])))
laid_corner n f cs z h =
    let e : length (map f cs) ≡ length cs = length-map cs f in
    rw (map-append f cs (z ∷ [])) (subst (λ (k : ℕ). set (laid n (map f cs)) k (f z) ≡ laid n (map f cs ++ (f z ∷ []))) e (laid_more n (map f cs) (f z) (omega arith)))

pub count_snoc : {A : Type 0} (cs : List A) (z : A) → length cs + 1 ≡ length (cs ++ (z ∷ []))
count_snoc cs z = sym (length-append cs (z ∷ []))

-- the arrays are full, and hold nothing further out than the list
pub laid_long : {A : Type 0} (n : ℕ) (f : A → ℤ) (cs : List A) → length cs ≤ n → length (laid n (map f cs)) ≡ n
laid_long n f cs h = length-append (map f cs) _ ∙ omega (arith, length-map cs f, length-replicate (n - length (map f cs)) (pos 0))

zeros_small : (b k i : ℕ) → Abs (get_or (replicate k (pos 0)) i (pos 0)) b
zeros_small b zero i = record { abs = omega arith }
zeros_small b (suc k) zero = record { abs = omega arith }
zeros_small b (suc k) (suc i) = zeros_small b k i

append_small : (b : ℕ) (l r : List ℤ) → ((z : ℤ) → z ∈ l → Abs z b) → ((i : ℕ) → Abs (get_or r i (pos 0)) b) → (i : ℕ) → Abs (get_or (l ++ r) i (pos 0)) b
append_small b [] r h k i = k i
append_small b (x ∷ l) r h k zero = h x (Memᴰ.head refl)
append_small b (x ∷ l) r h k (suc i) = append_small b l r (λ z m. h z (Memᴰ.tail m)) k i

pub laid_small : (b n : ℕ) (l : List ℤ) → ((z : ℤ) → z ∈ l → Abs z b) → (i : ℕ) → Abs (get_or (laid n l) i (pos 0)) b
laid_small b n l h i = append_small b l (replicate (n - length l) (pos 0)) h (zeros_small b (n - length l)) i
