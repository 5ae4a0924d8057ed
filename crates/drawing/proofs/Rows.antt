-- A part of a list; and rows one under the other.
use Prim.Native.Nat.{ℕ, zero, suc, ◌+◌, ◌-◌, ◌<◌}
use native.Mathlib.Omega.{arith}
use mathlib.Core.Path.{◌≡◌, refl, sym, ap, ◌∙◌}
use mathlib.Core.List.{List, [], ◌∷◌, ◌++◌, append_assoc}
use lib.ListN.{take, drop}
use lib.Seq.{take-nil, drop-nil}
use lib.IntN.{ℤ}
use Rattle.pbm.specs.Pbm.{top_first}

-- a part of a list, taken first or dropped first
pub drop_of_take : (l : List ℤ) (a e : ℕ) → drop a (take e l) ≡ take (e - a) (drop a l)
drop_of_take [] a e = ap (drop a) (take-nil e) ∙ drop-nil a ∙ sym (ap (take (e - a)) (drop-nil a) ∙ take-nil (e - a))
drop_of_take (x ∷ l) zero e = let k : e ≡ e - 0 = omega arith in ap (λ (n : ℕ). take n (x ∷ l)) k
drop_of_take (x ∷ l) (suc a) zero = let k : 0 ≡ 0 - suc a = omega arith in ap (λ (n : ℕ). take n (drop a l)) k
drop_of_take (x ∷ l) (suc a) (suc e) = let k : e - a ≡ suc e - suc a = omega arith in drop_of_take l a e ∙ ap (λ (n : ℕ). take n (drop a l)) k

-- ---- rows one under the other
-- rows that are the same
pub same_rows : (f g : ℕ → List ℕ) (n : ℕ) → ((j : ℕ) → j < n → f j ≡ g j) → top_first n f ≡ top_first n g
unfolding top_first
same_rows f g zero h = refl
same_rows f g (suc n) h = let l : n < suc n = omega arith in rw (h n l, same_rows f g n (λ j m. h j (omega arith)))

-- the rows from the k-th on stand over the k lowest
pub rows_cut : (f : ℕ → List ℕ) (k m : ℕ) → top_first (k + m) f ≡ top_first m (λ j. f (k + j)) ++ top_first k f
unfolding top_first
rows_cut f k zero = let e : k + 0 ≡ k = omega arith in ap (λ (n : ℕ). top_first n f) e
rows_cut f k (suc m) =
    let e : k + suc m ≡ suc (k + m) = omega arith in
    ap (λ (n : ℕ). top_first n f) e ∙ ap (λ (l : List ℕ). f (k + m) ++ l) (rows_cut f k m) ∙ sym (append_assoc (f (k + m)) (top_first m (λ j. f (k + j))) (top_first k f))
