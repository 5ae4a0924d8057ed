-- The runs that compute are the longest runs of the columns that pass the test, and only the test below the width counts.
use mathlib.Core.Path.{◌≡◌, refl, sym, ap₂, subst}
use mathlib.Core.Logic.{◌↔◌, ◌⊎◌, inl, inr, ⊎_map}
use mathlib.Core.Bool.{Bool, true, false, not, cond}
use mathlib.Core.List.{List, [], ◌∷◌}
use Prim.Native.Nat.{ℕ, zero, suc, ◌+◌, ◌*◌, ◌≤◌, ◌<◌}
use native.Mathlib.Omega.{arith}
use native.Mathlib.Decide.{dec_le}
use lib.Dec.{T, leb, leb→le, nleb→lt}
use lib.ListN.{length}
use Rattle.stroke.specs.Runs.{Run, Apart, Covers, Longest, join, runs_from, runs_of}
use Rattle.stroke.proofs.Apart.{longest_few}

-- ---- one column before the runs that start later
record Step (b : Bool) (i : ℕ) (rs js : List Run) : Type 0 where
  apart : Apart i js
  sound : (x : ℕ) → Covers js x → (T b × (x ≡ i)) ⊎ Covers rs x
  whole : (x : ℕ) → (T b × (x ≡ i)) ⊎ Covers rs x → Covers js x

step : (b : Bool) (i : ℕ) (rs : List Run) → Apart (suc i) rs → Step b i rs (join b i rs)
step false i [] a = record { apart = tt; sound = λ x c. inr c; whole = λ x. elim [ inl c ↦ absurd c.0 | inr c ↦ c ] }
step false i (r ∷ rs) a = record { apart = (omega arith, a.1, a.2); sound = λ x c. inr c; whole = λ x. elim [ inl c ↦ absurd c.0 | inr c ↦ c ] }
step true i [] a = record {
  apart = (omega arith, omega arith, tt);
  sound = λ x. elim [ inl c ↦ inl (tt, omega arith) | inr c ↦ absurd c ];
  whole = λ x. elim [ inl c ↦ inl (omega arith, omega arith) | inr c ↦ absurd c ];
}
step true i (r ∷ rs) a = go (leb r.left (suc i)) (leb→le _ _) (nleb→lt _ _)
  where
    -- the run that column i joins
    longer : Run
    longer = record { left = i; right = r.right }

    -- a column of it is i or one of the run before
    in_longer : (x : ℕ) → r.left ≤ suc i → i ≤ x → x ≤ r.right → (x ≡ i) ⊎ ((r.left ≤ x) × (x ≤ r.right))
    in_longer x h k l = elim (dec_le x i) [ yes m ↦ inl (omega arith) | no m ↦ inr (omega arith, omega arith) ]

    sound' : r.left ≤ suc i → (x : ℕ) → Covers (longer ∷ rs) x → (Unit {0} × (x ≡ i)) ⊎ Covers (r ∷ rs) x
    sound' h x (inl c) = elim (in_longer x h c.0 c.1) [ inl e ↦ inl (tt, e) | inr e ↦ inr (inl e) ]
    sound' h x (inr c) = inr (inr c)

    whole' : r.left ≤ suc i → (x : ℕ) → (Unit {0} × (x ≡ i)) ⊎ Covers (r ∷ rs) x → Covers (longer ∷ rs) x
    whole' h x (inl c) = inl (omega arith, omega arith)
    whole' h x (inr (inl c)) = inl (omega arith, omega arith)
    whole' h x (inr (inr c)) = inr c

    go : (t : Bool) → (T t → r.left ≤ suc i) → (T (not t) → suc i < r.left) → Step true i (r ∷ rs) (cond t (longer ∷ rs) (record { left = i; right = i } ∷ r ∷ rs))
    go true f g = let h = f tt in record { apart = (omega arith, omega arith, a.2); sound = sound' h; whole = whole' h }
    go false f g = let h = g tt in record {
      apart = (omega arith, omega arith, (omega arith, a.1, a.2));
      sound = λ x. elim [ inl c ↦ inl (tt, omega arith) | inr c ↦ inr c ];
      whole = λ x. elim [ inl c ↦ inl (omega arith, omega arith) | inr c ↦ inr c ];
    }

-- ---- the n columns from i on
abbrev Column : (ℕ → Bool) → ℕ → ℕ → ℕ → Type 0
Column f i n x = (i ≤ x) × (x < i + n) × T (f x)

runs_apart : (f : ℕ → Bool) (i n : ℕ) → Apart i (runs_from f i n)
unfolding runs_from
runs_apart f i zero = tt
runs_apart f i (suc n) = (step (f i) i (runs_from f (suc i) n) (runs_apart f (suc i) n)).apart

-- the first of them, or a later one
split : (f : ℕ → Bool) (i n x : ℕ) → Column f i (suc n) x → (T (f i) × (x ≡ i)) ⊎ Column f (suc i) n x
split f i n x c = elim (dec_le x i) [
  | yes m ↦ (let e : x ≡ i = omega arith in inl (subst (λ (z : ℕ). T (f z)) e c.2, e))
  | no m ↦ inr (omega arith, omega arith, c.2)
]

unsplit : (f : ℕ → Bool) (i n x : ℕ) → (T (f i) × (x ≡ i)) ⊎ Column f (suc i) n x → Column f i (suc n) x
unsplit f i n x (inl c) = (omega arith, omega arith, subst (λ (z : ℕ). T (f z)) (sym c.1) c.0)
unsplit f i n x (inr c) = (omega arith, omega arith, c.2)

runs_cover : (f : ℕ → Bool) (i n x : ℕ) → Covers (runs_from f i n) x ↔ Column f i n x
unfolding runs_from
runs_cover f i zero x = ((λ c. absurd c), λ c. absurd (omega arith))
runs_cover f i (suc n) x =
    let s = step (f i) i (runs_from f (suc i) n) (runs_apart f (suc i) n) in
    let r = runs_cover f (suc i) n x in
    ((λ c. unsplit f i n x (⊎_map (λ e. e) r.0 (s.sound x c))), λ c. s.whole x (⊎_map (λ e. e) r.1 (split f i n x c)))

-- ---- all columns below n
pub runs_of_lem : (f : ℕ → Bool) (n : ℕ) → Longest (λ x. T (f x)) n (runs_of f n)
unfolding runs_of
runs_of_lem f n = record {
  apart = runs_apart f 0 n;
  cover = λ x. let r = runs_cover f 0 n x in ((λ c. let d = r.0 c in (omega arith, d.2)), λ c. r.1 (omega arith, omega arith, c.1));
}

pub runs_few : (f : ℕ → Bool) (n : ℕ) → 2 * length (runs_of f n) ≤ n + 1
runs_few f n = longest_few (runs_of_lem f n)

-- ---- only the columns below n count
from_ext : (f h : ℕ → Bool) (i n : ℕ) → ((x : ℕ) → i ≤ x → x < i + n → f x ≡ h x) → runs_from f i n ≡ runs_from h i n
unfolding runs_from
from_ext f h i zero e = refl
from_ext f h i (suc n) e = ap₂ (λ (b : Bool) (rs : List Run). join b i rs) (e i (omega arith) (omega arith)) (from_ext f h (suc i) n (λ x l k. e x (omega arith) (omega arith)))

pub runs_ext : {f h : ℕ → Bool} {n : ℕ} → ((x : ℕ) → x < n → f x ≡ h x) → runs_of f n ≡ runs_of h n
unfolding runs_of
runs_ext {f} {h} {n} e = from_ext f h 0 n (λ x _ k. e x (omega arith))
