-- How many of the numbers below n pass a test.
use Prim.Native.Nat.{ℕ, zero, suc, ◌+◌, ◌≤◌, ◌<◌}
use native.Mathlib.Nat.{add-zero, add-suc}
use native.Mathlib.Omega.{arith}
use mathlib.Core.Path.{◌≡◌, refl, sym, ap, ap₂, ◌∙◌}
use mathlib.Core.Logic.{inl, inr}
use mathlib.Core.Bool.{Bool, true, false, cond}
use mathlib.Core.List.Memᴰ.{cases_cons as cases}
use mathlib.Core.List.Memᴰ.{head}
use mathlib.Core.List.Memᴰ.{not-nil}
use mathlib.Core.List.Memᴰ.{tail}
use mathlib.Core.List.{[], ◌∷◌}
use native.Mathlib.Decide.{ℕ_discrete}
use Rattle.integers.specs.Count.{Number}
use Rattle.integers.proofs.Tests.{clash}
use Rattle.difference.specs.Apart.{count_below}

-- ---- one more number
pub count_none : (p : ℕ → Bool) → count_below p 0 ≡ 0
unfolding count_below
count_none p = refl

pub count_more : (p : ℕ → Bool) (n : ℕ) → count_below p (suc n) ≡ count_below p n + cond (p n) 1 0
unfolding count_below
count_more p n = refl

-- ---- from the parts
-- only the numbers below n matter
pub count_ext : (p q : ℕ → Bool) (n : ℕ) → ((x : ℕ) → x < n → p x ≡ q x) → count_below p n ≡ count_below q n
unfolding count_below
count_ext p q zero e = refl
count_ext p q (suc n) e = ap₂ (λ (m : ℕ) (t : Bool). m + cond t 1 0) (count_ext p q n (λ x l. e x (omega arith))) (e n (omega arith))

-- those below m, and n more from m on
pub count_add : (p : ℕ → Bool) (m n : ℕ) → count_below p (m + n) ≡ count_below p m + count_below (λ j. p (m + j)) n
count_add p m zero = ap (count_below p) (add-zero m) ∙ omega (arith, count_none (λ j. p (m + j)))
count_add p m (suc n) =
    ap (count_below p) (add-suc m n) ∙ count_more p (m + n)
    ∙ omega (arith, count_add p m n, count_more (λ j. p (m + j)) n)

-- ---- none, and at most all
pub count_clear : (p : ℕ → Bool) (n : ℕ) → ((x : ℕ) → x < n → p x ≡ false) → count_below p n ≡ 0
unfolding count_below
count_clear p zero e = refl
count_clear p (suc n) e = ap₂ (λ (m : ℕ) (t : Bool). m + cond t 1 0) (count_clear p n (λ x l. e x (omega arith))) (e n (omega arith))

-- where none is counted, none passes the test
no_bit : (t : Bool) → (◌≡◌ {A = ℕ} (cond t 1 0) 0) → t ≡ false
no_bit true e = absurd (omega (arith, e))
no_bit false e = refl

pub none_counted : (p : ℕ → Bool) (n : ℕ) → count_below p n ≡ 0 → (x : ℕ) → x < n → p x ≡ false
none_counted p zero e x l = absurd (omega arith)
none_counted p (suc n) e x l = elim (ℕ_discrete x n) [
  | yes q ↦ ap p q ∙ no_bit (p n) (omega (arith, count_more p n, e))
  | no q ↦ none_counted p n (omega (arith, count_more p n, e)) x (omega arith)
]

at_most_one : (t : Bool) → cond t 1 0 ≤ 1
at_most_one true = omega arith
at_most_one false = omega arith

pub count_le : (p : ℕ → Bool) (n : ℕ) → count_below p n ≤ n
count_le p zero = omega (arith, count_none p)
count_le p (suc n) = omega (arith, count_more p n, count_le p n, at_most_one (p n))

-- ---- it is their number
pub count_number : (p : ℕ → Bool) (n : ℕ) → Number (λ x. (x < n) × (p x ≡ true)) (count_below p n)
count_number p zero = record {
  list = [];
  once = tt;
  size = sym (count_none p);
  sound = λ x m. absurd (not-nil m);
  whole = λ x h. absurd (omega (arith, h.0));
}
count_number p (suc n) = go (p n) refl (count_number p n)
  where
    -- a number below n + 1 that is not n is below n
    earlier : (x : ℕ) → x < suc n → ¬ (x ≡ n) → x < n
    earlier x l d = omega arith

    last : {t : Bool} → p n ≡ t → count_below p (suc n) ≡ count_below p n + cond t 1 0
    last e = count_more p n ∙ ap (λ (t : Bool). count_below p n + cond t 1 0) e

    go : (t : Bool) → p n ≡ t → Number (λ x. (x < n) × (p x ≡ true)) (count_below p n) → Number (λ x. (x < suc n) × (p x ≡ true)) (count_below p (suc n))
    go true e N = record {
      list = n ∷ N.list;
      once = ((λ m. omega (arith, (N.sound n m).0)), N.once);
      size = omega (arith, N.size, last e);
      sound = λ x m. elim (cases m) [
        | inl q ↦ (omega (arith, q), ap p q ∙ e)
        | inr k ↦ (omega (arith, (N.sound x k).0), (N.sound x k).1)
      ];
      whole = λ x h. elim (ℕ_discrete x n) [ yes q ↦ head q | no q ↦ tail (N.whole x (earlier x h.0 q, h.1)) ];
    }
    go false e N = record {
      list = N.list;
      once = N.once;
      size = omega (arith, N.size, last e);
      sound = λ x m. (omega (arith, (N.sound x m).0), (N.sound x m).1);
      whole = λ x h. elim (ℕ_discrete x n) [ yes q ↦ absurd (clash (sym (ap p q) ∙ h.1) e) | no q ↦ N.whole x (earlier x h.0 q, h.1) ];
    }
