-- The runs of a row in which one stretch of columns is black, or none: a list that covers those columns and is apart is the runs.
use mathlib.Core.Path.{◌≡◌, sym, subst}
use mathlib.Core.Logic.{◌↔◌, inl, inr}
use mathlib.Core.Bool.{Bool, false, ◌&&◌}
use mathlib.Core.List.{[], ◌∷◌}
use Prim.Native.Nat.{ℕ, ◌≤◌, ◌<◌}
use native.Mathlib.Omega.{arith}
use lib.Dec.{T, leb, leb→le, le→leb}
use lib.Ieee.Fits.{and_i, and_l, and_r}
use Rattle.stroke.specs.Runs.{runs_of}
use Rattle.stroke.proofs.Apart.{longest_same}
use Rattle.stroke.proofs.Runs.{runs_of_lem}

-- the test of a stretch
pub between_test : (l r x : ℕ) → T (leb l x && leb x r) ↔ ((l ≤ x) × (x ≤ r))
between_test l r x =
    ((λ h. (leb→le l x (and_l (leb l x) (leb x r) h), leb→le x r (and_r (leb l x) (leb x r) h))), λ h. and_i (leb l x) (leb x r) (le→leb l x h.0) (le→leb x r h.1))

pub runs_one : (l r n : ℕ) → l ≤ r → r < n → (f : ℕ → Bool) → ((x : ℕ) → x < n → f x ≡ (leb l x && leb x r)) → runs_of f n ≡ record { left = l; right = r } ∷ []
runs_one l r n h k f e =
    longest_same (runs_of_lem f n) (record {
      apart = (omega arith, h, tt);
      cover = λ x. (
        elim [ inl c ↦ (let m : x < n = omega arith in (m, subst T (sym (e x m)) ((between_test l r x).1 c))) | inr c ↦ absurd c ],
        λ c. inl ((between_test l r x).0 (subst T (e x c.0) c.1)),
      );
    })

pub runs_none : (n : ℕ) (f : ℕ → Bool) → ((x : ℕ) → x < n → f x ≡ false) → runs_of f n ≡ []
runs_none n f e = longest_same (runs_of_lem f n) (record { apart = tt; cover = λ x. ((λ c. absurd c), λ c. subst T (e x c.0) c.1) })
