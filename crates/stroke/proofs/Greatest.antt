-- The greatest of finitely many fractions r / g with g > 0, and of 0: a fraction s / k that is at least each of them, and has every property that they and 0 have.
-- Fractions are compared by cross products.
use mathlib.Core.Path.{refl}
use mathlib.Core.Logic.{◌⊎◌, inl, inr}
use mathlib.Core.List.Memᴰ
use mathlib.Core.List.{List, [], ◌∷◌}
use native.Mathlib.Omega.{arith}
use lib.IntN.{ℤ, pos, ◌*ℤ◌}
use lib.Signed.{clash_ℤ}
use Rattle.integers.specs.Orders.{◌≼◌, ◌≺◌}
use Rattle.integers.specs.Count.{◌∈◌}
use Rattle.integers.proofs.Ring.{ring, reify, ◌⊢◌}
use Rattle.integers.proofs.Order.{mul_nn, sub_nn, sub_pos, mul_cancel, le_or_lt, le_refl}
use Rattle.stroke.proofs.Lists.{cons_all}
use Rattle.stroke.proofs.Support.{one_lt}

pub record Greatest {A : Type 0} (r g : A → ℤ) (Q : ℤ → ℤ → Type 0) (l : List A) : Type 0 where
  pub k : ℤ
  pub s : ℤ
  pub k_some : pos 1 ≼ k
  pub s_low : pos 0 ≼ s
  pub above : (f : A) → f ∈ l → pos 0 ≺ g f → k *ℤ r f ≼ s *ℤ g f
  pub good : Q s k

-- a fraction above s / k is not negative
grow_nn : (k s g r : ℤ) → pos 1 ≼ k → pos 0 ≼ s → pos 0 ≺ g → s *ℤ g ≺ k *ℤ r → ¬ (r ≺ pos 0)
grow_nn = ring 4 _ (λ ρ hk hs hg h n. mul_nn (sub_nn hk) (sub_pos n) ⊢ mul_nn hs (sub_pos hg) ⊢ h ⊢ hk ⊢ hs ⊢ n ⊢ simp (reify, ρ) (omega arith))

-- and it lies above all that s / k lies above
grow_old : (k s g r g' r' : ℤ) → pos 0 ≺ g → s *ℤ g ≺ k *ℤ r → pos 0 ≺ g' → k *ℤ r' ≼ s *ℤ g' → k *ℤ (g *ℤ r') ≼ k *ℤ (r *ℤ g')
grow_old = ring 6 _ (λ ρ hg h hg' h'. mul_nn (sub_pos hg) (sub_nn h') ⊢ h' ⊢ mul_nn (sub_pos hg') (sub_pos h) ⊢ h ⊢ hg' ⊢ simp (reify, ρ) (omega arith))

swap_le : (g r : ℤ) → g *ℤ r ≼ r *ℤ g
swap_le = ring 2 _ (simp reify (omega arith))

le_one : (g : ℤ) → pos 0 ≺ g → pos 1 ≼ g
le_one = ring 1 _ (λ ρ. simp (reify, ρ) (omega arith))

module _ {A : Type 0} (r g : A → ℤ) (Q : ℤ → ℤ → Type 0) (zero-good : Q (pos 0) (pos 1)) where
  pub greatest : (l : List A) → ((e : A) → e ∈ l → pos 0 ≺ g e → pos 0 ≼ r e → Q (r e) (g e)) → Greatest r g Q l
  greatest [] q = record { k = pos 1; s = pos 0; k_some = le_refl (pos 1); s_low = le_refl (pos 0); above = λ f m. absurd (Memᴰ.not-nil m); good = zero-good }
  greatest (e ∷ l) q = go (greatest l (λ f m. q f (Memᴰ.tail m))) (le_or_lt (g e) (pos 0))
    where
      -- the old one stays where e's fraction, if it has one, is no more
      keep : (b : Greatest r g Q l) → (pos 0 ≺ g e → b.k *ℤ r e ≼ b.s *ℤ g e) → Greatest r g Q (e ∷ l)
      keep b h = record { k = b.k; s = b.s; k_some = b.k_some; s_low = b.s_low; above = cons_all (λ f. pos 0 ≺ g f → b.k *ℤ r f ≼ b.s *ℤ g f) h b.above; good = b.good }

      take : (b : Greatest r g Q l) → pos 0 ≺ g e → b.s *ℤ g e ≺ b.k *ℤ r e → Greatest r g Q (e ∷ l)
      take b hg h =
          let hr : pos 0 ≼ r e = elim (le_or_lt (pos 0) (r e)) [ inl n ↦ n | inr n ↦ absurd (grow_nn b.k b.s (g e) (r e) b.k_some b.s_low hg h n) ] in
          record {
            k = g e;
            s = r e;
            k_some = le_one (g e) hg;
            s_low = hr;
            above = cons_all (λ f. pos 0 ≺ g f → g e *ℤ r f ≼ r e *ℤ g f) (λ _. swap_le (g e) (r e))
                (λ f m hf. mul_cancel b.k (g e *ℤ r f) (r e *ℤ g f) (one_lt b.k b.k_some) (grow_old b.k b.s (g e) (r e) (g f) (r f) hg h hf (b.above f m hf)));
            good = q e (Memᴰ.head refl) hg hr;
          }

      go : Greatest r g Q l → (g e ≼ pos 0) ⊎ (pos 0 ≺ g e) → Greatest r g Q (e ∷ l)
      go b (inl h) = keep b (λ hg. clash_ℤ hg h)
      go b (inr h) = elim (le_or_lt (b.k *ℤ r e) (b.s *ℤ g e)) [ inl n ↦ keep b (λ _. n) | inr n ↦ take b h n ]
