-- Words that are the same: no column of theirs is apart.
use Prim.Native.Nat.{ℕ, zero, suc, ◌+◌, ◌-◌, ◌*◌, ◌/◌, ◌^◌, ◌≤◌, ◌<◌}
use native.Mathlib.Nat.{add-zero}
use native.Mathlib.Omega.{arith}
use native.Mathlib.Decide.{dec_lt}
use mathlib.Core.Path.{◌≡◌, refl, subst}
use mathlib.Core.Bool.{true, false}
use mathlib.Core.List.{List}
use borrow.Author.Tests.{eqb-true}
use lib.Dec.{eqb}
use lib.ListN.{get_or}
use Rattle.integers.proofs.Tests.{and_both}
use Rattle.wire.specs.Read.{four_at, number_at}
use Rattle.difference.specs.Apart.{apart}
use Rattle.difference.specs.Code.{has_word, same_word}
use Rattle.difference.proofs.OneByte.{Small, same_byte}
use Rattle.difference.proofs.EightBytes.{four_small}

-- of two numbers that are equal both parts are
lowest_byte : (p q P Q : ℕ) → p < 256 → q < 256 → p + 256 * P ≡ q + 256 * Q → (p ≡ q) × (P ≡ Q)
lowest_byte p q P Q hp hq e = (omega arith, omega arith)

lowest_four : (p q P Q : ℕ) → p < 2 ^ 32 → q < 2 ^ 32 → p + 2 ^ 32 * P ≡ q + 2 ^ 32 * Q → (p ≡ q) × (P ≡ Q)
lowest_four p q P Q hp hq e = (omega arith, omega arith)

module _ (a b : List ℕ) (at : ℕ) (ha : Small a) (hb : Small b) where
  same_four : four_at a at ≡ four_at b at → (i : ℕ) → i < 4 → get_or a (at + i) 0 ≡ get_or b (at + i) 0
  same_four e i l =
      let e₀ = lowest_byte (get_or a at 0) (get_or b at 0) _ _ (ha at) (hb at) e in
      let e₁ = lowest_byte (get_or a (at + 1) 0) (get_or b (at + 1) 0) _ _ (ha (at + 1)) (hb (at + 1)) e₀.1 in
      let e₂ = lowest_byte (get_or a (at + 2) 0) (get_or b (at + 2) 0) _ _ (ha (at + 2)) (hb (at + 2)) e₁.1 in
      go e₀.0 e₁.0 e₂.0 e₂.1 i l
    where
      go : get_or a at 0 ≡ get_or b at 0 → get_or a (at + 1) 0 ≡ get_or b (at + 1) 0 → get_or a (at + 2) 0 ≡ get_or b (at + 2) 0 → get_or a (at + 3) 0 ≡ get_or b (at + 3) 0 →
          (i : ℕ) → i < 4 → get_or a (at + i) 0 ≡ get_or b (at + i) 0
      go e₀ e₁ e₂ e₃ zero l = rw (add-zero at) e₀
      go e₀ e₁ e₂ e₃ (suc zero) l = e₁
      go e₀ e₁ e₂ e₃ (suc (suc zero)) l = e₂
      go e₀ e₁ e₂ e₃ (suc (suc (suc zero))) l = e₃
      go e₀ e₁ e₂ e₃ (suc (suc (suc (suc i)))) l = absurd (omega arith)

-- each of their eight bytes is
pub same_word_lem : (a b : List ℕ) (at : ℕ) → Small a → Small b → number_at a at ≡ number_at b at → (i : ℕ) → i < 8 → get_or a (at + i) 0 ≡ get_or b (at + i) 0
same_word_lem a b at ha hb e i l =
    let halves = lowest_four (four_at a at) (four_at b at) (four_at a (at + 4)) (four_at b (at + 4)) (four_small a ha at) (four_small b hb at) e in
    elim (dec_lt i 4) [
      | yes h ↦ same_four a b at ha hb halves.0 i h
      | no h ↦ (let back : at + 4 + (i - 4) ≡ at + i = omega arith in
          subst (λ (k : ℕ). get_or a k 0 ≡ get_or b k 0) back (same_four a b (at + 4) ha hb halves.1 (i - 4) (omega arith)))
    ]

-- so no column of theirs is apart: what the test `same_word` says
pub same_word_columns : (a b : List ℕ) (at x : ℕ) → Small a → Small b → same_word a b at ≡ true → at ≤ x / 8 → x / 8 < at + 8 → apart a b x ≡ false
same_word_columns a b at x ha hb h low high =
    let same = eqb-true (number_at a at) (number_at b at) (and_both (has_word b at) (eqb (number_at a at) (number_at b at)) (and_both (has_word a at) _ h).1).1 in
    let k : at + (x / 8 - at) ≡ x / 8 = omega arith in
    same_byte a b (x / 8) x (subst (λ (i : ℕ). get_or a i 0 ≡ get_or b i 0) k (same_word_lem a b at ha hb same (x / 8 - at) (omega arith))) refl
