-- Signed machine numbers of 64 bits: how an expression of them is written, and what the crate's functions answer of them, in the record `Is`.
use mathlib.Core.Path.{◌≡◌, sym, ap, ap₂, subst, ◌∙◌}
use mathlib.Core.Bool.{Bool, cond}
use mathlib.Core.Logic.{inl, inr}
use Prim.Native.Nat.{ℕ, ◌+◌, ◌^◌}
use lib.Dec.{T, ltb}
use lib.IntN.{ℤ, pos, neg_ℤ, ◌+ℤ◌, ◌-ℤ◌, ◌*ℤ◌, +ℤ_idl}
use mir.Syntax.{Width, w8, w64}
use mir.Val.{SFits, hbits, to_z, of_z}
use mir.Facts.{to_z-of_z}
use Rattle.integers.specs.Bound.{Abs}
use Rattle.integers.specs.Compare.{min_z, max_z}
use Rattle.integers.proofs.Tests.{max_case, min_case}
use Rattle.integers.proofs.Bound.{abs_fits, fits_abs}
use Rattle.integers.proofs.Machine.{Is, got, num, sub, along}

-- ---- what the machine computes of 64 bits
abbrev pub bits : ℤ → ℕ
bits z = of_z w64 z

infixl 65 ◌⊕◌ ◌⊖◌
infixl 70 ◌⊗◌
abbrev pub ◌⊕◌ : ℕ → ℕ → ℕ
m ⊕ k = of_z w64 (to_z w64 m +ℤ to_z w64 k)

abbrev pub ◌⊖◌ : ℕ → ℕ → ℕ
m ⊖ k = of_z w64 (to_z w64 m -ℤ to_z w64 k)

abbrev pub ◌⊗◌ : ℕ → ℕ → ℕ
m ⊗ k = of_z w64 (to_z w64 m *ℤ to_z w64 k)

-- ---- the crate's functions
-- what holds of both holds of the greater and of the lesser
max_of : (P : ℤ → Type 0) {x y : ℤ} → P x → P y → P (max_z x y)
max_of P {x} {y} p q = elim (max_case x y) [ inl h ↦ subst P (sym h.0) q | inr h ↦ subst P (sym h.0) p ]

min_of : (P : ℤ → Type 0) {x y : ℤ} → P x → P y → P (min_z x y)
min_of P {x} {y} p q = elim (min_case x y) [ inl h ↦ subst P (sym h.0) p | inr h ↦ subst P (sym h.0) q ]

module _ {w : Width} {x y r : ℤ} {m k n : ℕ} (p : Is w x m n) (q : Is w y k n) where
  pub max_is : r ≡ max_z (to_z w m) (to_z w k) → Is w (max_z x y) (of_z w r) n
  max_is e =
      let f = e ∙ ap₂ max_z p.reads q.reads in
      got (subst (SFits w) (sym f) (max_of (SFits w) p.fits q.fits)) f (max_of (λ z. Abs z n) p.abs q.abs)

  pub min_is : r ≡ min_z (to_z w m) (to_z w k) → Is w (min_z x y) (of_z w r) n
  min_is e =
      let f = e ∙ ap₂ min_z p.reads q.reads in
      got (subst (SFits w) (sym f) (min_of (SFits w) p.fits q.fits)) f (min_of (λ z. Abs z n) p.abs q.abs)

-- a corner's coordinate, made wide
pub coordinate : {r x : ℤ} → SFits w8 x → (r ≡ to_z w8 (of_z w8 x)) × Abs r 128 → Is w64 x (of_z w64 r) 128
coordinate f h =
    let e = h.0 ∙ to_z-of_z f in
    got (abs_fits h.1 tt) e (subst (λ (z : ℤ). Abs z 128) e h.1)

-- the same of `i64::from(x)`
pub widened : {r x : ℤ} → SFits w8 x → r ≡ to_z w8 (of_z w8 x) → Is w64 x (of_z w64 r) 128
widened f e =
    let h = e ∙ to_z-of_z f in
    let small = fits_abs f in
    got (subst (SFits w64) (sym h) (abs_fits small tt)) h small

-- and of a number of any other width that 64 bits hold
pub widened_from : {v : Width} {r x : ℤ} → SFits v x → r ≡ to_z v (of_z v x) → T (ltb (2 ^ hbits v) (2 ^ hbits w64)) → Is w64 x (of_z w64 r) (2 ^ hbits v)
widened_from f e t =
    let h = e ∙ to_z-of_z f in
    let small = fits_abs f in
    got (subst (SFits w64) (sym h) (abs_fits small t)) h small

-- the opposite number
pub opposite : {x : ℤ} {m n : ℕ} → Is w64 x m n → T (ltb (0 + n) (2 ^ hbits w64)) → Is w64 (neg_ℤ x) (bits (pos 0) ⊖ m) (0 + n)
opposite {x} p t = along (+ℤ_idl (neg_ℤ x)) (sub (num (pos 0) tt) p t)

-- what a test picks
pub picked : {A : Type 0} {t u : Bool} (x y : A) → t ≡ u → cond t x y ≡ cond u x y
picked x y e = ap (λ (t : Bool). cond t x y) e

-- a function of three numbers
pub ap₃ : {A : Type 0} (f : ℤ → ℤ → ℤ → A) {a a' b b' c c' : ℤ} → a ≡ a' → b ≡ b' → c ≡ c' → f a b c ≡ f a' b' c'
ap₃ f {a' = a'} {b = b} {c = c} p q r = ap (λ (z : ℤ). f z b c) p ∙ ap₂ (f a') q r
