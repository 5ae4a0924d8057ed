-- The library's greater and lesser of two signed numbers, which a call of `a.max(b)` or `a.min(b)` answers, are those of `specs/Compare.antt`.
-- How to use it: `greater_is p q c.max.ensures.value` says that the answer stands for the greater of what p and q stand for.
use mathlib.Core.Path.{◌≡◌, sym, ap, ◌∙◌}
use mathlib.Core.Logic.{inl, inr}
use mathlib.Core.Bool.{Bool, cond}
use Prim.Native.Nat.{ℕ}
use lib.IntN.{ℤ}
use mir.Syntax.{Width}
use mir.Val.{to_z, of_z}
use Rattle.std.specs.Int.{int_max, int_min}
use Rattle.integers.specs.Compare.{max_z, min_z}
use Rattle.integers.proofs.Tests.{lez, lt_iff, lt_no}
use Rattle.integers.proofs.Machine.{Is}
use Rattle.integers.proofs.Words.{max_is, min_is}

pub int_max_is : (a b : ℤ) → int_max a b ≡ max_z a b
int_max_is a b =
    elim (lez a b) [
      | inl h ↦ ap (λ (t : Bool). cond t a b) (lt_no b a h.1) ∙ sym (ap (λ (t : Bool). cond t b a) h.0)
      | inr h ↦ ap (λ (t : Bool). cond t a b) ((lt_iff b a).1 h.1) ∙ sym (ap (λ (t : Bool). cond t b a) h.0)
    ]

pub int_min_is : (a b : ℤ) → int_min a b ≡ min_z a b
int_min_is a b =
    elim (lez a b) [
      | inl h ↦ ap (λ (t : Bool). cond t b a) (lt_no b a h.1) ∙ sym (ap (λ (t : Bool). cond t a b) h.0)
      | inr h ↦ ap (λ (t : Bool). cond t b a) ((lt_iff b a).1 h.1) ∙ sym (ap (λ (t : Bool). cond t a b) h.0)
    ]

-- what such a call answers of two numbers
module _ {w : Width} {x y r : ℤ} {m k n : ℕ} (p : Is w x m n) (q : Is w y k n) where
  pub greater_is : r ≡ int_max (to_z w m) (to_z w k) → Is w (max_z x y) (of_z w r) n
  greater_is e = max_is p q (e ∙ int_max_is (to_z w m) (to_z w k))

  pub lesser_is : r ≡ int_min (to_z w m) (to_z w k) → Is w (min_z x y) (of_z w r) n
  lesser_is e = min_is p q (e ∙ int_min_is (to_z w m) (to_z w k))
