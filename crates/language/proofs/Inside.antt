-- Inside a command: what bytes lead to, up to the first one that leads out of it.
use Prim.Native.Nat.{ℕ}
use mathlib.Core.Path.{◌≡◌, refl, sym, ap, ◌∙◌}
use mathlib.Core.Bool.{Bool, true, false, cond}
use mathlib.Core.List.{List, [], ◌∷◌, ◌++◌}
use Rattle.integers.proofs.Tests.{clash}
use Rattle.scan.specs.declared.Axis.{Axis}
use Rattle.scan.specs.declared.Sign.{Sign}
use Rattle.scan.specs.declared.Mode.{Mode}
use Rattle.scan.specs.declared.Mode.TheVariants.{Bad, Outside, Whole, Number, Inside}
use Rattle.scan.specs.declared.Part.{Part}
use Rattle.scan.specs.Next.{next}

-- some of a command has been read, and not all of it
abbrev pub is_inside : Mode → Bool
is_inside Bad = false
is_inside (Outside g) = false
is_inside (Whole c) = false
is_inside (Number a sign n v) = true
is_inside (Inside p) = true

-- there are two kinds
pub inside_cases : (P : Mode → Type 0) → ((a : Axis) (sign : Sign) (n v : ℕ) → P (Number a sign n v)) → ((p : Part) → P (Inside p)) → (m : Mode) → is_inside m ≡ true → P m
inside_cases P f g Bad e = absurd (clash e refl)
inside_cases P f g (Outside h) e = absurd (clash e refl)
inside_cases P f g (Whole c) e = absurd (clash e refl)
inside_cases P f g (Number a sign n v) e = f a sign n v
inside_cases P f g (Inside p) e = g p

-- reading on while inside
unfoldable pub upto : Mode → List ℕ → Mode
upto m [] = m
upto m (b ∷ l) = cond (is_inside m) (upto (next m b) l) m

pub upto_inside : (m : Mode) → is_inside m ≡ true → (b : ℕ) (l : List ℕ) → upto m (b ∷ l) ≡ upto (next m b) l
unfolding upto
upto_inside m e b l = ap (λ (t : Bool). cond t (upto (next m b) l) m) e

pub upto_outside : (m : Mode) → is_inside m ≡ false → (l : List ℕ) → upto m l ≡ m
unfolding upto
upto_outside m e [] = refl
upto_outside m e (b ∷ l) = ap (λ (t : Bool). cond t (upto (next m b) l) m) e

-- what more bytes lead to depends on what those before led to
pub upto_append : (m : Mode) (k l : List ℕ) → upto m (k ++ l) ≡ upto (upto m k) l
unfolding upto
upto_append m [] l = refl
upto_append m (b ∷ k) l = go (is_inside m) refl (upto_append (next m b) k l)
  where
    go : (t : Bool) → is_inside m ≡ t → upto (next m b) (k ++ l) ≡ upto (upto (next m b) k) l → upto m (b ∷ k ++ l) ≡ upto (upto m (b ∷ k)) l
    go true e h = upto_inside m e b (k ++ l) ∙ h ∙ ap (λ (n : Mode). upto n l) (sym (upto_inside m e b k))
    go false e h = upto_outside m e (b ∷ k ++ l) ∙ sym (upto_outside m e l) ∙ ap (λ (n : Mode). upto n l) (sym (upto_outside m e (b ∷ k)))
