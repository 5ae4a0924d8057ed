-- A path of one point or two, which is one segment, by its entries; and what the check says of them.
use Prim.Native.Nat.{ℕ}
use native.Mathlib.Omega.{arith}
use mathlib.Core.Path.{◌≡◌, refl}
use mathlib.Core.Logic.{◌⊎◌, inl, inr}
use mathlib.Core.Bool.{Bool, true, false, ◌||◌, or-true}
use mathlib.Core.List.{List, [], ◌∷◌}
use lib.Dec.{eqb}
use lib.ListN.{length}
use lib.IntN.{ℤ}
use borrow.Author.Tests.{eqb-true, eq-eqb, ne_eqb}
use Rattle.integers.proofs.Tests.{clash}
use Rattle.limits.specs.Refusal.{path}
use Rattle.limits.specs.declared.Verdict.TheVariants.{Passed}
use Rattle.limits.proofs.Exactly.{Says, unless_says}
use Rattle.limits.proofs.Verdicts.{unless_true, NotZero, unless_not_zero}
use Rattle.checks.specs.Checks.{path_verdict, segment_verdict}
use Rattle.checks.proofs.Exactly.{Placed, unless_placed}

-- by its entries
pub data Entries : List ℤ → Type 0 where
  dot : {x y : ℤ} → Entries (x ∷ y ∷ [])
  line : {ax ay bx by : ℤ} → Entries (ax ∷ ay ∷ bx ∷ by ∷ [])

-- by their number
abbrev pub TwoOrFour : ℕ → Type 0
TwoOrFour n = (n ≡ 2) ⊎ (n ≡ 4)

pub entries : (p : List ℤ) → TwoOrFour (length p) → Entries p
entries [] h = absurd (elim h [ inl e ↦ omega (arith, e) | inr e ↦ omega (arith, e) ])
entries (a ∷ []) h = absurd (elim h [ inl e ↦ omega (arith, e) | inr e ↦ omega (arith, e) ])
entries (a ∷ b ∷ []) h = dot
entries (a ∷ b ∷ c ∷ []) h = absurd (elim h [ inl e ↦ omega (arith, e) | inr e ↦ omega (arith, e) ])
entries (a ∷ b ∷ c ∷ d ∷ []) h = line
entries (a ∷ b ∷ c ∷ d ∷ e ∷ l) h = absurd (elim h [ inl e ↦ omega (arith, e) | inr e ↦ omega (arith, e) ])

-- ---- what the check says of them
two_or_four : (n : ℕ) → (eqb n 2 || eqb n 4) ≡ true → TwoOrFour n
two_or_four n e = go (eqb n 2) refl e
  where
    go : (t : Bool) → eqb n 2 ≡ t → (t || eqb n 4) ≡ true → TwoOrFour n
    go true q e = inl (eqb-true n 2 q)
    go false q e = inr (eqb-true n 4 e)

tested : (n : ℕ) → TwoOrFour n → (eqb n 2 || eqb n 4) ≡ true
tested n (inl h) = rw (eq-eqb n 2 h)
tested n (inr h) = rw (eq-eqb n 4 h) (or-true (eqb n 2))

-- the test of a number that is neither
pub neither : (n : ℕ) → ¬ (n ≡ 2) → ¬ (n ≡ 4) → (eqb n 2 || eqb n 4) ≡ false
neither n a b = rw (ne_eqb n 2 a, ne_eqb n 4 b)

pub segment_says : (p : List ℤ) → Says (segment_verdict p) 2 (¬ TwoOrFour (length p))
segment_says p = unless_says (eqb (length p) 2 || eqb (length p) 4) path (¬ TwoOrFour (length p)) (λ e h. h (two_or_four (length p) e)) (λ e h. clash (tested (length p) h) e)

pub passed_entries : (p : List ℤ) → segment_verdict p ≡ Passed → Entries p
passed_entries p e = entries p (two_or_four (length p) (unless_true (eqb (length p) 2 || eqb (length p) 4) path e))

-- such a path passes the check of a segment, and that of a path
pub entries_passed : {p : List ℤ} → Entries p → (segment_verdict p ≡ Passed) × (path_verdict p ≡ Passed)
entries_passed dot = (refl, refl)
entries_passed line = (refl, refl)

-- ---- a refusal of it is never 0, and has the place 0
pub segment_not_zero : (p : List ℤ) → NotZero (segment_verdict p)
segment_not_zero p = unless_not_zero (eqb (length p) 2 || eqb (length p) 4) path

pub segment_placed : (p : List ℤ) → Placed p (segment_verdict p)
segment_placed p = unless_placed p (eqb (length p) 2 || eqb (length p) 4) path (λ e. omega arith)
