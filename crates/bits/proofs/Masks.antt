-- The byte of a span: the bits from its first column on less the bits from its end on.
use Prim.Native.Nat.{ℕ, zero, suc, ◌+◌, ◌-◌, ◌≤◌, ◌<◌, min}
use mathlib.Core.Path.{◌≡◌, refl, sym, ap₂, ◌∙◌, subst}
use mathlib.Core.Bool.{Bool, true, false, cond, ◌&&◌}
use mathlib.Core.List.{List, [], ◌∷◌}
use native.Mathlib.Nat.{zero-add}
use native.Mathlib.Omega.{arith}
use borrow.Author.Tests.{ltb-true, ltb-false, leb-true, eqb-true, lt-ltb, le-leb}
use lib.Dec.{leb, ltb, eqb}
use lib.ListN.{get_or}
use Rattle.integers.proofs.Tests.{and_both, same_test}
use Rattle.bits.specs.Bits.{bits_from, span}
use Rattle.bits.proofs.Bytes.{bits_ext}

-- the source's table: entry n has its first n bits clear and the others set
abbrev pub ones : List ℕ
ones = 255 ∷ 127 ∷ 63 ∷ 31 ∷ 15 ∷ 7 ∷ 3 ∷ 1 ∷ 0 ∷ []

-- ---- the table's rule, by a test that is computed for all columns of a byte
abbrev below : (ℕ → Bool) → ℕ → Bool
below f zero = true
below f (suc n) = f n && below f n

below_at : (f : ℕ → Bool) (n k : ℕ) → below f n ≡ true → k < n → f k ≡ true
below_at f zero k e l = absurd (omega arith)
below_at f (suc n) k e l = go (and_both (f n) (below f n) e).0 (below_at f n k (and_both (f n) (below f n) e).1) (ltb k n) refl
  where
    go : f n ≡ true → (k < n → f k ≡ true) → (t : Bool) → ltb k n ≡ t → f k ≡ true
    go last others true q = others (ltb-true k n q)
    go last others false q =
        let p : n ≡ k = omega (arith, ltb-false k n q) in
        subst (λ (i : ℕ). f i ≡ true) p last

abbrev right : ℕ → ℕ → Bool
right l e = leb (get_or ones e 0) (get_or ones l 0) && eqb (get_or ones l 0 - get_or ones e 0) (bits_from (span l e) 0 8 0)

rights : below (λ l. below (λ e. cond (leb l e) (right l e) true) 9) 9 ≡ true
unfolding bits_from
rights = refl

ones_right : (l e : ℕ) → l ≤ e → e ≤ 8 → (get_or ones e 0 ≤ get_or ones l 0) × (get_or ones l 0 - get_or ones e 0 ≡ bits_from (span l e) 0 8 0)
ones_right l e h k =
    let t = below_at (λ e. cond (leb l e) (right l e) true) 9 e (below_at (λ l. below (λ e. cond (leb l e) (right l e) true) 9) 9 l rights (omega arith)) (omega arith) in
    let b = and_both _ _ (subst (λ (u : Bool). cond u (right l e) true ≡ true) (le-leb l e h) t) in
    (leb-true (get_or ones e 0) (get_or ones l 0) b.0, eqb-true (get_or ones l 0 - get_or ones e 0) (bits_from (span l e) 0 8 0) b.1)

-- ---- a byte of a longer span has the columns of the span that lie in it
in_byte : (left end first b : ℕ) → b < 8 → span left end (first + b) ≡ span (min (left - first) 8) (min (end - first) 8) (0 + b)
in_byte left end first b h = rw zero-add (ap₂ ◌&&◌
    (same_test (leb left (first + b)) (leb (min (left - first) 8) b)
    (λ t. le-leb (min (left - first) 8) b (omega (arith, leb-true left (first + b) t))) (λ t. le-leb left (first + b) (omega (arith, leb-true (min (left - first) 8) b t))))
    (same_test (ltb (first + b) end) (ltb b (min (end - first) 8))
    (λ t. lt-ltb b (min (end - first) 8) (omega (arith, ltb-true (first + b) end t))) (λ t. lt-ltb (first + b) end (omega (arith, ltb-true b (min (end - first) 8) t)))))

pub ones_byte : (left end first : ℕ) {l e : ℕ} → left ≤ end → l ≡ min (left - first) 8 → e ≡ min (end - first) 8 →
    (get_or ones e 0 ≤ get_or ones l 0) × (get_or ones l 0 - get_or ones e 0 ≡ bits_from (span left end) first 8 0)
ones_byte left end first {l} {e} h p q =
    let r = ones_right l e (omega arith) (omega arith) in
    let s = bits_ext (span left end) (span (min (left - first) 8) (min (end - first) 8)) 8 first 0 0 (in_byte left end first) in
    (r.0, r.1 ∙ ap₂ (λ (i : ℕ) (j : ℕ). bits_from (span i j) 0 8 0) p q ∙ sym s)
