-- Pieces of text, one behind the other. Where each fits, what is put piece by piece is what is put at once (`put_next`): so a caller that has room for all
-- proves nothing of the places between.
use Prim.Native.Nat.{ℕ, ◌+◌, ◌-◌, ◌≤◌, ◌<◌}
use native.Mathlib.Nat.{zero-add}
use native.Mathlib.Omega.{arith}
use mathlib.Core.Path.{◌≡◌, refl, sym, ap, ◌∙◌}
use mathlib.Core.Bool.{Bool, true, false}
use mathlib.Core.List.{List, [], ◌++◌, append_assoc}
use lib.Dec.{leb}
use lib.ListN.{length, take, drop, length-append}
use lib.Seq.{paste, paste-zero, take-length, take-paste, drop-paste, drop-drop, length-paste}
use borrow.Author.Tests.{leb-true, leb-false, le-leb, lt-leb}
use Rattle.integers.proofs.Tests.{same_test}
use Rattle.text.specs.Put.{Put, put_at, started}

-- ---- whether a piece fits, told without the sum: by the rest of the buffer, and where the buffer ends before the place it does not
pub by_rest : (at k n : ℕ) → at ≤ n → leb k (n - at) ≡ leb (at + k) n
by_rest at k n h = same_test (leb k (n - at)) (leb (at + k) n) (λ e. let l = leb-true k (n - at) e in le-leb (at + k) n (omega arith)) (λ e. let l = leb-true (at + k) n e in le-leb k (n - at) (omega arith))

pub no_rest : (at k n : ℕ) → n < at → leb at n ≡ leb (at + k) n
no_rest at k n h = lt-leb at n h ∙ sym (lt-leb (at + k) n (omega arith))

-- ---- one piece
-- where a piece fits it is pasted, and ends behind itself
pub put_fits : (b : List ℕ) (at : ℕ) (t : List ℕ) → at + length t ≤ length b → put_at b at t ≡ record { end = at + length t; buffer = paste b at t (length t) }
put_fits b at t h = rw (le-leb (at + length t) (length b) h, put_at)

-- where it does not fit nothing is put
pub put_not : (b : List ℕ) (at : ℕ) (t : List ℕ) → length b < at + length t → put_at b at t ≡ record { end = at; buffer = b }
put_not b at t h = rw (lt-leb (at + length t) (length b) h, put_at)

-- a whole piece that is pasted: what stands before it, the piece, and what stands behind it
whole : (b : List ℕ) (at : ℕ) (t : List ℕ) → paste b at t (length t) ≡ take at b ++ t ++ drop (at + length t) b
whole b at t = rw (take-length t)

-- ---- a piece behind another
-- the second piece is pasted behind the first: the first and what stands before it stay, and what stands behind both is the buffer's
behind : (b : List ℕ) (at : ℕ) (s t : List ℕ) → at ≤ length b →
    paste (paste b at s (length s)) (at + length s) t (length t) ≡ paste b at (s ++ t) (length (s ++ t))
behind b at s t h =
    let n : ℕ = at + length s in
    let b₁ : List ℕ = paste b at s (length s) in
    let before : take n b₁ ≡ take at b ++ s = take-paste b at s (length s) h (omega arith) ∙ ap (λ (l : List ℕ). take at b ++ l) (take-length s) in
    let after : drop (n + length t) b₁ ≡ drop (n + length t) b =
    sym (drop-drop (length t) n b₁) ∙ ap (drop (length t)) (drop-paste b at s (length s) h (omega arith)) ∙ drop-drop (length t) n b in
    let long : n + length t ≡ at + length (s ++ t) = omega (arith, length-append s t) in
    whole b₁ n t
    ∙ ap (λ (l : List ℕ). l ++ t ++ drop (n + length t) b₁) before
    ∙ ap (λ (l : List ℕ). take at b ++ s ++ t ++ l) after
    ∙ ap (λ (l : List ℕ). l ++ drop (n + length t) b) (append_assoc (take at b) s t)
    ∙ ap (λ (k : ℕ). take at b ++ (s ++ t) ++ drop k b) long
    ∙ sym (whole b at (s ++ t))

-- a piece behind another is both at once
pub put_next : (b : List ℕ) (at : ℕ) (s t : List ℕ) {P Q : Put} → at + length s + length t ≤ length b →
    P ≡ put_at b at s →
    Q ≡ put_at P.buffer P.end t →
    Q ≡ put_at b at (s ++ t)
put_next b at s t h p q =
    let b₁ : List ℕ = paste b at s (length s) in
    let n : ℕ = at + length s in
    let first = p ∙ put_fits b at s (omega arith) in
    let room : n + length t ≤ length b₁ = omega (arith, length-paste b at s (length s) (omega arith) (omega arith)) in
    let long : n + length t ≡ at + length (s ++ t) = omega (arith, length-append s t) in
    q
    ∙ ap (λ (r : Put). put_at r.buffer r.end t) first
    ∙ put_fits b₁ n t room
    ∙ ap (λ (k : ℕ). record { end = k; buffer = paste b₁ n t (length t) }) long
    ∙ ap (λ (l : List ℕ). record { end = at + length (s ++ t); buffer = l }) (behind b at s t (omega arith))
    ∙ sym (put_fits b at (s ++ t) (omega arith))

-- ---- what else holds of a piece
-- an empty piece changes nothing
pub put_nothing : (b : List ℕ) (at : ℕ) → at ≤ length b → put_at b at [] ≡ record { end = at; buffer = b }
put_nothing b at h =
    put_fits b at [] (omega arith)
    ∙ ap (λ (k : ℕ). record { end = k; buffer = paste b at [] 0 }) (omega arith)
    ∙ ap (λ (l : List ℕ). record { end = at; buffer = l }) (sym (paste-zero b at []))

-- a buffer keeps its length, whether the piece fits or not
pub put_length : (b : List ℕ) (at : ℕ) (t : List ℕ) → length (put_at b at t).buffer ≡ length b
put_length b at t = go (leb (at + length t) (length b)) refl
  where
    go : (f : Bool) → leb (at + length t) (length b) ≡ f → length (put_at b at t).buffer ≡ length b
    go true e = let h = leb-true _ _ e in ap (λ (r : Put). length r.buffer) (put_fits b at t h) ∙ length-paste b at t (length t) h (omega arith)
    go false e = ap (λ (r : Put). length r.buffer) (put_not b at t (leb-false _ _ e))

-- a piece that is put first starts the buffer
pub put_started : (b t : List ℕ) → length t ≤ length b → put_at b 0 t ≡ record { end = length t; buffer = started t b }
put_started b t h =
    put_fits b 0 t (omega arith)
    ∙ ap (λ (l : List ℕ). record { end = 0 + length t; buffer = l }) (whole b 0 t)
    ∙ ap (λ (k : ℕ). record { end = k; buffer = t ++ drop k b }) (zero-add (length t))
