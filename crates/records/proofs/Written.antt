-- What the loop of `write` leaves: after n turns the first n records are those of the plain list.
use Prim.Native.Nat.{ℕ, zero, suc, ◌+◌, ◌*◌, ◌≤◌, ◌<◌}
use native.Mathlib.Omega.{arith}
use native.Mathlib.Nat.{zero-add}
use mathlib.Core.Path.{◌≡◌, refl, sym, ap, subst, ◌∙◌}
use mathlib.Core.List.{List, [], ◌∷◌, ◌++◌}
use lib.ListN.{length, get_or, set, take, drop, length-set}
use lib.Seq.{paste-suc}
use Rattle.records.specs.declared.Run.{Run}
use Rattle.records.specs.Records.{pairs, written}

-- record i of the plain list, as the code reads it
abbrev pub record_at : List ℕ → ℕ → Run
record_at l i = record { left = get_or l (2 * i) 0; right = get_or l (2 * i + 1) 0 }

-- the records after i turns: each turn stores one
abbrev pub filled : ℕ → List ℕ → List Run → List Run
filled zero l o = o
filled (suc i) l o = set (filled i l o) i (record_at l i)

pub length_filled : (i : ℕ) (l : List ℕ) (o : List Run) → length (filled i l o) ≡ length o
length_filled zero l o = refl
length_filled (suc i) l o = length-set (filled i l o) i _ ∙ length_filled i l o

-- two numbers make a record
pub pairs_long : (l : List ℕ) (n : ℕ) → 2 * n ≤ length l → n ≤ length (pairs l)
pairs_long l zero h = omega arith
pairs_long [] (suc n) h = absurd (omega arith)
pairs_long (a ∷ []) (suc n) h = absurd (omega arith)
pairs_long (a ∷ b ∷ l) (suc n) h = let k = pairs_long l n (omega arith) in omega (arith, k)

-- the code reads the record at its place
pairs_at : (l : List ℕ) (i : ℕ) (z : Run) → 2 * i + 1 < length l → get_or (pairs l) i z ≡ record_at l i
pairs_at [] i z h = absurd (omega arith)
pairs_at (a ∷ []) i z h = absurd (omega arith)
pairs_at (a ∷ b ∷ l) zero z h = refl
pairs_at (a ∷ b ∷ l) (suc i) z h =
    let e : 2 * suc i ≡ suc (suc (2 * i)) = omega arith in
    let e' : 2 * suc i + 1 ≡ suc (suc (2 * i + 1)) = omega arith in
    rw (e', e) (pairs_at l i z (omega arith))

-- one record more
written_suc : (n : ℕ) (s o : List Run) (z : Run) → n < length s → n < length o → set (take n s ++ drop n o) n (get_or s n z) ≡ take (suc n) s ++ drop (suc n) o
written_suc n s o z h k =
    subst (λ (m : ℕ). set (take n s ++ drop m o) m (get_or s n z) ≡ take (suc n) s ++ drop (suc n) o) (zero-add n)
    (subst (λ (m : ℕ). set (take n s ++ drop (0 + n) o) (0 + n) (get_or s n z) ≡ take (suc n) s ++ drop m o) (zero-add (suc n)) (paste-suc o 0 s n z (omega arith) h))

-- the loop leaves what the contract says
pub filled_written : (n : ℕ) (l : List ℕ) (o : List Run) → 2 * n ≤ length l → n ≤ length o → filled n l o ≡ written n l o
filled_written zero l o h k = refl
filled_written (suc n) l o h k =
    let z : Run = record_at l n in
    ap (λ (r : List Run). set r n z) (filled_written n l o (omega arith) (omega arith))
    ∙ ap (λ (r : Run). set (written n l o) n r) (sym (pairs_at l n z (omega arith)))
    ∙ written_suc n (pairs l) o z (let e = pairs_long l (suc n) h in omega (arith, e)) (omega arith)
