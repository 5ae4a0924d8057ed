-- Records and their numbers: the one is read back from the other, and the records of a flat list of runs are the runs.
use Prim.Native.Nat.{ℕ, zero, suc, ◌*◌}
use native.Mathlib.Omega.{arith}
use mathlib.Core.Path.{◌≡◌, refl, sym, ap, ap₂, ◌∙◌}
use mathlib.Core.List.{List, [], ◌∷◌, ◌++◌}
use lib.ListN.{length, take, drop, length-map}
use lib.Seq.{take_at}
use Rattle.stroke.specs.Runs as stroke
use Rattle.row.specs.Answer.{flat, listed}
use Rattle.records.specs.declared.Run.{Run}
use Rattle.records.specs.Records.{numbers, pairs}
use Rattle.records.specs.Theorems.{record_of, records_of}

pub length_numbers : (o : List Run) → length (numbers o) ≡ 2 * length o
length_numbers [] = refl
length_numbers (r ∷ o) = let e = length_numbers o in omega (arith, e)

pub pairs_numbers : (o : List Run) → pairs (numbers o) ≡ o
pairs_numbers [] = refl
pairs_numbers (r ∷ o) = ap (λ (l : List Run). r ∷ l) (pairs_numbers o)

pub numbers_append : (o p : List Run) → numbers (o ++ p) ≡ numbers o ++ numbers p
numbers_append [] p = refl
numbers_append (r ∷ o) p = ap (λ (l : List ℕ). r.left ∷ r.right ∷ l) (numbers_append o p)

-- n records are 2n numbers
pub drop_numbers : (n : ℕ) (o : List Run) → drop (2 * n) (numbers o) ≡ numbers (drop n o)
drop_numbers zero o = refl
drop_numbers (suc n) [] = let e : 2 * suc n ≡ suc (suc (2 * n)) = omega arith in rw e
drop_numbers (suc n) (r ∷ o) = let e : 2 * suc n ≡ suc (suc (2 * n)) = omega arith in rw e (drop_numbers n o)

-- ---- runs
pub numbers_records : (rs : List stroke.Run) → numbers (records_of rs) ≡ flat rs
numbers_records [] = refl
numbers_records (r ∷ rs) = ap (λ (l : List ℕ). r.left ∷ r.right ∷ l) (numbers_records rs)

-- the list of a plain call that drew the runs is the numbers of the records that hold them
pub listed_numbers : (rs : List stroke.Run) (o : List Run) → listed rs (numbers o) ≡ numbers (records_of rs ++ drop (length rs) o)
listed_numbers rs o = ap₂ (λ (k l : List ℕ). k ++ l) (sym (numbers_records rs)) (drop_numbers (length rs) o) ∙ sym (numbers_append (records_of rs) (drop (length rs) o))

-- the records of a list that begins with runs begin with them
pairs_flat : (rs : List stroke.Run) (l : List ℕ) → pairs (flat rs ++ l) ≡ records_of rs ++ pairs l
pairs_flat [] l = refl
pairs_flat (r ∷ rs) l = ap (λ (p : List Run). record_of r ∷ p) (pairs_flat rs l)

pub first_records : (rs : List stroke.Run) (l : List ℕ) → take (length rs) (pairs (flat rs ++ l)) ≡ records_of rs
first_records rs l = ap (take (length rs)) (pairs_flat rs l) ∙ take_at (records_of rs) (pairs l) (length rs) (length-map rs record_of)
