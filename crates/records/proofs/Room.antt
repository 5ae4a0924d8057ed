-- The numbers that are asked of the plain call for a list of records: how many, and that they are the front of the list of numbers.
use Prim.Native.Nat.{ℕ, ◌*◌, ◌/◌, ◌≤◌, ◌<◌}
use native.Mathlib.Omega.{arith}
use mathlib.Core.Path.{◌≡◌, refl, ap, ◌∙◌}
use mathlib.Core.Bool.{Bool, true, false}
use mathlib.Core.List.{List, ◌++◌}
use borrow.Author.Tests.{le-leb, lt-leb, leb-true}
use lib.Dec.{leb}
use lib.ListN.{length, take, drop}
use lib.Seq.{take_at, length-take-le}
use Rattle.limits.specs.Sizes.{entries_max}
use Rattle.checks.specs.declared.Answer.{Answer}
use Rattle.checks.specs.Answer.{Result}
use Rattle.records.specs.Records.{runs_max, entries}

pub entries_few : (room : ℕ) → room ≤ runs_max → 2 * room ≡ entries room
entries_few room h = rw (le-leb room runs_max h)

pub entries_all : (room : ℕ) → runs_max < room → entries_max ≡ entries room
entries_all room h = rw (lt-leb room runs_max h)

-- the list of numbers has so many
pub entries_in : (room : ℕ) → entries room ≤ entries_max
entries_in room = go (leb room runs_max) refl
  where
    go : (t : Bool) → leb room runs_max ≡ t → entries room ≤ entries_max
    go true e = let h = leb-true room runs_max e in rw e (omega (arith, h))
    go false e = rw e (omega arith)

-- they are enough for as many runs as a row has, and too few where the records are
pub entries_enough : (n room : ℕ) → n ≤ runs_max → n ≤ room → n ≤ entries room / 2
entries_enough n room h k = go (leb room runs_max) refl
  where
    go : (t : Bool) → leb room runs_max ≡ t → n ≤ entries room / 2
    go true e = rw e (omega arith)
    go false e = rw e (omega arith)

pub entries_short : (n room : ℕ) → n ≤ runs_max → room < n → entries room / 2 < n
entries_short n room h k = let e = entries_few room (omega arith) in omega (arith, e)

-- a call that was lent the front of a list leaves its answer at the front
pub at_front : (f : List ℕ → Result ℕ) (a : Answer) (l p : List ℕ) (n : ℕ) → n ≤ length l → length p ≡ length (take n l) → record { answer = a; list = p } ≡ f (take n l) →
    record { answer = a; list = take n (p ++ drop n l) } ≡ f (take n l)
at_front f a l p n h k e = ap (λ (q : List ℕ). record { answer = a; list = q }) (take_at p (drop n l) n (k ∙ length-take-le n l h)) ∙ e
