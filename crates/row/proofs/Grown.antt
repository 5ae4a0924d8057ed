-- The runs from left to right. `runs_of` goes from the right; the code passes the columns from the left. So here is what one column more does to the runs of
-- the columns before it: nothing where it is clear, a run of its own where it is black and follows no black column, and else a later end of the last run.
use mathlib.Core.Path.{◌≡◌, refl, ap}
use mathlib.Core.Bool.{Bool, true, false, not, cond, ◌&&◌}
use mathlib.Core.List.{List, [], ◌∷◌, ◌++◌}
use Prim.Native.Nat.{ℕ, zero, suc, ◌+◌, ◌≤◌, ◌<◌}
use native.Mathlib.Omega.{arith}
use native.Mathlib.Decide.{le_ind}
use borrow.Author.Tests.{le-leb, lt-leb}
use lib.Dec.{leb}
use lib.ListN.{length, length-append}
use Rattle.stroke.specs.Runs.{Run, join, runs_from, runs_of}
use Rattle.row.specs.Pass.{before}

-- ss is rs, which is not empty, with the last run ended at column i
pub data Longer (i : ℕ) : List Run → List Run → Type 0 where
  last : {r : Run} → Longer i (r ∷ []) (record { left = r.left; right = i } ∷ [])
  more : {r : Run} {rs ss : List Run} → Longer i rs ss → Longer i (r ∷ rs) (r ∷ ss)

-- the run of one column
abbrev pub column : ℕ → Run
column i = record { left = i; right = i }

-- ss is what column i makes of rs: by whether the column before it is black, and whether it is black itself
pub data Grown (i : ℕ) (rs : List Run) : Bool → Bool → List Run → Type 0 where
  clear : {joined : Bool} → Grown i rs joined false rs
  new : Grown i rs false true (rs ++ (column i ∷ []))
  longer : {ss : List Run} → Longer i rs ss → Grown i rs true true ss

-- ---- an earlier column makes no difference to that
join_longer : {i : ℕ} (b : Bool) (j : ℕ) {rs ss : List Run} → Longer i rs ss → Longer i (join b j rs) (join b j ss)
join_longer false j e = e
join_longer {i} true j (last {r = r}) = go (leb r.left (suc j))
  where
    go : (t : Bool) →
        Longer i (cond t (record { left = j; right = r.right } ∷ []) (column j ∷ r ∷ []))
        (cond t (record { left = j; right = i } ∷ []) (column j ∷ record { left = r.left; right = i } ∷ []))
    go true = last
    go false = more last
join_longer {i} true j (more {r = r} {rs = rs} {ss = ss} e) = go (leb r.left (suc j))
  where
    go : (t : Bool) → Longer i (cond t (record { left = j; right = r.right } ∷ rs) (column j ∷ r ∷ rs)) (cond t (record { left = j; right = r.right } ∷ ss) (column j ∷ r ∷ ss))
    go true = more e
    go false = more (more e)

-- a run of its own does not touch the column, two or more before it
join_new : (b : Bool) (j x : ℕ) (rs : List Run) → suc j < x → join b j (rs ++ (column x ∷ [])) ≡ join b j rs ++ (column x ∷ [])
join_new false j x rs h = refl
join_new true j x [] h = rw (lt-leb x (suc j) h)
join_new true j x (r ∷ rs) h = go (leb r.left (suc j))
  where
    go : (t : Bool) →
        cond t (record { left = j; right = r.right } ∷ (rs ++ (column x ∷ []))) (column j ∷ r ∷ (rs ++ (column x ∷ [])))
        ≡ cond t (record { left = j; right = r.right } ∷ rs) (column j ∷ r ∷ rs) ++ (column x ∷ [])
    go true = refl
    go false = refl

join_grown : (b : Bool) (j : ℕ) {x : ℕ} {joined black : Bool} {rs ss : List Run} → suc j < x → Grown x rs joined black ss → Grown x (join b j rs) joined black (join b j ss)
join_grown b j h clear = clear
join_grown b j {x} {rs = rs} h new = rw (join_new b j x rs h) new
join_grown b j h (longer e) = longer (join_longer b j e)

-- ---- one column more
-- after no column, and after one
one_column : (black : Bool) (j : ℕ) → Grown j [] false black (join black j [])
one_column false j = clear
one_column true j = new

two_columns : (joined black : Bool) (j : ℕ) → Grown (suc j) (join joined j []) joined black (join joined j (join black (suc j) []))
two_columns false black j = one_column black (suc j)
two_columns true false j = clear
two_columns true true j = rw (le-leb (suc j) (suc j) (omega arith)) (longer last)

-- after n + 1 columns from j on, the last of which is y
from_grown : (f : ℕ → Bool) (j n y : ℕ) → y ≡ j + n → Grown (suc y) (runs_from f j (suc n)) (f y) (f (suc y)) (runs_from f j (suc (suc n)))
unfolding runs_from
from_grown f j zero y e = let e' : y ≡ j = omega arith in rw e' (two_columns (f j) (f (suc j)) j)
from_grown f j (suc n) y e = join_grown (f j) j (omega arith) (from_grown f (suc j) n y (omega arith))

-- after i columns
pub runs_grown : (f : ℕ → Bool) (i : ℕ) → Grown i (runs_of f i) (before f i) (f i) (runs_of f (suc i))
unfolding runs_of runs_from
runs_grown f zero = one_column (f 0) 0
runs_grown f (suc i) = from_grown f 0 i i (omega arith)

-- a clear column leaves them
pub grown_clear : {i : ℕ} {joined : Bool} {rs ss : List Run} → Grown i rs joined false ss → ss ≡ rs
grown_clear clear = refl

-- ---- how many runs
-- a later end of the last run leaves their number, which is not 0
pub longer_some : {i : ℕ} {rs ss : List Run} → Longer i rs ss → 1 ≤ length rs
longer_some last = omega arith
longer_some (more e) = omega arith

pub longer_length : {i : ℕ} {rs ss : List Run} → Longer i rs ss → length ss ≡ length rs
longer_length last = refl
longer_length (more e) = ap suc (longer_length e)

pub grown_length : {i : ℕ} {joined black : Bool} {rs ss : List Run} → Grown i rs joined black ss → length ss ≡ cond (black && not joined) (suc (length rs)) (length rs)
grown_length clear = refl
grown_length {i} {rs = rs} new = omega (arith, length-append rs (column i ∷ []))
grown_length (longer e) = longer_length e

grown_more : {i : ℕ} {joined black : Bool} {rs ss : List Run} → Grown i rs joined black ss → length rs ≤ length ss
grown_more clear = omega arith
grown_more {i} {rs = rs} new = omega (arith, length-append rs (column i ∷ []))
grown_more (longer e) = omega (arith, longer_length e)

-- there is a run where the last column is black
pub grown_some : {i : ℕ} {joined : Bool} {rs ss : List Run} → Grown i rs joined true ss → 1 ≤ length ss
grown_some {i} {rs = rs} new = omega (arith, length-append rs (column i ∷ []))
grown_some (longer e) = omega (arith, longer_some e, longer_length e)

-- more columns never make fewer runs
pub runs_more : (f : ℕ → Bool) (i n : ℕ) → i ≤ n → length (runs_of f i) ≤ length (runs_of f n)
runs_more f i = le_ind (λ n. length (runs_of f i) ≤ length (runs_of f n)) (omega arith) (λ n _ h. omega (arith, grown_more (runs_grown f n)))
