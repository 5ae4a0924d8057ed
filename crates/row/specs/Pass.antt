-- What a pass over the columns of a row knows, and the list that it writes; inside the crate only.
use Rattle.std.specs.Prelude.{◌≡◌, Bool, false, List, ℕ, zero, suc, ◌*◌, ◌≤◌, length}
use Rattle.stroke.specs.Runs.{runs_of}
use Rattle.row.specs.declared.runs.Pass.{Pass}
use Rattle.row.specs.Answer.{listed}

-- the column before column i is black; none comes before the first
abbrev pub before : (ℕ → Bool) → ℕ → Bool
before f zero = false
before f (suc i) = f i

-- the columns before column i are passed
pub record PassedTo (f : ℕ → Bool) (i : ℕ) (p : Pass) : Type 0 where
  pub blackness : p.black ≡ before f i
  pub counts : p.count ≡ length (runs_of f i)

-- the list m is l with their runs, where l has room for them
abbrev pub Listed : (ℕ → Bool) → ℕ → List ℕ → List ℕ → Type 0
Listed f i l m = 2 * length (runs_of f i) ≤ length l → m ≡ listed (runs_of f i) l
