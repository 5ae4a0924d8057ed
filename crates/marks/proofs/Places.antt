-- Marks byte by byte.
use Rattle.std.proofs.Common.{◌≡◌, ℕ, List, [], ◌∷◌, ◌++◌, refl}
use Rattle.marks.specs.declared.Mark.{Mark}
use Rattle.marks.specs.Marks.{behind, past}

-- behind bytes, and more of them
pub past_append : (m : Mark) (a b : List ℕ) → past m (a ++ b) ≡ past (past m a) b
past_append m [] b = refl
past_append m (x ∷ a) b = past_append (behind m x) a b
