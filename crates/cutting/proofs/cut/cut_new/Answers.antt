-- The retained point lies on the new edge.
use Rattle.std.proofs.Common.{ℕ, ◌≤◌, sym, subst}
use Rattle.quarter.proofs.Cuts.{retained_le}
use Rattle.cutting.proofs.cut.cut_new.Goals as goal

pub overflow_sub-e : goal.overflow_sub-e
overflow_sub-e c = subst (λ (k : ℕ). k ≤ c.args.d) (sym c.retained-k.ensures) (retained_le _ _ _ _ _ _)
