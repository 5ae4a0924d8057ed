-- The quotient of step 4: its divisor is not 0.
use Rattle.std.proofs.Common.{ℕ, ◌*◌, ◌≤◌, sym, subst, arith}
use native.Mathlib.Nat.{one-le-mul}
use Rattle.quarter.proofs.Most.{norm_least}
use Rattle.quarter.specs.Cutting.{retained}
use Rattle.cutting.proofs.cut.retained.Goals as goal

pub nonzero_div-above : goal.nonzero_div-above
nonzero_div-above c =
    let some : 1 ≤ c.args.u * c.norm-n.result = one-le-mul c.requires.rightward
    (subst (λ (k : ℕ). 1 ≤ k) (sym c.norm-n.ensures.norm) (norm_least c.requires.setting c.args.v c.requires.rightward)) in
    omega arith

pub returns : goal.returns
unfolding retained
returns c = rw (c.min_u64.ensures, c.minus-above.ensures, c.norm-n.ensures.norm)
