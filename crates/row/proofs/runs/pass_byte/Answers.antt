-- A clear byte leaves the runs, and so the list.
use Rattle.std.proofs.Common.{◌≡◌, refl, subst, List, length, ◌*◌, ◌≤◌}
use Rattle.stroke.specs.Runs.{Run}
use Rattle.row.specs.Answer.{listed}
use Rattle.row.proofs.Pass.{clear_runs, passed_clear}
use Rattle.row.proofs.runs.pass_byte.Goals as goal

pub returns-then-bytes-k-eq0-clause-passed : goal.returns-then-bytes-k-eq0-clause-passed
returns-then-bytes-k-eq0-clause-passed g c = passed_clear c.args.bytes.now c.args.k c.if-bytes-k-eq0.true c.requires.passed refl

pub returns-then-bytes-k-eq0-clause-written : goal.returns-then-bytes-k-eq0-clause-written
returns-then-bytes-k-eq0-clause-written g c = λ w.
    let l = c.args.runs.now in
    subst (λ (rs : List Run). 2 * length rs ≤ length l → l ≡ listed rs l) (clear_runs c.args.bytes.now c.args.k c.if-bytes-k-eq0.true) (c.requires.held w)
