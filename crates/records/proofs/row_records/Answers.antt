-- What the plain call left in the list of numbers is what `write` needs, and the records that it then writes are those of the call (`fills` of proofs/Plain).
use Rattle.std.proofs.Common.{◌≡◌, ◌∙◌, ℕ, arith, ap, List, length}
use Rattle.std.proofs.Math.ListN.{replicate, length-replicate}
use Rattle.limits.specs.Sizes.{entries_max}
use Rattle.records.specs.declared.Run.{Run}
use Rattle.records.specs.Records.{records_call}
use Rattle.records.proofs.Plain.{Fills, fills}
use Rattle.records.proofs.row_records.Goals as goal
use Rattle.records.proofs.row_records.Goals.{After-flat_runs-answer}

-- the list of numbers is as long as a path can be
long : length (replicate {A = ℕ} entries_max 0) ≡ entries_max
long = length-replicate {A = ℕ} entries_max 0

-- where the plain call has answered
filled : (c : After-flat_runs-answer) → let a = c.args in
    Fills a.out.now c.flat_runs-answer.new.list c.flat_runs-answer.result (records_call a.table a.number a.path.now a.columns a.rows a.row a.out.now)
filled c =
    let a = c.args in
    fills a.table a.number a.path.now a.columns a.rows a.row a.out.now (replicate {A = ℕ} entries_max 0) c.flat_runs-answer.new.list c.flat_runs-answer.result
    long c.flat_runs-answer.ensures

pub write-requires-clause-numbers : goal.write-requires-clause-numbers
write-requires-clause-numbers c =
    let f = filled (goal.at.write-requires-clause-numbers c).After-flat_runs-answer in
    omega (arith, f.list, c.flat_runs-answer.auto.list, long)

pub write-requires-clause-records : goal.write-requires-clause-records
write-requires-clause-records c = (filled (goal.at.write-requires-clause-records c).After-flat_runs-answer).room

pub returns : goal.returns
returns c =
    let a = c.flat_runs-answer.result in
    ap (λ (o : List Run). record { answer = a; list = o }) c.write.ensures ∙ (filled (goal.at.returns c).After-flat_runs-answer).same
