-- Past the last row the engine stays; otherwise the columns between its flanks are written, and it goes up where there was room.
use Rattle.engine.proofs.StepCases.{step_past, step_written, stays, goes_up, past_number}
use Rattle.engine.proofs.step.Goals as goal

pub returns-in_default-clause-engine : goal.returns-in_default-clause-engine
returns-in_default-clause-engine c =
    let e = c.args.e in
    let checked = rw (c.from.ensures, c.from-2.ensures) at c.row_check-checked.ensures in
    let same = step_past e c.args.runs.now checked c.in_default.is c.report.ensures in
    stays e c.args.runs.now same (past_number e.rows e.row checked c.in_default.is c.report.ensures)

pub returns-then-answer-ne-DONE-clause-engine : goal.returns-then-answer-ne-DONE-clause-engine
returns-then-answer-ne-DONE-clause-engine c =
    let checked = rw (c.from.ensures, c.from-2.ensures) at c.row_check-checked.ensures in
    let same = step_written c.args.e c.args.runs.now checked c.in-Passed.is c.between.ensures c.write_cut-answer.ensures in
    stays c.args.e c.args.runs.now same c.if-answer-ne-DONE.true

pub returns-clause-engine : goal.returns-clause-engine
returns-clause-engine c =
    let checked = rw (c.from.ensures, c.from-2.ensures) at c.row_check-checked.ensures in
    let same = step_written c.args.e c.args.runs.now checked c.in-Passed.is c.between.ensures c.write_cut-answer.ensures in
    goes_up c.args.e c.args.runs.now same c.if-answer-ne-DONE.false c.next.ensures
