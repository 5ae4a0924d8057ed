-- The test is that of the definition.
use Rattle.std.proofs.Common.{sym}
use Rattle.std.specs.Prelude.{leb}
use borrow.Author.Tests.{le-leb, lt-leb}
use Rattle.integers.proofs.Tests.{false_and, and_false}
use Rattle.film_checks.proofs.Spans.{spans, no_span}
use Rattle.film_checks.proofs.strokes.span_of.Goals as goal
use Rattle.film_checks.proofs.strokes.span_of.Goals.{else-first-end-via-then-first-end+else-end-entries, else-first-end-via-else-first-end}

pub returns-then-end-entries : goal.returns-then-end-entries
returns-then-end-entries c =
    let a = c.args in
    spans a.starts.now a.entries.now a.k c.start-first.result c.start-end.result c.start-first.ensures c.start-end.ensures c.if-first-end.true (le-leb _ _ c.if-end-entries.true)

pub returns : goal.returns
returns c =
    let a = c.args in
    no_span a.starts.now a.entries.now a.k c.start-first.result c.start-end.result c.start-first.ensures c.start-end.ensures (elim c.else-first-end.branch [
      | else-first-end-via-then-first-end+else-end-entries w ↦ and_false (leb c.start-first.result c.start-end.result) _ (lt-leb _ _ w.if-end-entries.false)
      | else-first-end-via-else-first-end w ↦ sym (false_and _ _ (lt-leb _ _ w.if-first-end.false))
    ])
