-- In every turn what is left of the chunk gives what the whole chunk gives.
use Rattle.std.proofs.Common.{ℕ, List, ℤ, length, sym, ap, ◌∙◌, arith}
use Rattle.gerber.specs.declared.Obeyed.{Obeyed}
use Rattle.gerber.specs.Reader.{Answered, answer}
use Rattle.gerber.proofs.Runs.{some_read, all_read, again, ended, used_up}
use Rattle.gerber.proofs.chunk.feed_on.Goals as goal

abbrev with_used : Obeyed → List ℤ → ℕ → Answered
with_used o p n = record { fed = record { reader = o.reader; given = o.given; used = n }; entries = p }

pub returns-then-is_end : goal.returns-then-is_end
returns-then-is_end c =
    let l = c.loop-i in
    let chunk = c.args.chunk.now in
    ap (λ (n : ℕ). with_used c.act-one.result c.act-one.new.path n) c.used_of.ensures ∙
    ended c.args.t l.reader l.path chunk l.i c.loop-i-test.true c.run-scanned.ensures
    c.act-one.ensures
    (sym c.if-is_end.ensures)
    (length chunk) ∙
    ap (answer (length chunk)) l.invariant.1

pub loop-i-smaller : goal.loop-i-smaller
loop-i-smaller c =
    let l = c.loop-i in
    omega (arith, some_read c.args.t l.reader l.path c.args.chunk.now l.i c.loop-i-test.true c.run-scanned.ensures)

pub loop-i-preserved : goal.loop-i-preserved
loop-i-preserved c =
    let l = c.loop-i in
    let chunk = c.args.chunk.now in (
      all_read c.args.t l.reader l.path chunk l.i c.loop-i-test.true c.run-scanned.ensures,
      again c.args.t l.reader l.path chunk l.i c.loop-i-test.true c.run-scanned.ensures
          c.act-one.ensures
          (sym c.if-is_end.ensures) ∙
          l.invariant.1,
    )

pub returns : goal.returns
returns c = used_up _ _ _ _ _ c.loop-i.invariant.0 (omega arith) ∙ ap (answer _) c.loop-i.invariant.1
