-- The chunk is passed in two parts, and the command's mark is the one between them, where it begins in this chunk.
use Rattle.std.proofs.Common.{◌≡◌, ap, ◌∙◌, length, arith, rules}
use Rattle.marks.specs.Marks.{past}
use Rattle.marks.proofs.Parts.{old_command, new_command}
use Rattle.marks.proofs.advance.Goals as goal

pub returns-then-is_empty : goal.returns-then-is_empty
returns-then-is_empty c =
    let s = c.split_at.ensures in
    let e : length c.split_at.result.1.now ≡ 0 = search rules in
    old_command c.args.m c.args.chunk.now c.args.start c.before-2.result c.before-2.ensures (c.past-here.ensures ∙ ap (past c.args.m.end) s.front)
    (c.past-end.ensures ∙ ap (past c.past-here.result) s.back) (omega (arith, s.back_len, e))

pub returns : goal.returns
returns c =
    let s = c.split_at.ensures in
    let e : ¬ (length c.split_at.result.1.now ≡ 0) = search rules in
    new_command c.args.m c.args.chunk.now c.args.start c.before-2.result c.before-2.ensures (c.past-here.ensures ∙ ap (past c.args.m.end) s.front)
    (c.past-end.ensures ∙ ap (past c.past-here.result) s.back) (λ h. e (omega (arith, s.back_len)))
