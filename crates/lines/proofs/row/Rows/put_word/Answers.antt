-- A word that is the same in both rows has no lines.
use Rattle.std.proofs.Common.{◌*◌, sym, ◌∙◌, arith}
use Rattle.difference.proofs.SameWords.{same_word_columns}
use Rattle.lines.proofs.Columns.{no_columns}
use Rattle.lines.proofs.row.Rows.put_word.Goals as goal

pub returns-then-same_word : goal.returns-then-same_word
returns-then-same_word c =
    let s = c.args.self.now in
    let a = c.args in
    no_columns s.a.now s.b.now s.digits.now a.out.now a.at (64 * a.i) 64 (omega arith)
    (λ x low high. same_word_columns s.a.now s.b.now (8 * a.i) x s.first_bytes s.second_bytes (sym c.same_word.ensures ∙ c.if-same_word.true) (omega arith) (omega arith))
