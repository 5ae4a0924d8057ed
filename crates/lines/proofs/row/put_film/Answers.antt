-- " 1" or " 2".
use Rattle.std.proofs.Common.{◌∙◌}
use Rattle.lines.proofs.Pieces.{film_put}
use Rattle.lines.proofs.row.put_film.Goals as goal

pub returns-then-first : goal.returns-then-first
returns-then-first c = c.put.ensures ∙ film_put c.args.out.now c.args.at c.if-first.true

pub returns-else-first : goal.returns-else-first
returns-else-first c = c.put-else-first.ensures ∙ film_put c.args.out.now c.args.at c.if-first.false
