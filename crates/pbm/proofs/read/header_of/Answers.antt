-- 15 bytes are room for every header: so it is refused only for its sizes, and else the text is compared with it.
use Rattle.std.proofs.Common.{◌≡◌, ◌∙◌, replicate, sym, ap, arith, List, ℕ}
use Rattle.pbm.specs.declared.read.Header.TheVariants.{Sound}
use Rattle.pbm.specs.Pbm.{header}
use Rattle.pbm.specs.Reading.{starts_with}
use Rattle.pbm.proofs.Pieces.{header_refused, Stands, header_stands}
use Rattle.pbm.proofs.Reading.{starts_is}
use Rattle.pbm.proofs.Sound.{no_sizes, other_start, header_there}
use Rattle.pbm.proofs.read.header_of.Goals as goal
use Rattle.pbm.proofs.read.header_of.Goals.{After-starts_with}

-- what was put, and what the comparison says
stands : (c : After-starts_with) → Stands c.args.columns c.args.rows c.put_header-answer.result c.put_header-answer.new.out
stands c = header_stands c.args.columns c.args.rows (replicate 15 0) c.put_header-answer.ensures c.if-answer-ne-DONE.false

compared : (c : After-starts_with) → c.starts_with.result ≡ starts_with (header c.args.columns c.args.rows) c.args.text.now
compared c = c.starts_with.ensures.value ∙ starts_is _ _ ∙ ap (λ (h : List ℕ). starts_with h c.args.text.now) (stands c).text

pub returns-then-answer-ne-DONE : goal.returns-then-answer-ne-DONE
returns-then-answer-ne-DONE c =
    let a = c.args in
    sym (no_sizes a.columns a.rows a.text.now (header_refused a.columns a.rows (replicate 15 0) (omega arith) c.put_header-answer.ensures c.if-answer-ne-DONE.true))

pub returns-then-not-starts_with : goal.returns-then-not-starts_with
returns-then-not-starts_with c =
    let a = c.args in
    sym (other_start a.columns a.rows a.text.now (sym (compared (goal.at.returns-then-not-starts_with c).After-starts_with) ∙ c.if-not-starts_with.true))

pub returns : goal.returns
returns c =
    let a = c.args in
    let s = (goal.at.returns c).After-starts_with in
    ap (Sound a.columns a.rows) (stands s).count ∙ sym (header_there a.columns a.rows a.text.now (stands s).sizes (sym (compared s) ∙ c.if-not-starts_with.false))
