-- The header of its sizes is the file's.
use Rattle.std.proofs.Common.{◌≡◌, ℕ, List, ap, ◌∙◌}
use Rattle.limits.specs.declared.Verdict.TheVariants.{Passed}
use Rattle.checks.specs.Answer.{given}
use Rattle.pbm.specs.Pbm.{file_offer, header_put}
use Rattle.drawing.specs.Cases.{dot_header}
use Rattle.drawing.proofs.Dot.{dot_header_lem}
use Rattle.dot.proofs.header.Goals as goal

put : (b : List ℕ) → header_put 5 3 b ≡ given Passed (file_offer dot_header b)
put b = ap (λ (h : List ℕ). given Passed (file_offer h b)) dot_header_lem

pub returns : goal.returns
returns c = c.put_header.ensures ∙ put c.args.out.now
