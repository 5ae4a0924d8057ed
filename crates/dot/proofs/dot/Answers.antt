-- The one stroke is taken, and its rows are document 01's.
use Rattle.std.proofs.Common.{◌≡◌, ℕ, List, ap, ◌∙◌}
use Rattle.limits.specs.declared.Verdict.{Verdict}
use Rattle.limits.specs.declared.Verdict.TheVariants.{Passed}
use Rattle.limits.specs.Refusal.{◌then◌}
use Rattle.checks.specs.Checks.{row_verdict}
use Rattle.checks.specs.Answer.{given}
use Rattle.pbm.specs.Pbm.{file_offer}
use Rattle.drawing.specs.Film.{band_of, band_put}
use Rattle.drawing.specs.Cases.{dot_rows, dot_drawing}
use Rattle.drawing.proofs.Dot.{dot_taken, dot_band}
use Rattle.dot.proofs.dot.Goals as goal

put : (b : List ℕ) → band_put dot_drawing 5 3 0 3 b ≡ given Passed (file_offer dot_rows b)
put b =
    ap (λ (v : Verdict). given (v then row_verdict 3 2) (file_offer (band_of dot_drawing 5 3 0 3) b)) dot_taken
    ∙ ap (λ (f : List ℕ). given Passed (file_offer f b)) dot_band

pub returns : goal.returns
returns c = c.put_band.ensures ∙ put c.args.out.now
