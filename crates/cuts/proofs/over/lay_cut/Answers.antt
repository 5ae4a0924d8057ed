-- A cut without columns leaves the bytes.
use Rattle.std.proofs.Common.{◌∙◌, sym, ap}
use Rattle.std.specs.Prelude.{Option}
use Rattle.bits.specs.Bits.{blackened}
use Rattle.cuts.specs.Cuts.{in_cut}
use Rattle.cuts.specs.declared.cut.Cut.{Cut}
use Rattle.cuts.proofs.Laid.{cut_none}
use Rattle.cuts.proofs.over.lay_cut.Goals as goal

pub returns-in_default : goal.returns-in_default
returns-in_default c = let b = c.args.bytes.now in cut_none b ∙ ap (λ (d : Option Cut). blackened (λ x. in_cut x d) b) (sym c.in_default.is)
