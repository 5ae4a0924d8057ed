-- What `build` answers can be encoded.
use Rattle.std.proofs.Common.{sym, subst}
use Rattle.try_pens.specs.Answer.{Encodable}
use Rattle.try_pens.proofs.Built.{encodable}
use Rattle.try_pens.proofs.one.Goals as goal

pub encode-n-requires-clause-fits : goal.encode-n-requires-clause-fits
encode-n-requires-clause-fits c = subst Encodable (sym c.build-b.ensures) (encodable _)
