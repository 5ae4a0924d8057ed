-- In every turn what is left to read gives what the whole text gives.
use Rattle.std.proofs.Common.{◌≡◌, drop, Ok}
use Rattle.inputs.specs.Number.{read_on}
use Rattle.inputs.proofs.read_number.Given as goal

abbrev pub invariant-loop-b : goal.invariant-loop-b
invariant-loop-b l = read_on (Ok l.n) (drop l.b-index l.text) ≡ read_on (Ok 0) l.text
