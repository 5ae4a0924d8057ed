-- The row at the height or the last one under it, and the rule asked of it.
use mathlib.Core.Path.{◌≡◌, sym, ap₂, ◌∙◌}
use Prim.Native.Nat.{◌^◌}
use lib.IntN.{pos, ◌*ℤ◌}
use mir.Syntax.{w64}
use Rattle.integers.specs.Floor.{floor_div}
use Rattle.integers.proofs.Machine.{Is, known, num, add, mul, floor, at_return}
use Rattle.integers.proofs.Words.{bits}
use Rattle.ties.specs.Below.{below}
use Rattle.band.specs.Rows.{FirstPast}
use Rattle.band.proofs.PastRows.{first_next, first_here}
use Rattle.band.proofs.past.first_past.Goals as goal
use Rattle.band.proofs.past.first_past.Goals.{After-below, After-floor_div-row, Start}

y : (s : Start) → Is w64 s.args.y (bits s.args.y) (2 ^ 24)
y s = known s.requires tt

row : (c : After-floor_div-row) → Is w64 (floor_div c.args.y (pos 16)) (bits c.floor_div-row.result) (2 ^ 24)
row c = floor (y c.before) (num (pos 16) tt) c.floor_div-row.ensures

-- what the rule answers of it
asked : (c : After-below) → let z = c.args.y in c.below.result ≡ below (pos 16 *ℤ floor_div z (pos 16)) z
asked c =
    c.below.ensures ∙ ap₂ below (mul (num (pos 16) tt) (row c.before) tt).reads (y c.before.before).reads

pub returns-then-below-clause-first : goal.returns-then-below-clause-first
returns-then-below-clause-first c =
    let z = c.args.y in
    let at = goal.at.returns-then-below-clause-first c in
    at_return (FirstPast z) (add (row at.After-floor_div-row) (num (pos 1) tt) tt) (first_next z (sym (asked at.After-below) ∙ c.if-below.true))

pub returns-clause-first : goal.returns-clause-first
returns-clause-first c =
    let z = c.args.y in
    let at = goal.at.returns-clause-first c in
    at_return (FirstPast z) (row at.After-floor_div-row) (first_here z (sym (asked at.After-below) ∙ c.if-below.false))
