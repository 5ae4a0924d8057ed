-- By where the first row past the height lies: at `from` or before it, among the rows, or at `to` or further up.
use mathlib.Core.Path.{sym, subst}
use Prim.Native.Nat.{◌^◌}
use lib.Dec.{le→leb}
use lib.IntN.{ℤ, pos}
use lib.Signed.{le_z_yes}
use mir.Syntax.{w64}
use Rattle.integers.specs.Orders.{◌≼◌, ◌≺◌}
use Rattle.integers.proofs.Ring.{ring, reify}
use native.Mathlib.Omega.{arith}
use Rattle.integers.proofs.Machine.{Is, known, rebound, le_yes, le_no, lt_yes, lt_no, to_nat}
use Rattle.integers.proofs.Words.{bits}
use Rattle.flanks.proofs.Numbers.{number16}
use Rattle.band.specs.Rows.{FirstPast, Past}
use Rattle.band.proofs.PastRows.{past_all, past_none, past_some, among}
use Rattle.band.proofs.past.rows_past.Goals as goal
use Rattle.band.proofs.past.rows_past.Goals.{After-first_past-row, Else-row-from, Then-row-to}

first : (c : After-first_past-row) → Is w64 c.first_past-row.result (bits c.first_past-row.result) (2 ^ 25)
first c = known c.first_past-row.ensures.small tt

first_of : (c : After-first_past-row) → FirstPast c.args.y c.first_past-row.result
first_of c = subst (λ (z : ℤ). FirstPast z c.first_past-row.result) (known {w = w64} c.requires.small tt).reads c.first_past-row.ensures.first

-- past `from`
after : (c : Else-row-from) → pos c.args.from ≺ c.first_past-row.result
after c = le_no (first c.before) (number16 c.ranges.from) c.if-row-from.false

-- and before `to`
module _ (c : Then-row-to) where
  ahead : c.first_past-row.result ≺ pos c.args.to
  ahead = lt_yes (first c.before.before) (number16 c.ranges.to) c.if-row-to.true

  row : Is w64 c.first_past-row.result (bits c.first_past-row.result) 65535
  row = rebound (among c.args.from c.args.to c.first_past-row.result (after c.before) ahead c.ranges.to.fits) (first c.before.before)

  natural : pos 0 ≼ c.first_past-row.result
  natural = low (pos c.args.from) c.first_past-row.result (after c.before) nonneg
    where
      low : (a r : ℤ) → a ≺ r → pos 0 ≼ a → pos 0 ≼ r
      low = ring 2 _ λ ρ. simp (reify, ρ) (omega arith)

      nonneg : pos 0 ≼ pos c.args.from
      nonneg = le_z_yes (le→leb 0 c.args.from (omega arith))

pub returns-then-row-from : goal.returns-then-row-from
returns-then-row-from c =
    past_all (first_of (goal.at.returns-then-row-from c).After-first_past-row) c.requires.ordered (le_yes (first (goal.at.returns-then-row-from c).After-first_past-row) (number16 c.ranges.from) c.if-row-from.true)

pub returns-then-row-to : goal.returns-then-row-to
returns-then-row-to c =
    subst (Past c.args.y c.args.from c.args.to) (sym (to_nat (row c))) (past_some c.first_past-row.result (first_of (goal.at.returns-then-row-to c).After-first_past-row) (after (goal.at.returns-then-row-to c).Else-row-from) (ahead c))

pub returns : goal.returns
returns c =
    past_none (first_of (goal.at.returns c).After-first_past-row) c.requires.ordered (lt_no (first (goal.at.returns c).After-first_past-row) (number16 c.ranges.to) c.if-row-to.false)
