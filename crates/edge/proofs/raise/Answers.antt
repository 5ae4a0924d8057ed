-- Small numbers have sums that fit, and the test of the sum is the definition's.
use Rattle.std.proofs.Common.{◌≡◌, sym, ◌∙◌, true, ◌+◌, ◌^◌, pos, ◌+ℤ◌, w64}
use Rattle.integers.proofs.Machine.{Is, known, num, add, add_fits, sub, sub_fits, lt_z_at}
use Rattle.integers.proofs.Words.{bits, ◌⊕◌}
use Rattle.edge.specs.declared.Edge.{Edge}
use Rattle.edge.specs.Edge.{fair}
use Rattle.edge.proofs.Bounds.{Small, fair_small}
use Rattle.edge.proofs.Cases.{raised_unfair, raised_kept, raised_over}
use Rattle.edge.proofs.raise.Goals as goal

-- ---- where the edge is fair
module _ (edge : Edge) (passed : fair edge ≡ true) where
  small : Small edge
  small = fair_small edge passed

  by : Is w64 edge.by (bits edge.by) (2 ^ 40)
  by = known small.by_small tt

  old_rest : Is w64 edge.rest (bits edge.rest) (2 ^ 40)
  old_rest = known small.rest_small tt

  old_column : Is w64 edge.column (bits edge.column) (2 ^ 40)
  old_column = known small.column_small tt

  more : Is w64 edge.more (bits edge.more) (2 ^ 40)
  more = known small.more_small tt

  step : Is w64 edge.step (bits edge.step) (2 ^ 40)
  step = known small.step_small tt

  rest : Is w64 (edge.rest +ℤ edge.more) (bits edge.rest ⊕ bits edge.more) (2 ^ 40 + 2 ^ 40)
  rest = add old_rest more tt

  column : Is w64 (edge.column +ℤ edge.step) (bits edge.column ⊕ bits edge.step) (2 ^ 40 + 2 ^ 40)
  column = add old_column step tt

one : Is w64 (pos 1) (bits (pos 1)) 1
one = num (pos 1) tt

-- ---- the goals
pub returns-then-not-fair : goal.returns-then-not-fair
returns-then-not-fair c = sym (raised_unfair c.args.e (sym c.fair.ensures ∙ c.if-not-fair.true))

pub overflow_add-rest : goal.overflow_add-rest
overflow_add-rest c = let p = sym c.fair.ensures ∙ c.if-not-fair.false in add_fits (old_rest c.args.e p) (more c.args.e p) tt

pub overflow_add-column : goal.overflow_add-column
overflow_add-column c = let p = sym c.fair.ensures ∙ c.if-not-fair.false in add_fits (old_column c.args.e p) (step c.args.e p) tt

pub returns-then-rest-e : goal.returns-then-rest-e
returns-then-rest-e c =
    let e = c.args.e in
    let p = sym c.fair.ensures ∙ c.if-not-fair.false in
    rw ((column e p).reads, (rest e p).reads, (step e p).reads, (more e p).reads, (by e p).reads) (sym (raised_kept e p (sym (lt_z_at (rest e p) (by e p)) ∙ c.if-rest-e.true)))

pub overflow_add-result : goal.overflow_add-result
overflow_add-result c = let p = sym c.fair.ensures ∙ c.if-not-fair.false in add_fits (column c.args.e p) one tt

pub overflow_sub-result : goal.overflow_sub-result
overflow_sub-result c = let p = sym c.fair.ensures ∙ c.if-not-fair.false in sub_fits (rest c.args.e p) (by c.args.e p) tt

pub returns : goal.returns
returns c =
    let e = c.args.e in
    let p = sym c.fair.ensures ∙ c.if-not-fair.false in
    rw ((add (column e p) one tt).reads, (sub (rest e p) (by e p) tt).reads, (step e p).reads, (more e p).reads, (by e p).reads)
    (sym (raised_over e p (sym (lt_z_at (rest e p) (by e p)) ∙ c.if-rest-e.false)))
