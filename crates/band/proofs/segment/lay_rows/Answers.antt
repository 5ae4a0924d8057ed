-- The rows so far are laid over the bytes, and the flanks have come to the last of them.
use Prim.Native.Nat.{◌+◌, ◌-◌, ◌*◌}
use native.Mathlib.Nat.{le_refl, le_of_lt}
use native.Mathlib.Omega.{arith}
use mathlib.Core.Path.{◌≡◌, sym, ap, ap₂, ◌∙◌}
use lib.IntN.{ℤ}
use borrow.Author.Rules.{rules}
use mir.Syntax.{w64}
use mir.Val.{to_z, of_z}
use Rattle.bits.specs.Bits.{span, blackened}
use Rattle.flanks.specs.Flanks.{count_to}
use Rattle.band.specs.Rows.{risen_by}
use Rattle.band.proofs.Layers.{part_of}
use Rattle.band.proofs.Carried.{risen_none, risen_next, rows_at_first, one_row_more}
use Rattle.band.proofs.segment.lay_rows.Goals as goal

pub loop-row-init : goal.loop-row-init
loop-row-init c =
    let a = c.args in
    record {
      carried = sym (ap (risen_by a.count a.xs.now a.ys.now a.begun a.from) (omega arith) ∙ risen_none a.count a.xs.now a.ys.now a.begun a.from);
      laid = rows_at_first a.count a.xs.now a.ys.now a.begun a.from a.s a.bytes.now;
    }

pub lay_row-requires-clause-fits : goal.lay_row-requires-clause-fits
lay_row-requires-clause-fits c = (part_of c.loop-row.row c.args.to c.requires.part c.loop-row.auto.row (le_of_lt c.loop-row-test.true) (le_refl _)).placed

pub loop-row-preserved : goal.loop-row-preserved
loop-row-preserved c =
    let a = c.args in
    let row = c.loop-row.row in
    let l : to_z w64 (of_z w64 c.rise-f.result.left.edge.column) ≡ c.rise-f.result.left.edge.column = search rules in
    let r : to_z w64 (of_z w64 c.rise-f.result.right.edge.column) ≡ c.rise-f.result.right.edge.column = search rules in
    let place = 8 * (a.s.stride * (a.s.top - row)) in
    let stands = c.rise-f.ensures ∙ risen_next a.count a.xs.now a.ys.now a.begun a.from c.loop-row.f row c.loop-row.auto.row c.loop-row.invariant.carried in
    record {
      carried = stands ∙ ap (risen_by a.count a.xs.now a.ys.now a.begun a.from) (omega (arith, c.loop-row.auto.row));
      laid = c.lay_row.ensures
          ∙ ap₂ (λ (x y : ℤ). blackened (span (place + count_to a.s.columns x) (place + count_to a.s.columns y)) c.loop-row.bytes) l r
          ∙ one_row_more a.count a.xs.now a.ys.now a.begun a.from a.s c.requires.fits c.rise-f.result row (omega (arith, c.requires.part.inside, c.loop-row-test.true)) c.loop-row.auto.row stands
          c.loop-row.bytes a.bytes.now c.loop-row.invariant.laid;
    }
