-- The bytes start clear, so their black columns are those of the cuts; none lies outside their bounds.
use Rattle.std.proofs.Common.{◌∙◌, ap, arith, List, ℕ, ◌≤◌}
use Rattle.limits.specs.Sizes.{Size}
use Rattle.limits.specs.declared.Verdict.TheVariants.{Passed}
use Rattle.plane.specs.Point.{corners}
use Rattle.stroke.specs.Runs.{Run}
use Rattle.stroke.specs.Sweep.{path_points}
use Rattle.bits.specs.Bits.{packed_length}
use Rattle.cuts.proofs.Together.{laid_bounded}
use Rattle.checks.specs.Answer.{given}
use Rattle.row.specs.Answer.{runs_offer}
use Rattle.row.proofs.Drawn.{runs_bits}
use Rattle.row.proofs.BoundedRuns.{runs_end}
use Rattle.row.proofs.draw.several_runs.Goals as goal

-- the bytes are enough for any raster
enough : {columns : ℕ} → Size columns → packed_length columns ≤ 2048
enough s = omega (arith, s.few)

pub write_bits-requires-clause-in_bytes : goal.write_bits-requires-clause-in_bytes
write_bits-requires-clause-in_bytes c =
    let a = c.args in
    let s = c.requires.size in
    let b = laid_bounded (corners a.count a.xs.now a.ys.now) (path_points a.path.now) a.columns a.row s 2048 (enough s) c.lay_over-b.ensures in
    omega (arith, b.1, s.few, c.lay_over-b.auto.bytes)

pub write_bits-requires-clause-in_raster : goal.write_bits-requires-clause-in_raster
write_bits-requires-clause-in_raster c =
    let a = c.args in
    let s = c.requires.size in
    let b = laid_bounded (corners a.count a.xs.now a.ys.now) (path_points a.path.now) a.columns a.row s 2048 (enough s) c.lay_over-b.ensures in
    omega (arith, b.1, s.few)

pub write_bits-requires-clause-bounded : goal.write_bits-requires-clause-bounded
write_bits-requires-clause-bounded c =
    let a = c.args in
    let s = c.requires.size in
    (laid_bounded (corners a.count a.xs.now a.ys.now) (path_points a.path.now) a.columns a.row s 2048 (enough s) c.lay_over-b.ensures).0

pub returns : goal.returns
returns c =
    let a = c.args in
    let s = c.requires.size in
    let cs = corners a.count a.xs.now a.ys.now in
    let b = laid_bounded cs (path_points a.path.now) a.columns a.row s 2048 (enough s) c.lay_over-b.ensures in
    c.write_bits.ensures
    ∙ ap (λ (rs : List Run). given Passed (runs_offer rs a.runs.now))
    (runs_end b.0 a.columns b.1 ∙ runs_bits cs a.path.now a.columns a.row c.requires 2048 (enough s) c.lay_over-b.ensures)
