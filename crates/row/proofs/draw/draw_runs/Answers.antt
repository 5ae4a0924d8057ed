-- What the cuts come to decides how the row is drawn; each way gives the row's runs.
use Rattle.std.proofs.Common.{◌∙◌, refl, sym, ap, arith, List, [], ℕ}
use Rattle.limits.specs.declared.Verdict.TheVariants.{Passed}
use Rattle.plane.specs.Point.{corners}
use Rattle.stroke.specs.Runs.{Run}
use Rattle.stroke.specs.Sweep.{path_points}
use Rattle.cuts.proofs.Together.{once_in, twice_in}
use Rattle.checks.specs.Answer.{Result, given}
use Rattle.checks.proofs.Given.{room_left}
use Rattle.row.specs.Answer.{runs_offer}
use Rattle.row.proofs.Drawn.{runs_untouched, runs_touched, runs_twice}
use Rattle.row.proofs.draw.draw_runs.Goals as goal

-- the call for other runs
abbrev offered : List ℕ → List Run → Result ℕ
offered l rs = given Passed (runs_offer rs l)

pub write_single-requires : goal.write_single-requires
write_single-requires c =
    let a = c.args in
    let few = c.requires.size.few in
    let i = once_in (corners a.count a.xs.now a.ys.now) (path_points a.path.now) a.columns a.row c.requires.size _ (sym c.touching.ensures ∙ c.in-One.is) in
    (omega (arith, i, few), omega (arith, i, few))

pub write_two-requires-clause-first : goal.write_two-requires-clause-first
write_two-requires-clause-first c =
    let a = c.args in
    let few = c.requires.size.few in
    let b = twice_in (corners a.count a.xs.now a.ys.now) (path_points a.path.now) a.columns a.row c.requires.size _ _ (sym c.touching.ensures ∙ c.in-Two.is) in
    (omega (arith, b.0, few), omega (arith, b.0, few))

pub write_two-requires-clause-second : goal.write_two-requires-clause-second
write_two-requires-clause-second c =
    let a = c.args in
    let few = c.requires.size.few in
    let b = twice_in (corners a.count a.xs.now a.ys.now) (path_points a.path.now) a.columns a.row c.requires.size _ _ (sym c.touching.ensures ∙ c.in-Two.is) in
    (omega (arith, b.1, few), omega (arith, b.1, few))

pub returns-in-Untouched : goal.returns-in-Untouched
returns-in-Untouched c =
    let a = c.args in
    room_left (runs_offer [] a.runs.now) (omega arith) c.done.ensures refl
    ∙ ap (offered a.runs.now) (sym (runs_untouched (corners a.count a.xs.now a.ys.now) a.path.now a.columns a.row c.requires (sym c.touching.ensures ∙ c.in-Untouched.is)))

pub returns-in-One : goal.returns-in-One
returns-in-One c =
    let a = c.args in
    c.write_single.ensures
    ∙ ap (offered a.runs.now) (sym (runs_touched (corners a.count a.xs.now a.ys.now) a.path.now a.columns a.row c.requires _ (sym c.touching.ensures ∙ c.in-One.is)))

pub returns-in-Two : goal.returns-in-Two
returns-in-Two c =
    let a = c.args in
    c.write_two.ensures
    ∙ ap (offered a.runs.now) (sym (runs_twice (corners a.count a.xs.now a.ys.now) a.path.now a.columns a.row c.requires _ _ (sym c.touching.ensures ∙ c.in-Two.is)))
