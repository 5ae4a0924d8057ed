-- The rows that are left out have nothing black; where there are no others, none has.
use Prim.Native.Nat.{ℕ, ◌+◌, ◌/◌, ◌≤◌, ◌<◌}
use native.Mathlib.Omega.{arith}
use native.Mathlib.Decide.{dec_le}
use mathlib.Core.Path.{◌≡◌, subst, ◌∙◌}
use mathlib.Core.Bool.{false}
use lib.IntN.{ℤ, pos, ◌+ℤ◌, ◌-ℤ◌, ◌*ℤ◌}
use mir.Syntax.{w64}
use Rattle.integers.proofs.Bound.{abs_le}
use Rattle.integers.proofs.Machine.{Is, num, known, call, of_nat, mul, sub, sub_fits, add, add_fits, bound}
use Rattle.integers.proofs.Words.{bits, ◌⊗◌, ◌⊖◌, ◌⊕◌}
use Rattle.setting.specs.Setting.{Dy}
use Rattle.setting.proofs.Limits.{box_high}
use Rattle.pen.specs.Polygon.{pen}
use Rattle.reach.specs.Reach.{least_y, greatest_y}
use Rattle.reach.proofs.Heights.{none_under, none_over, least_small, greatest_small}
use Rattle.band.specs.Rows.{path_black, Past}
use Rattle.band.proofs.Layers.{laid_none, laid_wider}
use Rattle.band.proofs.Reached.{clear_before, clear_past}
use Rattle.band.proofs.drawn.lay_drawn.Goals as goal
use Rattle.band.proofs.drawn.lay_drawn.Goals.{After-greatest_y, After-least_y, After-rows_past-from, After-rows_past-to, Start}

-- ---- half the pen's height, and how far down and up the path reaches
half_small : (s : Start) → (s.args.setting.w + 8) / 16 ≤ 32
unfolding Dy
half_small s = (box_high s.requires.taken).1

half : (s : Start) → Is w64 (pos 8 *ℤ pos (Dy s.args.setting)) (bits (pos 8) ⊗ ((s.args.setting.w + 8) / 16)) 256
unfolding Dy
half s = mul (num (pos 8) tt) (of_nat ((s.args.setting.w + 8) / 16) {a = 32} (half_small s) tt) tt

least : (c : After-least_y) → Is w64 (least_y c.args.path.now) (bits c.least_y.result) 262144
least c = call c.least_y.ensures (known (least_small c.args.path.now c.requires.ranged) tt)

lowest : (c : After-least_y) → Is w64 (least_y c.args.path.now -ℤ pos 8 *ℤ pos (Dy c.args.setting)) (bits c.least_y.result ⊖ (bits (pos 8) ⊗ ((c.args.setting.w + 8) / 16))) 262400
lowest c = sub (least c) (half c.before.before.before.before) tt

greatest : (c : After-greatest_y) → Is w64 (greatest_y c.args.path.now) (bits c.greatest_y.result) 262144
greatest c = call c.greatest_y.ensures (known (greatest_small c.args.path.now c.requires.ranged) tt)

highest : (c : After-greatest_y) → Is w64 (greatest_y c.args.path.now +ℤ pos 8 *ℤ pos (Dy c.args.setting)) (bits c.greatest_y.result ⊕ (bits (pos 8) ⊗ ((c.args.setting.w + 8) / 16))) 262400
highest c = add (greatest c) (half c.before.before.before.before.before.before.before) tt

-- ---- the rows that have something black lie between
first_past : (c : After-rows_past-from) → Past (least_y c.args.path.now -ℤ pos 8 *ℤ pos (Dy c.args.setting)) c.args.first (c.args.s.top + 1) c.rows_past-from.result
first_past c =
    subst (λ (y : ℤ). Past y c.args.first (c.args.s.top + 1) c.rows_past-from.result) (lowest (record { before = c.before.before.before; type_inv = record { bytes = c.type_inv.bytes } })).reads c.rows_past-from.ensures

last_past : (c : After-rows_past-to) → Past (greatest_y c.args.path.now +ℤ pos 8 *ℤ pos (Dy c.args.setting)) c.args.first (c.args.s.top + 1) c.rows_past-to.result
last_past c =
    subst (λ (y : ℤ). Past y c.args.first (c.args.s.top + 1) c.rows_past-to.result) (highest (record { before = c.before.before.before; type_inv = record { bytes = c.type_inv.bytes } })).reads c.rows_past-to.ensures

none_before : (c : After-rows_past-to) → let a = c.args in
    (j x : ℕ) → a.first ≤ j → j < c.rows_past-from.result → path_black (pen a.setting) a.path.now j x ≡ false
none_before c =
    clear_before c.requires.taken c.args.path.now (least_y c.args.path.now) c.args.first (c.args.s.top + 1) (none_under c.args.path.now) (first_past (record { before = c.before.before.before.before; type_inv = record { bytes = c.type_inv.bytes } }))

none_past : (c : After-rows_past-to) → let a = c.args in
    (j x : ℕ) → c.rows_past-to.result ≤ j → j < a.s.top + 1 → path_black (pen a.setting) a.path.now j x ≡ false
none_past c =
    clear_past c.requires.taken c.args.path.now (greatest_y c.args.path.now) c.args.first (c.args.s.top + 1) (none_over c.args.path.now) (last_past c)

pub overflow_sub-least_y : goal.overflow_sub-least_y
overflow_sub-least_y c = sub_fits (least c) (half (goal.at.overflow_sub-least_y c).Start) tt

pub rows_past-from-requires-clause-small : goal.rows_past-from-requires-clause-small
rows_past-from-requires-clause-small c = abs_le (omega arith) (bound (lowest (goal.at.rows_past-from-requires-clause-small c).After-least_y))

pub overflow_add-greatest_y : goal.overflow_add-greatest_y
overflow_add-greatest_y c = add_fits (greatest c) (half (goal.at.overflow_add-greatest_y c).Start) tt

pub rows_past-to-requires-clause-small : goal.rows_past-to-requires-clause-small
rows_past-to-requires-clause-small c = abs_le (omega arith) (bound (highest (goal.at.rows_past-to-requires-clause-small c).After-greatest_y))

pub returns-then-from-to : goal.returns-then-from-to
returns-then-from-to c =
    let a = c.args in
    let f = first_past (goal.at.returns-then-from-to c).After-rows_past-from in
    c.lay_pen.ensures
    ∙ laid_wider (path_black (pen a.setting) a.path.now) a.s a.first c.rows_past-from.result c.rows_past-to.result (a.s.top + 1) a.bytes.now
    f.after (last_past (goal.at.returns-then-from-to c).After-rows_past-to).before (λ j x h k _. none_before (goal.at.returns-then-from-to c).After-rows_past-to j x h k) (λ j x _ h k. none_past (goal.at.returns-then-from-to c).After-rows_past-to j x h k)

pub returns-else-from-to : goal.returns-else-from-to
returns-else-from-to c =
    let a = c.args in
    laid_none (path_black (pen a.setting) a.path.now) a.s a.first (a.s.top + 1) a.bytes.now (λ j x h k.
    elim (dec_le c.rows_past-to.result j) [
      | yes l ↦ none_past (goal.at.returns-else-from-to c).After-rows_past-to j x l k
      | no l ↦ none_before (goal.at.returns-else-from-to c).After-rows_past-to j x h (omega (arith, c.if-from-to.false))
    ])
