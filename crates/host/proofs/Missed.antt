-- A row that the path does not reach has nothing black, and so it has with a pen without corners, of any path. What is blackened alike is answered alike.
use Prim.Native.Nat.{ℕ}
use mathlib.Core.Path.{◌≡◌, sym, ap, ap₂, ◌∙◌}
use mathlib.Core.Bool.{true, false, cond}
use mathlib.Core.List.{List, [], ◌++◌}
use lib.ListN.{length, drop}
use lib.IntN.{ℤ, pos, ◌+ℤ◌, ◌-ℤ◌, ◌*ℤ◌}
use Rattle.limits.specs.Sizes.{pen_max, in_range}
use Rattle.limits.specs.declared.Verdict.{Verdict}
use Rattle.limits.specs.declared.Verdict.TheVariants.{Passed}
use Rattle.limits.specs.Refusal.{◌then◌}
use Rattle.limits.proofs.Verdicts.{then_both}
use Rattle.plane.specs.Point.{Pt}
use Rattle.ties.specs.Below.{below}
use Rattle.setting.specs.Setting.{Taken, Dx, Dy}
use Rattle.setting.proofs.Limits.{taken_iff}
use Rattle.pen.specs.declared.Built.{Built}
use Rattle.pen.specs.Answer.{pen_corners}
use Rattle.pen.specs.Polygon.{pen}
use Rattle.pen.proofs.Answers.{pen_built}
use Rattle.pen.proofs.Laid.{corners_back}
use Rattle.pen.proofs.Theorems.{pen_is_pen}
use Rattle.stroke.specs.Sweep.{path_points}
use Rattle.stroke.specs.Runs.{Run, black_at}
use Rattle.stroke.proofs.Runs.{runs_ext}
use Rattle.bits.specs.Bits.{packed_length}
use Rattle.bits.proofs.Bytes.{packed_ext}
use Rattle.reach.specs.Reach.{least_y, greatest_y}
use Rattle.reach.proofs.Heights.{none_under, none_over}
use Rattle.reach.proofs.Reached.{row_under, row_over}
use Rattle.reach.proofs.Cornerless.{cornerless_clear}
use Rattle.checks.specs.Checks.{path_verdict, raster_verdict, row_verdict, coordinate_from, coordinate_verdict, verdict}
use Rattle.checks.specs.Answer.{given}
use Rattle.outcome.specs.Outcome.{Outcome, told}
use Rattle.host.specs.declared.answer.Call.{Call}
use Rattle.host.specs.Host.{run_bytes_offer}
use Rattle.host.specs.Call.{runs_with, packed_with, call_with, built_corners, Clear, dot}

-- ---- a row that the path misses
module _ (c : Call) (t : Taken c.setting) (path : List ℤ) where
  -- the pen that is built is the setting's
  pub built_is : built_corners c ≡ pen c.setting
  built_is = ap (λ (b : Built). pen_corners b.pen) (pen_built c.setting ((taken_iff c.setting).1 t)) ∙ corners_back pen_max (pen c.setting)

  clear : ((x : ℕ) → black_at (pen c.setting) (path_points path) (pos c.row) (pos x) ≡ false) → Clear (built_corners c) c path
  clear h x = ap (λ (cs : List Pt). black_at cs (path_points path) (pos c.row) (pos x)) built_is ∙ h x

  pub missed_under : below (pos 16 *ℤ pos c.row) (least_y path -ℤ pos 8 *ℤ pos (Dy c.setting)) ≡ true → Clear (built_corners c) c path
  missed_under e = clear λ x.
      row_under (pen c.setting) (pos (Dx c.setting)) (pos (Dy c.setting)) (pen_is_pen c.setting t) path (pos c.row) (pos x) (least_y path) (none_under path) e

  pub missed_over : below (pos 16 *ℤ pos c.row) (greatest_y path +ℤ pos 8 *ℤ pos (Dy c.setting)) ≡ false → Clear (built_corners c) c path
  missed_over e = clear λ x.
      row_over (pen c.setting) (pos (Dx c.setting)) (pos (Dy c.setting)) (pen_is_pen c.setting t) path (pos c.row) (pos x) (greatest_y path) (none_over path) e

-- ---- the same row, the same answer
module _ (cs ds : List Pt) (c : Call) (v : Verdict) (p q : List ℤ) (b : List ℕ)
    (s : (x : ℕ) → black_at cs (path_points p) (pos c.row) (pos x) ≡ black_at ds (path_points q) (pos c.row) (pos x)) where
  runs_same : runs_with cs c v p b ≡ runs_with ds c v q b
  unfolding runs_with
  runs_same = ap (λ (rs : List Run). told (given v (run_bytes_offer rs b))) (runs_ext {n = c.columns} (λ x _. s x))

  packed_same : packed_with cs c v p b ≡ packed_with ds c v q b
  unfolding packed_with
  packed_same =
      ap (λ (bytes : List ℕ). told (given v (record { count = packed_length c.columns; space = length b; after = bytes ++ drop (packed_length c.columns) b; before = b })))
      (packed_ext {columns = c.columns} (λ x _. s x))

  call_same : call_with cs c v p b ≡ call_with ds c v q b
  call_same = ap₂ (λ (p r : Outcome). cond c.packed p r) packed_same runs_same

-- a clear row, and a pen without corners
pub call_clear : (cs : List Pt) (c : Call) (v : Verdict) (p q : List ℤ) (b : List ℕ) → Clear cs c p → call_with [] c v q b ≡ call_with cs c v p b
call_clear cs c v p q b h = call_same [] cs c v q p b (λ x. cornerless_clear q (pos c.row) (pos x) ∙ sym (h x))

-- what is checked of the raster and the row is the same of every path, and a dot passes the rest
pub dot_passes : (p : List ℤ) (columns rows j : ℕ) → verdict p columns rows j ≡ Passed → verdict dot columns rows j ≡ Passed
unfolding coordinate_from in_range
dot_passes p columns rows j e =
    let raster = raster_verdict columns rows in
    let row = row_verdict rows j in
    let a = then_both (path_verdict p) (raster then row then coordinate_verdict p) e in
    let r = then_both raster (row then coordinate_verdict p) a.1 in
    let k = then_both row (coordinate_verdict p) r.1 in
    ap₂ (λ (u v : Verdict). path_verdict dot then u then v then coordinate_verdict dot) r.0 k.0
