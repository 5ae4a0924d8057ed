-- Demand 3: what the calls report is what the crate stroke counts.
use Prim.Native.Nat.{ℕ, zero, suc, ◌+◌, ◌≤◌, ◌<◌}
use native.Mathlib.Omega.{arith}
use mathlib.Core.Path.{◌≡◌, refl, sym, ap, subst, ◌∙◌}
use mathlib.Core.Logic.{inl, inr, ◌↔◌}
use mathlib.Core.List.{List, [], ◌∷◌}
use lib.Dec.{leb→le, le→leb, lt→ltb}
use lib.Signed.{le_z_yes, lt_z_yes}
use lib.IntN.{ℤ, pos, negsuc, neg_ℤ, ◌+ℤ◌, ◌-ℤ◌, ◌*ℤ◌}
use Rattle.integers.specs.Orders.{◌≼◌}
use Rattle.integers.proofs.Ring.{ring, reify}
use Rattle.integers.proofs.Order.{le_antisymm}
use Rattle.integers.proofs.Count.{number_iff}
use Rattle.plane.specs.Point.{Pt}
use Rattle.plane.specs.Polygon.{dot, PenLaws}
use Rattle.setting.specs.Setting.{Dx, Dy}
use Rattle.pen.proofs.Theorems.{pen_is_pen}
use Rattle.stroke.specs.Sweep.{centre, path_points}
use Rattle.stroke.specs.Black.{BlackPath}
use Rattle.stroke.specs.Runs.{Run, holds, Covers, Longest}
use Rattle.stroke.specs.Weight.{InRows, offset}
use Rattle.stroke.proofs.Corners.{furthest_bound, furthest_corner}
use Rattle.stroke.proofs.Totals.{total, CoversZ}
use Rattle.stroke.proofs.Theorems.{runs_longest}
use Rattle.stroke.proofs.Answers.{rows_total, column_covered}
use Rattle.demands.specs.Reports.{Reports}
use Rattle.demands.specs.Demand2.{Pens}
use Rattle.demands.specs.Demand3.{Greatest, sum_of, RunsHold, CoversColumn, LevelRows}
use Rattle.demands.proofs.Reported.{reports_is}

-- the laws of a pen of some setting
pub pens_laws : {cs : List Pt} (p : Pens cs) → PenLaws cs (pos (Dx p.setting)) (pos (Dy p.setting))
pens_laws p = subst (λ (cs : List Pt). PenLaws cs (pos (Dx p.setting)) (pos (Dy p.setting))) p.same (pen_is_pen p.setting p.taken)

-- what is reported of a row are its longest runs
pub reports_runs : {cs : List Pt} → Pens cs → {path : List ℤ} {columns rows j : ℕ} {rs : List Run} → Reports cs path columns rows j rs →
    Longest (λ x. BlackPath cs (path_points path) (centre (pos x) (pos j))) columns rs
reports_runs {cs} p {path} {columns} {rows} {j} r =
    subst (Longest (λ x. BlackPath cs (path_points path) (centre (pos x) (pos j))) columns) (sym (reports_is r)) (runs_longest cs _ _ (pens_laws p) (path_points path) columns j)

-- ---- c
-- the two ways to write what is greatest
same_value : (u v x y : ℤ) → v *ℤ x +ℤ neg_ℤ u *ℤ y ≡ v *ℤ x -ℤ u *ℤ y
same_value = ring 4 _ (simp reify (omega arith))

-- the greatest value over the corners is the offset
pub greatest_offset : {cs : List Pt} (p : Pens cs) (u : ℤ) (v c : ℕ) → Greatest cs u v c → offset cs u v ≡ pos c
greatest_offset {cs} p u v c g =
    let k = furthest_corner cs _ _ (pens_laws p) (pos v) (neg_ℤ u) in
    let value : (z : Pt) → dot (pos v) (neg_ℤ u) z ≡ pos v *ℤ z.x -ℤ u *ℤ z.y = λ z. same_value u (pos v) z.x z.y in
    le_antisymm (offset cs u v) (pos c)
    (subst (λ (n : ℤ). n ≼ pos c) k.2 (subst (λ (n : ℤ). n ≼ pos c) (sym (value k.0)) (g.most k.0 k.1)))
    (subst (λ (n : ℤ). n ≼ offset cs u v) (value g.attained.0 ∙ g.attained.2) (furthest_bound (pos v) (neg_ℤ u) cs g.attained.1))

-- ---- the rows
sum_is : (f : ℕ → List Run) (n : ℕ) → sum_of (λ k. holds (f k)) n ≡ total f n
unfolding sum_of total
sum_is f zero = refl
sum_is f (suc n) = ap (λ (a : ℕ). a + holds (f n)) (sum_is f n)

in_rows : (j v k : ℕ) → k < v → InRows (pos j) v (pos j +ℤ pos k)
in_rows j v k h = (le_z_yes (le→leb j (j + k) (omega arith)), lt_z_yes (lt→ltb (j + k) (j + v) (omega arith)))

pub runs_hold : RunsHold
unfolding path_points
runs_hold cs p g u v c columns rows j m runs calls =
    sum_is runs v
    ∙ rows_total cs _ _ (pens_laws p) g u v m.times m.direction c (greatest_offset p u v c m.greatest) (pos j) m.inside columns runs
    (λ k h i. m.uncut i (pos j +ℤ pos k) (in_rows j v k h)) (λ k h. reports_runs p (calls k h))

-- ---- the level part
-- a column that a run covers is a natural number
between : (a b : ℕ) (i : ℤ) → ((pos a ≼ i) × (i ≼ pos b)) → (x : ℕ) × (i ≡ pos x) × ((a ≤ x) × (x ≤ b))
between a b (pos x) h = (x, refl, (leb→le a x h.0.le, leb→le x b h.1.le))
between a b (negsuc x) h = absurd h.0.le

natural : (rs : List Run) (i : ℤ) → CoversColumn rs i → CoversZ rs i
natural [] i c = absurd c
natural (r ∷ rs) i (inl h) = let b = between r.left r.right i h in (b.0, b.1, inl b.2)
natural (r ∷ rs) i (inr h) = let c = natural rs i h in (c.0, c.1, inr c.2)

whole : (rs : List Run) (x : ℕ) → Covers rs x → CoversColumn rs (pos x)
whole [] x c = absurd c
whole (r ∷ rs) x (inl h) = inl (le_z_yes (le→leb r.left x h.0), le_z_yes (le→leb x r.right h.1))
whole (r ∷ rs) x (inr h) = inr (whole rs x h)

covers_column : (rs : List Run) (i : ℤ) → CoversZ rs i ↔ CoversColumn rs i
covers_column rs i = ((λ c. subst (CoversColumn rs) (sym c.1) (whole rs c.0 c.2)), natural rs i)

pub level_rows : LevelRows
unfolding path_points
level_rows cs p g columns rows i m runs calls =
    number_iff (λ j. (j < rows) × CoversZ (runs j) i) (λ j. (j < rows) × CoversColumn (runs j) i)
    (λ j. ((λ h. (h.0, (covers_column (runs j) i).0 h.1)), λ h. (h.0, (covers_column (runs j) i).1 h.1)))
    (column_covered cs _ (Dy p.setting) (pens_laws p) g m.level m.differs i m.inside columns rows runs m.uncut (λ j h. reports_runs p (calls j h)))
