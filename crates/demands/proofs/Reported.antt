-- What each call reports are the runs of the definition, in whatever form it was given them.
use Prim.Native.Nat.{ℕ, ◌+◌, ◌*◌, ◌/◌, ◌%◌}
use native.Mathlib.Omega.{arith}
use mathlib.Core.Path.{◌≡◌, refl, ap, ap₂, ◌∙◌}
use mathlib.Core.List.{List, [], ◌∷◌, ◌++◌}
use lib.Dec.{eqb}
use lib.ListN.{length, drop}
use lib.IntN.{ℤ}
use Rattle.limits.specs.Refusal.{path, ◌then◌}
use Rattle.limits.proofs.Verdicts.{NotZero, then_not_zero, unless_not_zero}
use Rattle.plane.specs.Point.{Pt}
use Rattle.wire.specs.Read.{entries_of}
use Rattle.setting.specs.declared.Setting.{Setting}
use Rattle.setting.specs.declared.Checked.{Checked}
use Rattle.setting.specs.declared.Checked.TheVariants as checked·
use Rattle.setting.specs.Answer.{checked, checked_verdict}
use Rattle.pen.specs.Polygon.{pen}
use Rattle.pen.specs.Answer.{pen_corners}
use Rattle.aperture.specs.declared.Table.{Table}
use Rattle.aperture.proofs.Refusals.{look_not_zero}
use Rattle.aperture.specs.Table.{looked, looked_verdict, held_corners}
use Rattle.aperture.specs.Reachable.{Holds}
use Rattle.aperture.proofs.Held.{held_corners_lem}
use Rattle.stroke.specs.Sweep.{path_points}
use Rattle.stroke.specs.Runs.{Run, row_runs}
use Rattle.checks.specs.declared.Answer.{Answer}
use Rattle.checks.specs.Checks.{call_verdict}
use Rattle.checks.proofs.Verdicts.{verdict_not_zero}
use Rattle.checks.proofs.Given.{zero_gave}
use Rattle.row.specs.Answer.{flat, listed}
use Rattle.row.proofs.Filled.{Filled, row_filled, call_filled}
use Rattle.records.specs.declared.Run as records
use Rattle.records.specs.Records.{records_call}
use Rattle.records.specs.Theorems.{records_of, records_offer}
use Rattle.records.proofs.Plain.{records_given}
use Rattle.outcome.specs.Outcome.{length_verdict, host_verdict}
use Rattle.host.specs.Host.{run_bytes, run_bytes_offer, host_row}
use Rattle.demands.specs.Reports.{runs_in, runs_in_records, runs_in_bytes, heard, Reports, row-runs, runs-for, row-records, c-row}
use Rattle.demands.specs.Demand1.{taken_apart}
use Rattle.demands.proofs.Heard.{runs_apart}

-- ---- runs, whatever stands after them
flat_runs : (rs : List Run) (l : List ℕ) → runs_in (length rs) (flat rs ++ l) ≡ rs
flat_runs [] l = refl
flat_runs (r ∷ rs) l = ap (λ (k : List Run). r ∷ k) (flat_runs rs l)

pub listed_runs : (rs : List Run) (l : List ℕ) → runs_in (length rs) (listed rs l) ≡ rs
listed_runs rs l = flat_runs rs (drop (2 * length rs) l)

pub records_runs : (rs : List Run) (l : List records.Run) → runs_in_records (length rs) (records_of rs ++ l) ≡ rs
records_runs [] l = refl
records_runs (r ∷ rs) l = ap (λ (k : List Run). r ∷ k) (records_runs rs l)

-- two bytes make up their number
two_bytes : (x : ℕ) → x % 256 + 256 * (x / 256) ≡ x
two_bytes x = omega arith

four_bytes : (r : Run) → ◌≡◌ {A = Run} (record { left = r.left % 256 + 256 * (r.left / 256); right = r.right % 256 + 256 * (r.right / 256) }) r
four_bytes r = ap₂ (λ (x y : ℕ). record { left = x; right = y }) (two_bytes r.left) (two_bytes r.right)

pub bytes_runs : (rs : List Run) (l : List ℕ) → runs_in_bytes (length rs) (run_bytes rs ++ l) ≡ rs
bytes_runs [] l = refl
bytes_runs (r ∷ rs) l = ap₂ (λ (s : Run) (k : List Run). s ∷ k) (four_bytes r) (bytes_runs rs l)

-- ---- no refusal of a call is 0
pub setting_not_zero : (c : Checked) → NotZero (checked_verdict c)
setting_not_zero (checked·.Taken σ) = tt
setting_not_zero checked·.Refused = omega arith

pub host_not_zero : (σ : Setting) (bytes : List ℕ) (columns rows j : ℕ) → NotZero (host_verdict σ bytes columns rows j)
host_not_zero σ bytes columns rows j =
    then_not_zero (checked_verdict (checked σ) then length_verdict bytes) _
    (then_not_zero (checked_verdict (checked σ)) (length_verdict bytes) (setting_not_zero (checked σ)) (unless_not_zero (eqb (length bytes % 4) 0) path))
    (verdict_not_zero (entries_of bytes) columns rows j)

-- ---- what is reported
module _ (p : List ℤ) (columns rows j : ℕ) where
  abbrev runs : List Pt → List Run
  runs cs = row_runs cs (path_points p) columns j

  records_reported : {t : Table} {n : ℕ} {σ : Setting} → Holds t n σ → (before after : List records.Run) (a : Answer) →
      record { answer = a; list = after } ≡ records_call t n p columns rows j before → a.refusal ≡ 0 → runs_in_records a.count after ≡ runs (pen σ)
  records_reported {t} {n} h before after a e z =
      let checks = call_verdict (looked_verdict (looked t n)) p columns rows j in
      let g = zero_gave (records_offer (runs (held_corners t n)) before) checks (then_not_zero (looked_verdict (looked t n)) _ (look_not_zero (looked t n)) (verdict_not_zero p columns rows j)) a after
      (e ∙ records_given t n p columns rows j before) z in
      ap₂ runs_in_records g.count g.left ∙ records_runs (runs (held_corners t n)) _ ∙ ap runs (held_corners_lem h)

  filled_reported : {rs : List Run} {before after : List ℕ} {a : Answer} → Filled rs before a after → runs_in a.count after ≡ rs
  filled_reported {rs} {before} f = ap₂ runs_in f.count f.left ∙ listed_runs rs before

c_reported : (σ : Setting) (bytes : List ℕ) (columns rows j : ℕ) (before after : List ℕ) (answer : ℕ) →
    record { answer = answer; bytes = after } ≡ host_row σ bytes columns rows j before → (heard answer).refusal ≡ 0 →
    runs_in_bytes (heard answer).count after ≡ runs (entries_of bytes) columns rows j (pen σ)
unfolding host_row
c_reported σ bytes columns rows j before after answer e z =
    let rs = runs (entries_of bytes) columns rows j (pen σ) in
    let same = ap taken_apart e ∙ runs_apart σ bytes columns rows j before in
    let g = zero_gave (run_bytes_offer rs before) (host_verdict σ bytes columns rows j) (host_not_zero σ bytes columns rows j) (heard answer) after same z in
    ap₂ runs_in_bytes g.count g.left ∙ bytes_runs rs _

-- whichever call it is
pub reports_is : {cs : List Pt} {p : List ℤ} {columns rows j : ℕ} {rs : List Run} → Reports cs p columns rows j rs → rs ≡ row_runs cs (path_points p) columns j
reports_is {p = p} {columns} {rows} {j} (row-runs h q before after a e z) =
    filled_reported p columns rows j (call_filled h p columns rows j before a after e z) ∙ ap (runs p columns rows j) q
reports_is {p = p} {columns} {rows} {j} (runs-for pen q before after a e z) =
    filled_reported p columns rows j (row_filled (pen_corners pen) p columns rows j before a after e z) ∙ ap (runs p columns rows j) q
reports_is {p = p} {columns} {rows} {j} (row-records h q before after a e z) = records_reported p columns rows j h before after a e z ∙ ap (runs p columns rows j) q
reports_is {columns = columns} {rows} {j} (c-row {σ} t q bytes b before after answer e z) =
    c_reported σ bytes columns rows j before after answer e z ∙ ap₂ (λ (cs : List Pt) (p : List ℤ). row_runs cs (path_points p) columns j) q b
