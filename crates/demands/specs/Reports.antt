-- The calls that report the runs of a row: the row answer over a table of apertures, the same for a pen, the records, and the C function. Whichever is made,
-- and for whichever setting, what the demands say of it depends on the pen's corners, the path, the raster, the row and the runs that it reports, and on
-- nothing else. So they are one type here, and each demand is said once.
use Rattle.std.specs.Prelude.{ℕ, zero, suc, ◌+◌, ◌*◌, ◌/◌, ◌%◌, ◌^◌, ◌≡◌, List, [], ◌∷◌, ℤ}
use Rattle.plane.specs.Point.{Pt}
use Rattle.wire.specs.Read.{entries_of}
use Rattle.setting.specs.declared.Setting.{Setting}
use Rattle.setting.specs.Setting.{Taken}
use Rattle.pen.specs.declared.Pen.{Pen}
use Rattle.pen.specs.Polygon.{pen}
use Rattle.pen.specs.Answer.{pen_corners}
use Rattle.aperture.specs.declared.Table.{Table}
use Rattle.aperture.specs.Reachable.{Holds}
use Rattle.stroke.specs.Runs.{Run}
use Rattle.checks.specs.declared.Answer.{Answer}
use Rattle.row.specs.Answer.{row_result}
use Rattle.row.specs.Calls.{row_call}
use Rattle.records.specs.declared.Run as records
use Rattle.records.specs.Records.{records_call}
use Rattle.host.specs.Host.{host_row}

-- the first n runs of a list of numbers, "a left and a right column" alternating
abbrev pub runs_in : ℕ → List ℕ → List Run
runs_in zero l = []
runs_in (suc n) [] = []
runs_in (suc n) (a ∷ []) = []
runs_in (suc n) (a ∷ b ∷ l) = record { left = a; right = b } ∷ runs_in n l

-- the first n of a list of records
abbrev pub runs_in_records : ℕ → List records.Run → List Run
runs_in_records zero l = []
runs_in_records (suc n) [] = []
runs_in_records (suc n) (r ∷ l) = record { left = r.left; right = r.right } ∷ runs_in_records n l

-- the first n of a list of bytes: "a run is four bytes, left then right column, two bytes each, lowest first"
abbrev pub runs_in_bytes : ℕ → List ℕ → List Run
runs_in_bytes zero l = []
runs_in_bytes (suc n) [] = []
runs_in_bytes (suc n) (a ∷ []) = []
runs_in_bytes (suc n) (a ∷ b ∷ []) = []
runs_in_bytes (suc n) (a ∷ b ∷ c ∷ []) = []
runs_in_bytes (suc n) (a ∷ b ∷ c ∷ d ∷ l) = record { left = a + 256 * b; right = c + 256 * d } ∷ runs_in_bytes n l

-- the C functions' one number taken apart: bits 0 to 7, 8 to 31, 32 to 63
abbrev pub heard : ℕ → Answer
heard n = record { refusal = n % 256; place = n / 256 % 2 ^ 24; count = n / 2 ^ 32 }

-- a call for row j, for a pen with these corners, was answered 0, and reports these runs
pub data Reports (cs : List Pt) (path : List ℤ) (columns rows j : ℕ) : List Run → Type 0 where
  -- `row::row_runs`, with an aperture that holds a setting whose pen has these corners
  row-runs :
      {t : Table} {n : ℕ} {σ : Setting} → Holds t n σ → pen σ ≡ cs → (before after : List ℕ) (a : Answer) →
      record { answer = a; list = after } ≡ row_call t n path columns rows j before → a.refusal ≡ 0 → Reports cs path columns rows j (runs_in a.count after)
  -- `row::runs_for`, with a pen that has them
  runs-for :
      (p : Pen) → pen_corners p ≡ cs → (before after : List ℕ) (a : Answer) →
      record { answer = a; list = after } ≡ row_result (pen_corners p) path columns rows j before → a.refusal ≡ 0 → Reports cs path columns rows j (runs_in a.count after)
  -- `records::row_records`
  row-records :
      {t : Table} {n : ℕ} {σ : Setting} → Holds t n σ → pen σ ≡ cs → (before after : List records.Run) (a : Answer) →
      record { answer = a; list = after } ≡ records_call t n path columns rows j before → a.refusal ≡ 0 → Reports cs path columns rows j (runs_in_records a.count after)
  -- `host::zimarolfo_row`, with a setting whose pen has them, and the path's bytes
  c-row :
      {σ : Setting} → Taken σ → pen σ ≡ cs → (bytes : List ℕ) → entries_of bytes ≡ path → (before after : List ℕ) (answer : ℕ) →
      record { answer = answer; bytes = after } ≡ host_row σ bytes columns rows j before → (heard answer).refusal ≡ 0 →
      Reports cs path columns rows j (runs_in_bytes (heard answer).count after)
