-- Demand 1: "Every call ends, on any numbers. Bad settings, paths, rasters, rows, apertures and lack of room are refused with document 01's number; no caller is
-- trusted. A refusal reports no runs and leaves every lent list, buffer and the aperture table as they were."
--
-- That every call ends and stays in bounds is proved of each function as it is checked. Here is what each call for a row refuses, in the words of the table:
-- `Refuses` (checks) has the numbers in the order of the checks, each with when it applies, the place, and that nothing is given and all is kept. Defining and
-- removing have theirs in aperture (DefineRefuses, RemoveRefuses, RefusalKeeps). Why it is true: a call's checks are one verdict, each check says when it
-- refuses, and the first that does is the answer.
use Rattle.std.specs.Prelude.{ℕ, ◌+◌, ◌/◌, ◌%◌, ◌≡◌, ◌⊎◌, List, length, ℤ}
use Rattle.limits.specs.Exactly.{BadPath}
use Rattle.plane.specs.Point.{Pt}
use Rattle.wire.specs.Read.{entries_of}
use Rattle.setting.specs.declared.Setting.{Setting}
use Rattle.setting.specs.Exactly.{BadSetting}
use Rattle.pen.specs.Polygon.{pen}
use Rattle.aperture.specs.declared.Table.{Table}
use Rattle.aperture.specs.Table.{held_corners}
use Rattle.aperture.specs.Refusals.{NoPen}
use Rattle.stroke.specs.Sweep.{path_points}
use Rattle.stroke.specs.Runs.{row_runs}
use Rattle.checks.specs.Answer.{Result}
use Rattle.checks.specs.Refuses.{Refuses}
use Rattle.row.specs.Answer.{row_result}
use Rattle.row.specs.Calls.{row_call}
use Rattle.packed.specs.Packed.{pack_result, packed_call}
use Rattle.band.specs.Band.{band_call}
use Rattle.band.specs.Refuses.{RefusesBand}
use Rattle.records.specs.declared.Run.{Run}
use Rattle.records.specs.Records.{records_call}
use Rattle.outcome.specs.Outcome.{Outcome}
use Rattle.host.specs.Host.{host_row, host_packed_row}
use Rattle.host_band.specs.HostBand.{host_band}
use Rattle.demands.specs.Reports.{heard}

-- how many runs a row has for the corners of a pen
abbrev pub run_count : List Pt → List ℤ → ℕ → ℕ → ℕ
run_count cs path columns j = length (row_runs cs (path_points path) columns j)

-- the row call over a table: 6, then 2, 4, 5, 3, and 7 for "more runs than the list has records"
abbrev pub RowRefuses : Type 0
RowRefuses =
    (t : Table) (n : ℕ) (path : List ℤ) (columns rows j : ℕ) (l : List ℕ) →
    Refuses 6 (NoPen t n) (BadPath path) path columns rows j (run_count (held_corners t n) path columns j) (length l / 2) l (row_call t n path columns rows j l)

-- the same for a pen that is handed over: there is nothing to refuse in it
abbrev pub RunsForRefuses : Type 0
RunsForRefuses =
    (cs : List Pt) (path : List ℤ) (columns rows j : ℕ) (l : List ℕ) →
    Refuses 6 ⊥ (BadPath path) path columns rows j (run_count cs path columns j) (length l / 2) l (row_result cs path columns rows j l)

-- the records
abbrev pub RecordsRefuses : Type 0
RecordsRefuses =
    (t : Table) (n : ℕ) (path : List ℤ) (columns rows j : ℕ) (o : List Run) →
    Refuses 6 (NoPen t n) (BadPath path) path columns rows j (run_count (held_corners t n) path columns j) (length o) o (records_call t n path columns rows j o)

-- the packed row: 7 for "a packed row longer than its buffer", which is "ceil(columns/8) bytes"
abbrev pub PackedRefuses : Type 0
PackedRefuses =
    (t : Table) (n : ℕ) (path : List ℤ) (columns rows j : ℕ) (b : List ℕ) →
    Refuses 6 (NoPen t n) (BadPath path) path columns rows j ((columns + 7) / 8) (length b) b (packed_call t n path columns rows j b)

abbrev pub PackedForRefuses : Type 0
PackedForRefuses =
    (cs : List Pt) (path : List ℤ) (columns rows j : ℕ) (b : List ℕ) →
    Refuses 6 ⊥ (BadPath path) path columns rows j ((columns + 7) / 8) (length b) b (pack_result cs path columns rows j b)

-- a band of rows for a setting: 1, then 2, 4, 5 of all its rows, 3, and 7 where a row does not fit the stride, or the rows do not fit the bytes
abbrev pub BandRefuses : Type 0
BandRefuses =
    (σ : Setting) (path : List ℤ) (columns rows first n stride : ℕ) (b : List ℕ) →
    RefusesBand 1 (BadSetting σ) (BadPath path) path columns rows first n stride b (band_call σ path columns rows first n stride b)

-- the C calls: "refusal 1 stands where 6 stood in the order"; "a length that is no multiple of four is refusal 2"; "the room is the whole number of such fours"
abbrev pub BadBytes : List ℕ → Type 0
BadBytes bytes = ¬ (length bytes % 4 ≡ 0) ⊎ BadPath (entries_of bytes)

abbrev pub taken_apart : Outcome → Result ℕ
taken_apart o = record { answer = heard o.answer; list = o.bytes }

abbrev pub HostRowRefuses : Type 0
HostRowRefuses =
    (σ : Setting) (bytes : List ℕ) (columns rows j : ℕ) (b : List ℕ) →
    Refuses 1 (BadSetting σ) (BadBytes bytes) (entries_of bytes) columns rows j (run_count (pen σ) (entries_of bytes) columns j) (length b / 4) b (taken_apart (host_row σ bytes columns rows j b))

abbrev pub HostPackedRefuses : Type 0
HostPackedRefuses =
    (σ : Setting) (bytes : List ℕ) (columns rows j : ℕ) (b : List ℕ) →
    Refuses 1 (BadSetting σ) (BadBytes bytes) (entries_of bytes) columns rows j ((columns + 7) / 8) (length b) b (taken_apart (host_packed_row σ bytes columns rows j b))

-- a band: what `band::lay` refuses, and bytes that are no path's
abbrev pub HostBandRefuses : Type 0
HostBandRefuses =
    (σ : Setting) (bytes : List ℕ) (columns rows first n stride : ℕ) (b : List ℕ) →
    RefusesBand 1 (BadSetting σ) (BadBytes bytes) (entries_of bytes) columns rows first n stride b (taken_apart (host_band σ bytes columns rows first n stride b))
