-- The calls that pack a row: over a table of apertures, for a pen, and the C function.
use Rattle.std.specs.Prelude.{ℕ, ◌≡◌, List, ℤ}
use Rattle.plane.specs.Point.{Pt}
use Rattle.wire.specs.Read.{entries_of}
use Rattle.setting.specs.declared.Setting.{Setting}
use Rattle.setting.specs.Setting.{Taken}
use Rattle.pen.specs.declared.Pen.{Pen}
use Rattle.pen.specs.Polygon.{pen}
use Rattle.pen.specs.Answer.{pen_corners}
use Rattle.aperture.specs.declared.Table.{Table}
use Rattle.aperture.specs.Reachable.{Holds}
use Rattle.checks.specs.declared.Answer.{Answer}
use Rattle.packed.specs.Packed.{pack_result, packed_call}
use Rattle.host.specs.Host.{host_packed_row}
use Rattle.demands.specs.Reports.{heard}

-- a call for row j, for a pen with these corners, was answered 0 with so many bytes; it was lent the buffer `before`, and left it as `after`
pub data Packs (cs : List Pt) (path : List ℤ) (columns rows j : ℕ) : ℕ → List ℕ → List ℕ → Type 0 where
  -- `packed::packed_row`
  packed-row :
      {t : Table} {n : ℕ} {σ : Setting} → Holds t n σ → pen σ ≡ cs → (before after : List ℕ) (a : Answer) →
      record { answer = a; list = after } ≡ packed_call t n path columns rows j before → a.refusal ≡ 0 → Packs cs path columns rows j a.count before after
  -- `packed::packed_for`
  packed-for :
      (p : Pen) → pen_corners p ≡ cs → (before after : List ℕ) (a : Answer) →
      record { answer = a; list = after } ≡ pack_result (pen_corners p) path columns rows j before → a.refusal ≡ 0 → Packs cs path columns rows j a.count before after
  -- `host::zimarolfo_packed_row`
  c-packed-row :
      {σ : Setting} → Taken σ → pen σ ≡ cs → (bytes : List ℕ) → entries_of bytes ≡ path → (before after : List ℕ) (answer : ℕ) →
      record { answer = answer; bytes = after } ≡ host_packed_row σ bytes columns rows j before → (heard answer).refusal ≡ 0 →
      Packs cs path columns rows j (heard answer).count before after
