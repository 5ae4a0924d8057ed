-- The calls that lay a stroke over a band of rows, the library's and the C function; and bands one after the other, each of which was laid over by a call of its own.
use Rattle.std.specs.Prelude.{ℕ, ◌+◌, ◌*◌, ◌≡◌, List, ◌++◌, length, ℤ}
use Rattle.plane.specs.Point.{Pt}
use Rattle.wire.specs.Read.{entries_of}
use Rattle.setting.specs.declared.Setting.{Setting}
use Rattle.pen.specs.Polygon.{pen}
use Rattle.checks.specs.declared.Answer.{Answer}
use Rattle.band.specs.Band.{band_call}
use Rattle.host_band.specs.HostBand.{host_band}
use Rattle.demands.specs.Reports.{heard}

-- n rows from row `first` on, `stride` bytes to each, were laid over by calls that were answered 0, for a pen with these corners: the bytes `before` became `after`
pub data Bands (cs : List Pt) (path : List ℤ) (columns rows stride : ℕ) : ℕ → ℕ → List ℕ → List ℕ → Type 0 where
  -- `band::lay`, with a setting whose pen has these corners
  lay :
      (σ : Setting) → pen σ ≡ cs → (first n : ℕ) (before after : List ℕ) (a : Answer) →
      record { answer = a; list = after } ≡ band_call σ path columns rows first n stride before → a.refusal ≡ 0 → Bands cs path columns rows stride first n before after
  -- `host_band::zimarolfo_band`, with such a setting, and the path's bytes
  c-band :
      (σ : Setting) → pen σ ≡ cs → (bytes : List ℕ) → entries_of bytes ≡ path → (first n : ℕ) (before after : List ℕ) (answer : ℕ) →
      record { answer = answer; bytes = after } ≡ host_band σ bytes columns rows first n stride before → (heard answer).refusal ≡ 0 →
      Bands cs path columns rows stride first n before after
  -- the bytes of the m rows over k rows, and after them those of the k rows, whoever made the two calls: document 02 has "two processors agree at any seam"
  atop :
      {first k m : ℕ} {upper upper' lower lower' : List ℕ} → length upper ≡ m * stride →
      Bands cs path columns rows stride (first + k) m upper upper' → Bands cs path columns rows stride first k lower lower' →
      Bands cs path columns rows stride first (k + m) (upper ++ lower) (upper' ++ lower')
