-- What the bytes of a list of runs are, by value and by place. The claim is a type; proofs/Theorems.antt proves it under its name.
use Rattle.std.specs.Prelude.{ℕ, ◌+◌, ◌*◌, ◌<◌, ◌≡◌, List, length, get_or}
use Rattle.stroke.specs.Runs.{Run}
use Rattle.wire.specs.Theorems.{AreBytes}
use Rattle.host.specs.Host.{run_bytes}

-- run k of a list, from 0
abbrev pub run_at : List Run → ℕ → Run
run_at rs k = get_or rs k (record { left = 0; right = 0 })

-- a run whose columns fit two bytes each: those of a raster are below 16,384
abbrev pub TwoByteRun : Run → Type 0
TwoByteRun r = (r.left < 65536) × (r.right < 65536)

-- "a run is four bytes, left then right column, two bytes each, lowest first": bytes 4 k and 4 k + 1 count the left column of run k, bytes 4 k + 2 and 4 k + 3
-- its right column, the first of the two ones and the second 256 each
pub record RunsInBytes (rs : List Run) (bytes : List ℕ) : Type 0 where
  pub four_each : length bytes ≡ 4 * length rs
  pub bytes_all : AreBytes bytes
  pub left : (k : ℕ) → k < length rs → get_or bytes (4 * k) 0 + 256 * get_or bytes (4 * k + 1) 0 ≡ (run_at rs k).left
  pub right : (k : ℕ) → k < length rs → get_or bytes (4 * k + 2) 0 + 256 * get_or bytes (4 * k + 3) 0 ≡ (run_at rs k).right

abbrev pub RunBytesAre : Type 0
RunBytesAre = (rs : List Run) → ((k : ℕ) → k < length rs → TwoByteRun (run_at rs k)) → RunsInBytes rs (run_bytes rs)
