-- What a call for a band promises of its refusals, in words. `Refuses` (checks) says it of a call for one row; here 5 and 7 speak of several rows, and the rest is as there.
use Rattle.std.specs.Prelude.{ℕ, ◌+◌, ◌-◌, ◌/◌, ◌<◌, ◌≡◌, ◌⊎◌, ◌↔◌, List, length, ℤ}
use Rattle.limits.specs.Exactly.{◌when◌else◌, done, FirstBad, BadRaster, BadCoordinate}
use Rattle.checks.specs.Answer.{Result}

-- 5: the first row is not below the number of rows, or there is no row, or there are more than the raster has from the first on
abbrev pub BadBand : ℕ → ℕ → ℕ → Type 0
BadBand rows first n = ¬ (first < rows) ⊎ ((n ≡ 0) ⊎ (rows - first < n))

-- 7: a row, which is "ceil(columns/8) bytes", is longer than the stride, or the bytes hold fewer rows of so many bytes than the band has
abbrev pub NoBandRoom : ℕ → ℕ → ℕ → ℕ → Type 0
NoBandRoom columns n stride len = (stride < (columns + 7) / 8) ⊎ (len / stride < n)

-- A call that was asked for n rows of a raster from `first` on, for a path, and was lent the bytes `before`. Of its pen the number `pen` is given where NoPen;
-- Bad is what makes the path no path.
pub record RefusesBand (pen : ℕ) (NoPen Bad : Type 0) (path : List ℤ) (columns rows first n stride : ℕ) (before : List ℕ) (r : Result ℕ) : Type 0 where
  -- "Given exactly when"; in the order 1, 2, 4, 5, 3, 7, "The first that applies is the answer"
  pub exactly : (k : ℕ) → (r.answer.refusal ≡ k)
      ↔ (pen when NoPen else 2 when Bad else 4 when BadRaster columns rows else 5 when BadBand rows first n else 3 when BadCoordinate path else 7 when NoBandRoom columns n stride (length before) else done) k
  -- "Place reported": "index of the first bad entry", and 0 in every other line
  pub first_bad : r.answer.refusal ≡ 3 → FirstBad path r.answer.place
  pub nowhere : ¬ (r.answer.refusal ≡ 3) → r.answer.place ≡ 0
  -- nothing is given, "and nothing lent is changed"
  pub none : ¬ (r.answer.refusal ≡ 0) → r.answer.count ≡ 0
  pub kept : ¬ (r.answer.refusal ≡ 0) → r.list ≡ before
