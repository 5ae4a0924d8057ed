-- What every call for a row promises of its refusals, in the words of document 01's table.
use Rattle.std.specs.Prelude.{ℕ, ◌≡◌, ◌↔◌, List, ℤ}
use Rattle.limits.specs.Exactly.{◌when◌else◌, done, FirstBad, BadRaster, BadRow, BadCoordinate, NoRoom}
use Rattle.checks.specs.Answer.{Result}

-- A call that was asked for row j of a raster, for a path, with room for `space` runs or bytes where it has `needed`, and was lent `before`. Of its pen the
-- number `pen` is given where NoPen: 6 of an aperture, 1 of a setting. Bad is what makes the path no path.
pub record Refuses {A : Type 0} (pen : ℕ) (NoPen Bad : Type 0) (path : List ℤ) (columns rows j needed space : ℕ) (before : List A) (r : Result A) : Type 0 where
  -- "Given exactly when"; "Row calls check in the order 6, 2, 4, 5, 3, 7 .. The first that applies is the answer"
  pub exactly : (k : ℕ) → (r.answer.refusal ≡ k)
      ↔ (pen when NoPen else 2 when Bad else 4 when BadRaster columns rows else 5 when BadRow rows j else 3 when BadCoordinate path else 7 when NoRoom needed space else done) k
  -- "Place reported": "index of the first bad entry", and 0 in every other line
  pub first : r.answer.refusal ≡ 3 → FirstBad path r.answer.place
  pub nowhere : ¬ (r.answer.refusal ≡ 3) → r.answer.place ≡ 0
  -- "with 0 runs, and nothing lent is changed"
  pub none : ¬ (r.answer.refusal ≡ 0) → r.answer.count ≡ 0
  pub kept : ¬ (r.answer.refusal ≡ 0) → r.list ≡ before
