-- The setting of a call: refused, or the pen that is built is its own.
use Prim.Native.Nat.{ℕ}
use mathlib.Core.Path.{◌≡◌, refl, subst}
use mathlib.Core.Bool.{true, false}
use mathlib.Core.List.{List}
use Rattle.limits.specs.Refusal.{setting, refuse}
use Rattle.setting.specs.declared.Setting.{Setting}
use Rattle.setting.specs.declared.Checked.TheVariants as checked·
use Rattle.setting.specs.Setting.{Taken}
use Rattle.setting.specs.Answer.{checked}
use Rattle.setting.proofs.Limits.{taken_iff}
use Rattle.setting.proofs.Answers.{checked_taken}
use Rattle.pen.specs.Answer.{built}
use Rattle.checks.specs.Answer.{answer_of}
use Rattle.outcome.specs.Outcome.{coded}
use Rattle.outcome.proofs.Pens.{built_taken}
use Rattle.host.specs.Host.{host_row, host_packed_row}
use Rattle.host.specs.Call.{runs_with, packed_with, bytes_call}

-- a setting that the check takes is taken
pub set_taken : (σ s : Setting) → checked σ ≡ checked·.Taken s → Taken s
set_taken σ s e = let h = checked_taken σ s e in subst Taken h.1 ((taken_iff σ).0 h.0)

-- ---- the two calls by their cases
module _ (σ : Setting) (path : List ℕ) (columns rows j : ℕ) (b : List ℕ) where
  -- refusal 1
  pub row_refused : {x : ℕ} → checked σ ≡ checked·.Refused → x ≡ coded (answer_of (refuse setting 0)) → record { answer = x; bytes = b } ≡ host_row σ path columns rows j b
  unfolding host_row
  row_refused e f = rw (host_row, e, f)

  pub packed_refused : {x : ℕ} → checked σ ≡ checked·.Refused → x ≡ coded (answer_of (refuse setting 0)) → record { answer = x; bytes = b } ≡ host_packed_row σ path columns rows j b
  unfolding host_packed_row
  packed_refused e f = rw (host_packed_row, e, f)

  -- the setting is taken, and the rest is the call's
  pub row_goes_on : (s : Setting) → checked σ ≡ checked·.Taken s →
      bytes_call (record { setting = s; columns = columns; rows = rows; row = j; packed = false }) path b ≡ host_row σ path columns rows j b
  unfolding host_row runs_with
  row_goes_on s e = rw (host_row, e, built_taken σ s (built s) e refl)

  pub packed_goes_on : (s : Setting) → checked σ ≡ checked·.Taken s →
      bytes_call (record { setting = s; columns = columns; rows = rows; row = j; packed = true }) path b ≡ host_packed_row σ path columns rows j b
  unfolding host_packed_row packed_with
  packed_goes_on s e = rw (host_packed_row, e, built_taken σ s (built s) e refl)
