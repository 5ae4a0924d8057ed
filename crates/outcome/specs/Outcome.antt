-- Document 01, "What the drawer does": "The plotter's host program is written in C; it calls the row answer and the packed row with numbers and byte slices
-- only."
use Rattle.std.specs.Prelude.{ℕ, ◌+◌, ◌*◌, ◌%◌, ◌^◌, List, eqb, length}
use Rattle.limits.specs.declared.Verdict.{Verdict}
use Rattle.limits.specs.Refusal.{path, unless, ◌then◌}
use Rattle.wire.specs.Read.{entries_of}
use Rattle.setting.specs.declared.Setting.{Setting}
use Rattle.setting.specs.Answer.{checked, checked_verdict}
use Rattle.checks.specs.declared.Answer.{Answer}
use Rattle.checks.specs.Checks.{call_verdict}
use Rattle.checks.specs.Answer.{Result}

-- "a length that is no multiple of four is refusal 2"
abbrev pub length_verdict : List ℕ → Verdict
length_verdict bytes = unless (eqb (length bytes % 4) 0) path

-- "There the setting is given as w, p, q instead of an aperture number (so refusal 1 stands where 6 stood in the order)"
abbrev pub host_verdict : Setting → List ℕ → ℕ → ℕ → ℕ → Verdict
host_verdict σ bytes columns rows j = call_verdict (checked_verdict (checked σ) then length_verdict bytes) (entries_of bytes) columns rows j

-- the answer in one number: bits 0 to 7 the refusal, 8 to 31 the place, 32 to 63 the number of runs or of bytes
abbrev pub coded : Answer → ℕ
coded a = a.refusal + 256 * a.place + 2 ^ 32 * a.count

-- that number, and the lent bytes at exit
pub record Outcome : Type 0 where
  pub answer : ℕ
  pub bytes : List ℕ

abbrev pub told : Result ℕ → Outcome
told r = record { answer = coded r.answer; bytes = r.list }
