-- What only the code is asked, which makes no table, and where it finds the entries of a stroke.
use Rattle.std.specs.Prelude.{◌≡◌, ℕ, ◌-◌, ◌≤◌, List, length, take, drop, ℤ}
use Rattle.limits.specs.declared.Verdict.{Verdict}
use Rattle.limits.specs.Refusal.{aperture, unless}
use Rattle.checks.specs.Checks.{call_verdict}
use Rattle.setting_list.specs.Settings.{is_one_of}
use Rattle.drawing.specs.Strokes.{path_of}

-- the checks of a stroke, where so many apertures are held
abbrev pub held_verdict : ℕ → ℕ → List ℤ → ℕ → ℕ → Verdict
held_verdict held n path columns rows = call_verdict (unless (is_one_of held n) aperture) path columns rows 0

-- the entries from `first` on and before `end` are the path of stroke k
pub record Spans (starts : List ℕ) (entries : List ℤ) (k first end : ℕ) : Type 0 where
  pub ordered : first ≤ end
  pub within : end ≤ length entries
  pub path : take (end - first) (drop first entries) ≡ path_of starts entries k
