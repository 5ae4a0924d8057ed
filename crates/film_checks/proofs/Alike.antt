-- The checks of a stroke without a table are those of its row call.
use Prim.Native.Nat.{ℕ}
use mathlib.Core.Path.{◌≡◌, refl, sym, ap, ◌∙◌}
use mathlib.Core.Bool.{Bool, true, false}
use mathlib.Core.List.{List}
use lib.IntN.{ℤ}
use Rattle.limits.specs.Refusal.{aperture, unless}
use Rattle.limits.specs.declared.Verdict.{Verdict}
use Rattle.aperture.specs.declared.Table.{Table}
use Rattle.aperture.specs.Table.{is_held, looked, looked_verdict}
use Rattle.aperture.proofs.Answers.{looks_nowhere, looks_at}
use Rattle.checks.specs.Checks.{call_verdict}
use Rattle.setting_list.specs.Settings.{table_of, held_count}
use Rattle.setting_list.proofs.Held.{held_is}
use Rattle.drawing.specs.Strokes.{row_zero_verdict}
use Rattle.film_checks.specs.Code.{held_verdict}

-- an aperture is found where it is held
looked_is : (t : Table) (n : ℕ) → looked_verdict (looked t n) ≡ unless (is_held t n) aperture
looked_is t n = go (is_held t n) refl
  where
    go : (h : Bool) → is_held t n ≡ h → looked_verdict (looked t n) ≡ unless h aperture
    go true e = ap looked_verdict (looks_at t n e)
    go false e = ap looked_verdict (looks_nowhere t n e)

pub checked_alike : (l : List ℕ) (n : ℕ) (path : List ℤ) (columns rows : ℕ) → held_verdict (held_count l) n path columns rows ≡ row_zero_verdict (table_of l).table n path columns rows
checked_alike l n path columns rows =
    ap (λ (v : Verdict). call_verdict v path columns rows 0) (ap (λ (h : Bool). unless h aperture) (sym (held_is l n)) ∙ sym (looked_is (table_of l).table n))
