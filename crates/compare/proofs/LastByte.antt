-- Where a film's last byte stands.
use Prim.Native.Nat.{ℕ, ◌+◌, ◌-◌, ◌≤◌}
use mathlib.Core.Path.{◌≡◌, sym, ap, ◌∙◌}
use mathlib.Core.Bool.{Bool, cond}
use borrow.Author.Tests.{le-leb}
use Rattle.pbm.specs.Pbm.{data_length}
use Rattle.compare.specs.Refusals.{last_byte}

-- behind a header, which has at most 15 bytes, it is the last of the data's
pub last_here : (columns rows start : ℕ) {r : ℕ} → start ≤ 15 → r ≡ start + data_length columns rows - 1 → r ≡ last_byte columns rows start
last_here columns rows start h e = e ∙ ap (λ (t : Bool). cond t (start + data_length columns rows - 1) 0) (sym (le-leb start 15 h))
