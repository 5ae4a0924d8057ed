-- A call on a table that holds a setting answers for that setting's pen; and an answer 0 holds the bytes of the definition.
use Prim.Native.Nat.{ℕ}
use mathlib.Core.Path.{◌≡◌, ap}
use mathlib.Core.List.{List}
use lib.IntN.{ℤ}
use Rattle.plane.specs.Point.{Pt}
use Rattle.setting.specs.declared.Setting.{Setting}
use Rattle.pen.specs.Polygon.{pen}
use Rattle.aperture.specs.declared.Table.{Table}
use Rattle.aperture.specs.Reachable.{Holds}
use Rattle.aperture.proofs.Held.{holds_found, held_corners_lem}
use Rattle.checks.specs.declared.Answer.{Answer}
use Rattle.checks.specs.Checks.{verdict}
use Rattle.checks.proofs.Verdicts.{verdict_not_zero}
use Rattle.checks.proofs.Given.{zero_gave}
use Rattle.bits.specs.Bits.{packed_length}
use Rattle.packed.specs.Packed.{packed_over, packed_offer, pack_result, packed_call}

-- ---- the aperture's pen
pub packed_call_is : {t : Table} {n : ℕ} {σ : Setting} → Holds t n σ → (p : List ℤ) (columns rows j : ℕ) (l : List ℕ) →
    packed_call t n p columns rows j l ≡ pack_result (pen σ) p columns rows j l
unfolding packed_call pack_result
packed_call_is {t} {n} {σ} h p columns rows j l = rw (holds_found h, packed_call) (ap (λ (cs : List Pt). pack_result cs p columns rows j l) (held_corners_lem h))

-- ---- an answer 0 comes from a success
pub record Stored (cs : List Pt) (p : List ℤ) (columns j : ℕ) (before : List ℕ) (answer : Answer) (after : List ℕ) : Type 0 where
  pub count : answer.count ≡ packed_length columns
  pub left : after ≡ packed_over cs p columns j before

pub row_stored : (cs : List Pt) (p : List ℤ) (columns rows j : ℕ) (l : List ℕ) (a : Answer) (m : List ℕ) →
    record { answer = a; list = m } ≡ pack_result cs p columns rows j l → a.refusal ≡ 0 → Stored cs p columns j l a m
unfolding pack_result
row_stored cs p columns rows j l a m e z =
    let g = zero_gave (packed_offer cs p columns j l) (verdict p columns rows j) (verdict_not_zero p columns rows j) a m e z in
    record { count = g.count; left = g.left }
