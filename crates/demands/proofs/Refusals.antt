-- Demand 1: every call is its checks and an offer, so that what checks and an offer refuse it refuses.
use Prim.Native.Nat.{ℕ, ◌%◌}
use native.Mathlib.Omega.{arith}
use mathlib.Core.Path.{◌≡◌, refl, sym, subst}
use mathlib.Core.Logic.{inl, inr}
use mathlib.Core.List.{List}
use lib.Dec.{eqb}
use borrow.Author.Tests.{eqb-true, eqb-false}
use lib.ListN.{length}
use lib.IntN.{ℤ}
use Rattle.limits.specs.declared.Verdict.{Verdict}
use Rattle.limits.specs.declared.Verdict.TheVariants.{Passed, Refused}
use Rattle.limits.specs.Refusal.{path, ◌then◌}
use Rattle.limits.specs.Exactly.{BadPath}
use Rattle.limits.proofs.Exactly.{Says, passes, unless_says, says_both}
use Rattle.wire.specs.Read.{entries_of}
use Rattle.setting.specs.declared.Setting.{Setting}
use Rattle.setting.specs.declared.Checked.{Checked}
use Rattle.setting.specs.declared.Checked.TheVariants as checked·
use Rattle.setting.specs.Answer.{checked, checked_verdict}
use Rattle.setting.specs.Exactly.{BadSetting}
use Rattle.setting.proofs.Exactly.{setting_says}
use Rattle.pen.specs.Polygon.{pen}
use Rattle.aperture.specs.Table.{looked, looked_verdict, held_corners}
use Rattle.aperture.specs.Refusals.{NoPen}
use Rattle.aperture.proofs.Refusals.{look_says}
use Rattle.stroke.specs.Sweep.{path_points}
use Rattle.stroke.specs.Runs.{row_runs}
use Rattle.checks.specs.Checks.{path_verdict, raster_verdict, row_verdict, coordinate_verdict, room_verdict}
use Rattle.checks.specs.Answer.{Offer, given}
use Rattle.checks.specs.Refuses.{Refuses}
use Rattle.checks.proofs.Exactly.{path_says, Placed, unless_placed, zero_placed, then_placed, given_refuses, call_refuses, path_placed}
use Rattle.row.specs.Answer.{runs_offer, row_result}
use Rattle.row.specs.Calls.{row_call}
use Rattle.row.proofs.Calls.{look_placed}
use Rattle.packed.specs.Packed.{packed_offer, pack_result, packed_call}
use Rattle.band.specs.Band.{top_row, band_offer, band_call}
use Rattle.band.specs.Refuses.{RefusesBand}
use Rattle.band.proofs.Refusals.{refuses_band}
use Rattle.records.specs.Theorems.{records_offer}
use Rattle.records.proofs.Plain.{records_given}
use Rattle.outcome.specs.Outcome.{length_verdict, host_verdict}
use Rattle.host.specs.Host.{run_bytes_offer, host_row, host_packed_row}
use Rattle.host_band.specs.HostBand.{host_band}
use Rattle.demands.specs.Demand1.{RowRefuses, RunsForRefuses, RecordsRefuses, PackedRefuses, PackedForRefuses, BandRefuses, BadBytes, HostRowRefuses, HostPackedRefuses, HostBandRefuses}
use Rattle.demands.proofs.Heard.{runs_apart, packed_apart, band_apart}

-- ---- a table's aperture, or a pen
pub row_refuses : RowRefuses
unfolding row_call
row_refuses t n p columns rows j l =
    call_refuses (runs_offer (row_runs (held_corners t n) (path_points p) columns j) l) p columns rows j (looked_verdict (looked t n)) (look_says t n) (look_placed p (looked t n))

-- a pen that is handed over has nothing to refuse
nothing_says : Says Passed 6 ⊥
nothing_says = passes refl (λ z. z)

pub runs_for_refuses : RunsForRefuses
unfolding row_result
runs_for_refuses cs p columns rows j l =
    call_refuses (runs_offer (row_runs cs (path_points p) columns j) l) p columns rows j Passed nothing_says (zero_placed p Passed 6 (λ e. omega arith) (inl refl))

pub records_refuses : RecordsRefuses
records_refuses t n p columns rows j o =
    subst (Refuses 6 (NoPen t n) (BadPath p) p columns rows j _ _ o) (sym (records_given t n p columns rows j o))
    (call_refuses (records_offer (row_runs (held_corners t n) (path_points p) columns j) o) p columns rows j (looked_verdict (looked t n)) (look_says t n) (look_placed p (looked t n)))

pub packed_refuses : PackedRefuses
unfolding packed_call
packed_refuses t n p columns rows j b =
    call_refuses (packed_offer (held_corners t n) p columns j b) p columns rows j (looked_verdict (looked t n)) (look_says t n) (look_placed p (looked t n))

pub packed_for_refuses : PackedForRefuses
unfolding pack_result
packed_for_refuses cs p columns rows j b =
    call_refuses (packed_offer cs p columns j b) p columns rows j Passed nothing_says (zero_placed p Passed 6 (λ e. omega arith) (inl refl))

-- ---- a setting
setting_placed : (p : List ℤ) (c : Checked) → Placed p (checked_verdict c)
setting_placed p (checked·.Taken σ) = zero_placed p Passed 1 (λ e. omega arith) (inl refl)
setting_placed p checked·.Refused = zero_placed p (Refused 1 0) 1 (λ e. omega arith) (inr refl)

pub band_refuses : BandRefuses
unfolding band_call
band_refuses σ p columns rows first n stride b =
    refuses_band (call_refuses (band_offer (pen σ) p columns first n stride b) p columns rows (top_row rows first n) (checked_verdict (checked σ)) (setting_says σ) (setting_placed p (checked σ)))

-- ---- the C calls
length_says : (bytes : List ℕ) → Says (length_verdict bytes) 2 (¬ (length bytes % 4 ≡ 0))
length_says bytes = unless_says (eqb (length bytes % 4) 0) path (¬ (length bytes % 4 ≡ 0)) (λ e h. h (eqb-true (length bytes % 4) 0 e)) (λ e. eqb-false (length bytes % 4) 0 e)

-- the checks one after the other, whatever belongs together
in_order : (a b c d e f r : Verdict) → (((a then b) then c then d then e then f) then r) ≡ (a then (b then c) then d then e then f then r)
in_order (Refused n p) b c d e f r = refl
in_order Passed (Refused n p) c d e f r = refl
in_order Passed Passed (Refused n p) d e f r = refl
in_order Passed Passed Passed (Refused n p) e f r = refl
in_order Passed Passed Passed Passed (Refused n p) f r = refl
in_order Passed Passed Passed Passed Passed f r = refl

host_refuses : (σ : Setting) (bytes : List ℕ) (columns rows j : ℕ) (o : Offer ℕ) →
    Refuses 1 (BadSetting σ) (BadBytes bytes) (entries_of bytes) columns rows j o.count o.space o.before (given (host_verdict σ bytes columns rows j) o)
host_refuses σ bytes columns rows j o =
    let p = entries_of bytes in
    given_refuses o p columns rows j (checked_verdict (checked σ)) (length_verdict bytes then path_verdict p) (setting_says σ) (says_both (length_says bytes) (path_says p)) (setting_placed p (checked σ))
    (then_placed p (length_verdict bytes) (path_verdict p) (unless_placed p (eqb (length bytes % 4) 0) path (λ e. omega arith)) (path_placed p))
    (host_verdict σ bytes columns rows j)
    (in_order (checked_verdict (checked σ)) (length_verdict bytes) (path_verdict p) (raster_verdict columns rows) (row_verdict rows j) (coordinate_verdict p) (room_verdict o.count o.space))

pub host_row_refuses : HostRowRefuses
unfolding host_row
host_row_refuses σ bytes columns rows j b =
    subst (Refuses 1 (BadSetting σ) (BadBytes bytes) (entries_of bytes) columns rows j _ _ b) (sym (runs_apart σ bytes columns rows j b))
    (host_refuses σ bytes columns rows j (run_bytes_offer (row_runs (pen σ) (path_points (entries_of bytes)) columns j) b))

pub host_packed_refuses : HostPackedRefuses
unfolding host_packed_row
host_packed_refuses σ bytes columns rows j b =
    subst (Refuses 1 (BadSetting σ) (BadBytes bytes) (entries_of bytes) columns rows j _ _ b) (sym (packed_apart σ bytes columns rows j b))
    (host_refuses σ bytes columns rows j (packed_offer (pen σ) (entries_of bytes) columns j b))

-- the band: what its checks and its offer refuse, and so the call
pub host_given_refuses : (σ : Setting) (bytes : List ℕ) (columns rows first n stride : ℕ) (b : List ℕ) →
    RefusesBand 1 (BadSetting σ) (BadBytes bytes) (entries_of bytes) columns rows first n stride b
    (given (host_verdict σ bytes columns rows (top_row rows first n)) (band_offer (pen σ) (entries_of bytes) columns first n stride b))
host_given_refuses σ bytes columns rows first n stride b =
    refuses_band (host_refuses σ bytes columns rows (top_row rows first n) (band_offer (pen σ) (entries_of bytes) columns first n stride b))

pub host_band_refuses : HostBandRefuses
unfolding host_band
host_band_refuses σ bytes columns rows first n stride b =
    subst (RefusesBand 1 (BadSetting σ) (BadBytes bytes) (entries_of bytes) columns rows first n stride b) (sym (band_apart σ bytes columns rows first n stride b))
    (host_given_refuses σ bytes columns rows first n stride b)
