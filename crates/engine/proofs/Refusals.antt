-- What a start and a step are refused for, held against the table of refusals; and what a refusal leaves.
use Prim.Native.Nat.{ℕ, ◌/◌}
use mathlib.Core.Path.{◌≡◌, refl, sym, ap, subst, ◌∙◌}
use mathlib.Core.Bool.{Bool, true, false}
use mathlib.Core.List.{List, []}
use lib.Dec.{leb}
use lib.ListN.{length}
use lib.IntN.{ℤ}
use Rattle.limits.specs.declared.Verdict.{Verdict}
use Rattle.limits.specs.declared.Verdict.TheVariants.{Passed, Refused}
use Rattle.limits.specs.Refusal.{room, unless, ◌then◌}
use Rattle.limits.proofs.Exactly.{number_of, place_of, says_last, says_first}
use Rattle.aperture.specs.declared.Table.{Table}
use Rattle.aperture.specs.Table.{looked, looked_verdict, held_corners, place_of as held_at}
use Rattle.aperture.specs.Refusals.{NoPen}
use Rattle.aperture.proofs.Refusals.{look_says}
use Rattle.stroke.specs.Sweep.{path_points}
use Rattle.stroke.specs.Runs.{row_runs}
use Rattle.checks.specs.Checks.{path_verdict, segment_verdict, raster_verdict, row_verdict, coordinate_verdict, verdict, call_verdict, room_verdict}
use Rattle.checks.specs.Answer.{Offer, given}
use Rattle.checks.specs.Refuses.{Refuses}
use Rattle.checks.proofs.Exactly.{row_says, room_says, settled_number, settled_none, settled_place, in_order, given_refuses}
use Rattle.checks.proofs.Entries.{TwoOrFour, Entries, entries, passed_entries, entries_passed, segment_says, segment_placed}
use Rattle.row.specs.Answer.{runs_offer}
use Rattle.row.specs.Calls.{row_call}
use Rattle.row.proofs.Calls.{look_placed}
use Rattle.engine.specs.declared.Engine.{Engine}
use Rattle.engine.specs.Engine.{start_verdict, engine_of, started_by, started, engine_runs, step_result}
use Rattle.engine.specs.Theorems.{RefusedStays, StartRefuses, StartIsCheck, StepRefuses}
use Rattle.engine.proofs.Driven.{step_refused}

-- ---- a step
pub step_refuses : StepRefuses
unfolding step_result
step_refuses e l k =
    let rs = engine_runs e in
    let own = row_verdict e.rows e.row in
    let last = room_verdict (length rs) (length l / 2) in
    let x = says_first (row_says e.rows e.row) last _ (says_last (room_says (length rs) (length l / 2))) k in
    let same = settled_number (own then last) (runs_offer rs l) in
    ((λ h. x.0 (sym same ∙ h)), λ h. same ∙ x.1 h)

pub refused_stays : RefusedStays
unfolding step_result
refused_stays e l h =
    let last = row_verdict e.rows e.row then room_verdict (length (engine_runs e)) (length l / 2) in
    (step_refused e l h, (settled_none last (runs_offer (engine_runs e) l) h).1)

-- ---- a start
-- it is a call that offers nothing
abbrev nothing : Offer ℕ
nothing = record { count = 0; space = 0; after = []; before = [] }

started_given : (v : Verdict) (e : Engine) → record { answer = (started_by v e).answer; list = [] } ≡ given v nothing
started_given Passed e = refl
started_given (Refused n place) e = refl

-- a segment is a path, so that nothing is left of the check of a path
path_too : (p : List ℤ) (v r : Verdict) → ((v then segment_verdict p) then path_verdict p then r) ≡ (v then segment_verdict p then r)
path_too p (Refused n place) r = refl
path_too p Passed r = go (segment_verdict p) refl
  where
    go : (w : Verdict) → segment_verdict p ≡ w → (w then path_verdict p then r) ≡ (w then r)
    go Passed e = ap (λ (u : Verdict). u then r) (entries_passed (passed_entries p e)).1
    go (Refused n place) e = refl

pub start_refuses : StartRefuses
unfolding started
start_refuses t n p columns rows j =
    let looks = looked_verdict (looked t n) in
    let all = start_verdict t n p columns rows j in
    let rest = raster_verdict columns rows then row_verdict rows j then coordinate_verdict p in
    subst (Refuses {A = ℕ} 6 (NoPen t n) (¬ TwoOrFour (length p)) p columns rows j 0 0 []) (sym (started_given all (engine_of (held_at t n).pen p columns rows j)))
    (given_refuses nothing p columns rows j looks (segment_verdict p) (look_says t n) (segment_says p) (look_placed p (looked t n)) (segment_placed p) all
    (ap (λ (v : Verdict). v then room_verdict 0 0) (path_too p looks rest)
    ∙ in_order looks (segment_verdict p) (raster_verdict columns rows) (row_verdict rows j) (coordinate_verdict p) (room_verdict 0 0)))

-- ---- a start and a row call
-- two answers that tell of the same verdict
started_number : (v : Verdict) (e : Engine) → ((started_by v e).answer.refusal ≡ number_of v) × ((started_by v e).answer.place ≡ place_of v)
started_number Passed e = (refl, refl)
started_number (Refused n place) e = (refl, refl)

-- where a segment is lent, its checks are the row call's
segment_checks : (t : Table) (n : ℕ) {p : List ℤ} (columns rows j : ℕ) → Entries p → start_verdict t n p columns rows j ≡ call_verdict (looked_verdict (looked t n)) p columns rows j
segment_checks t n {p} columns rows j h = go (looked_verdict (looked t n))
  where
    go : (v : Verdict) → ((v then segment_verdict p) then verdict p columns rows j) ≡ (v then verdict p columns rows j)
    go Passed = ap (λ (w : Verdict). w then verdict p columns rows j) (entries_passed h).0
    go (Refused n place) = refl

-- a check that is not 7, with the room's check after it, is that check
no_seven : (v : Verdict) (needed space : ℕ) → ¬ (number_of (v then room_verdict needed space) ≡ 7) → (v then room_verdict needed space) ≡ v
no_seven (Refused n place) needed space h = refl
no_seven Passed needed space h = go (leb needed space) h
  where
    go : (t : Bool) → ¬ (number_of (unless t room) ≡ 7) → unless t room ≡ Passed
    go true h = refl
    go false h = absurd (h refl)

pub start_is_check : StartIsCheck
unfolding started row_call
start_is_check t n p columns rows j two l h =
    let rs = row_runs (held_corners t n) (path_points p) columns j in
    let v = call_verdict (looked_verdict (looked t n)) p columns rows j in
    let all = v then room_verdict (length rs) (length l / 2) in
    let number_is = settled_number all (runs_offer rs l) in
    let place_is = settled_place all (runs_offer rs l) in
    let same = segment_checks t n columns rows j (entries p two) ∙ sym (no_seven v (length rs) (length l / 2) (λ e. h (number_is ∙ e))) in
    let s = started_number (start_verdict t n p columns rows j) (engine_of (held_at t n).pen p columns rows j) in
    (s.0 ∙ ap number_of same ∙ sym number_is, s.1 ∙ ap place_of same ∙ sym place_is)
