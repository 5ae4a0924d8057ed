-- Each check refuses, or leads to the next; where all are passed, the band is the definition's.
use mathlib.Core.Path.{◌≡◌, sym, ap, ◌∙◌}
use Prim.Native.Nat.{◌<◌, ◌^◌}
use lib.ListN.{length}
use Rattle.limits.specs.Sizes.{Drawable}
use Rattle.limits.specs.declared.Verdict.TheVariants.{Passed}
use Rattle.setting.specs.declared.Setting.{Setting}
use Rattle.setting.specs.declared.Checked.TheVariants as checked·
use Rattle.setting.specs.Answer.{checked}
use Rattle.checks.specs.Checks.{room_verdict}
use Rattle.band.specs.Band.{room_for}
use Rattle.band.proofs.Call.{call_unset, call_refused, set_taken, drawable, call_no_room, band_fits, band_part, call_given}
use borrow.Author.Rules.{rules}
use Rattle.band.proofs.lay.Goals as goal
use Rattle.band.proofs.lay.Goals.{After-room_check-room, After-top_row-top, Start}

abbrev σ : Start → Setting
σ s = record { w = s.args.w; p = s.args.p; q = s.args.q }

-- what each has answered
found : (c : After-top_row-top) → checked (σ c.before.before.before.before.before) ≡ checked·.Taken c.in-Taken.s
found c = sym c.check.ensures ∙ c.in-Taken.is

is_passed : (c : After-room_check-room) → c.check-checked.result ≡ Passed
is_passed c = c.in-Passed.is

-- the room that was asked for is the band's
room : (c : After-room_check-room) → let a = c.args in c.room_check-room.result ≡ room_verdict a.n (room_for a.columns a.stride (length a.bytes.now))
room c = let a = c.args in c.room_check-room.ensures ∙ ap (room_verdict a.n) c.room_for.ensures

-- the bytes are no more than a slice can have
few : (s : Start) → length s.args.bytes.now < 2 ^ 63
few s = search rules

-- ---- what the checks that are passed say
in_limits : (c : After-room_check-room) → let a = c.args in Drawable a.path.now a.columns c.top_row-top.result
in_limits c =
    let a = c.args in
    drawable (σ c.before.before.before.before.before.before.before.before.before) a.path.now a.columns a.rows a.first a.n a.stride a.bytes.now (found (record { before = c.before.before.before.before.before; type_inv = record { bytes = c.type_inv.bytes } })) c.top_row-top.ensures c.check-checked.ensures (is_passed c)

pub returns-in_default : goal.returns-in_default
returns-in_default c =
    let a = c.args in
    call_unset (σ (goal.at.returns-in_default c).Start) a.path.now a.columns a.rows a.first a.n a.stride a.bytes.now (sym c.check.ensures ∙ c.in_default.is) c.report.ensures

pub returns-in_default-checked : goal.returns-in_default-checked
returns-in_default-checked c =
    let a = c.args in
    let at = goal.at.returns-in_default-checked c in
    call_refused (σ at.Start) a.path.now a.columns a.rows a.first a.n a.stride a.bytes.now (found at.After-top_row-top) c.top_row-top.ensures c.check-checked.ensures c.in_default-checked.is c.report-in_default-checked.ensures

pub returns-in_default-room : goal.returns-in_default-room
returns-in_default-room c =
    let a = c.args in
    let at = goal.at.returns-in_default-room c in
    call_no_room (σ at.Start) a.path.now a.columns a.rows a.first a.n a.stride a.bytes.now (found at.After-top_row-top) c.top_row-top.ensures c.check-checked.ensures (is_passed at.After-room_check-room) (room at.After-room_check-room) c.in_default-room.is c.report-in_default-room.ensures

pub lay_drawn-requires-clause-taken : goal.lay_drawn-requires-clause-taken
lay_drawn-requires-clause-taken c =
    let a = c.args in
    let at = goal.at.lay_drawn-requires-clause-taken c in
    set_taken (σ at.Start) a.path.now a.columns a.rows a.first a.n a.stride a.bytes.now (found at.After-top_row-top) c.top_row-top.ensures c.check-checked.ensures

pub lay_drawn-requires-clause-ranged : goal.lay_drawn-requires-clause-ranged
lay_drawn-requires-clause-ranged c = (in_limits (goal.at.lay_drawn-requires-clause-ranged c).After-room_check-room).coordinates

pub lay_drawn-requires-clause-fits : goal.lay_drawn-requires-clause-fits
lay_drawn-requires-clause-fits c =
    let a = c.args in
    let at = goal.at.lay_drawn-requires-clause-fits c in
    band_fits (σ at.Start) a.path.now a.columns a.rows a.first a.n a.stride a.bytes.now (found at.After-top_row-top) c.top_row-top.ensures c.check-checked.ensures (is_passed at.After-room_check-room) (room at.After-room_check-room) c.in-Passed-room.is

pub lay_drawn-requires-clause-part : goal.lay_drawn-requires-clause-part
lay_drawn-requires-clause-part c =
    let a = c.args in
    let at = goal.at.lay_drawn-requires-clause-part c in
    band_part (σ at.Start) a.path.now a.columns a.rows a.first a.n a.stride a.bytes.now (found at.After-top_row-top) c.top_row-top.ensures c.check-checked.ensures (is_passed at.After-room_check-room) (room at.After-room_check-room) c.in-Passed-room.is (few at.Start)

pub returns : goal.returns
returns c =
    let a = c.args in
    let at = goal.at.returns c in
    call_given (σ at.Start) a.path.now a.columns a.rows a.first a.n a.stride a.bytes.now (found at.After-top_row-top) c.top_row-top.ensures c.check-checked.ensures (is_passed at.After-room_check-room) (room at.After-room_check-room) c.in-Passed-room.is c.done.ensures c.lay_drawn.ensures
