-- The two sizes' digits are those that the definition has, and few, so nothing wraps. Both refusals come before anything is written.
use Rattle.std.proofs.Common.{◌≡◌, ◌+◌, ℕ, ◌≤◌, length, ap, ◌∙◌, arith}
use Rattle.checks.specs.Checks.{room_verdict}
use Rattle.checks.specs.Answer.{Offer, done}
use Rattle.checks.proofs.Verdicts.{room_passed}
use Rattle.checks.proofs.Given.{passed_here, no_room, room_left}
use Rattle.text.specs.Decimal.{decimal}
use Rattle.text.proofs.Decimal.{Written, written}
use Rattle.pbm.specs.Pbm.{header, file_offer}
use Rattle.pbm.proofs.Pieces.{header_length, same_digits}
use Rattle.pbm.proofs.put_header.Goals as goal

pub returns-in_default-room : goal.returns-in_default-room
returns-in_default-room c =
    let a = c.args in
    let n = c.decimal-n in
    let m = c.decimal-m in
    let o : Offer ℕ = file_offer (header a.columns a.rows) a.out.now in
    let wide : Written a.columns n.result n.new.out = written _ n.ensures.in_bounds n.ensures.len n.ensures.digits in
    let high : Written a.rows m.result m.new.out = written _ m.ensures.in_bounds m.ensures.len m.ensures.digits in
    let long : n.result + m.result + 5 ≡ length (header a.columns a.rows) = omega (arith, header_length (decimal a.columns) (decimal a.rows), wide.long, high.long) in
    let verdict : c.room_check-room.result ≡ room_verdict (length (header a.columns a.rows)) (length a.out.now) =
    c.room_check-room.ensures ∙ ap (λ (k : ℕ). room_verdict k (length a.out.now)) long in
    passed_here o c.raster_check-of_raster.ensures c.in-Passed.is (no_room o verdict c.in_default-room.is c.report-in_default-room.ensures)

pub returns : goal.returns
returns c =
    let a = c.args in
    let n = c.decimal-n in
    let m = c.decimal-m in
    let o : Offer ℕ = file_offer (header a.columns a.rows) a.out.now in
    let wide : Written a.columns n.result n.new.out = written _ n.ensures.in_bounds n.ensures.len n.ensures.digits in
    let high : Written a.rows m.result m.new.out = written _ m.ensures.in_bounds m.ensures.len m.ensures.digits in
    let long : n.result + m.result + 5 ≡ length (header a.columns a.rows) = omega (arith, header_length (decimal a.columns) (decimal a.rows), wide.long, high.long) in
    let verdict : c.room_check-room.result ≡ room_verdict (length (header a.columns a.rows)) (length a.out.now) =
    c.room_check-room.ensures ∙ ap (λ (k : ℕ). room_verdict k (length a.out.now)) long in
    let room : length (header a.columns a.rows) ≤ length a.out.now = room_passed _ _ verdict c.in-Passed-room.is in
    passed_here o c.raster_check-of_raster.ensures c.in-Passed.is
    (room_left o room (c.done.ensures ∙ ap done long) (c.put_digits.ensures ∙ same_digits a.out.now wide.text high.text))
