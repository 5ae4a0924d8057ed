-- All refusals come before anything is written.
use Rattle.std.proofs.Common.{◌∙◌, sym, ap, ℕ, ◌*◌, length}
use Rattle.checks.specs.Checks.{room_verdict}
use Rattle.checks.proofs.Given.{passed_here, no_room}
use Rattle.pbm.specs.Pbm.{file_offer}
use Rattle.drawing.specs.Strokes.{drawing_of}
use Rattle.drawing.specs.Film.{band_of}
use Rattle.drawing.proofs.Put.{band_long}
use Rattle.film_band.proofs.put_band.Goals as goal

-- where the length of a row is known, so is the band's
pub returns-in_default-room : goal.returns-in_default-room
returns-in_default-room c =
    let a = c.args in
    let d = drawing_of a.settings.now a.apertures.now a.starts.now a.entries.now in
    let band = band_of d a.columns a.rows a.first a.n in
    let o = file_offer band a.out.now in
    let long = ap (λ (w : ℕ). a.n * w) c.length_of-width.ensures ∙ sym (band_long d a.columns a.rows a.first a.n) in
    let verdict = c.room_check-room.ensures ∙ ap (λ (n : ℕ). room_verdict n (length a.out.now)) long in
    passed_here o c.band_check-checked.ensures c.in-Passed.is (no_room o verdict c.in_default-room.is c.report-in_default-room.ensures)
