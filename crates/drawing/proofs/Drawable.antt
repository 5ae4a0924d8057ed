-- Where the checks of a film are passed, every stroke's aperture holds a setting and its path is drawn in every row: the claim BandTaken.
use Prim.Native.Nat.{ℕ, ◌+◌, ◌-◌, ◌≤◌, ◌<◌}
use native.Mathlib.Omega.{arith}
use native.Mathlib.Decide.{dec_lt}
use mathlib.Core.Path.{◌≡◌, refl, sym, ap, subst}
use mathlib.Core.Logic.{inl, inr}
use mathlib.Core.Bool.{true, ◌&&◌}
use mathlib.Core.List.{List}
use lib.Dec.{ltb}
use lib.ListN.{length, get_or}
use lib.IntN.{ℤ}
use borrow.Author.Tests.{lt-ltb, ltb-true}
use Rattle.limits.specs.Sizes.{is_size}
use Rattle.limits.specs.declared.Verdict.{Verdict}
use Rattle.limits.specs.declared.Verdict.TheVariants.{Passed}
use Rattle.limits.specs.Refusal.{raster, row, ◌then◌}
use Rattle.limits.proofs.Verdicts.{not_passed, passed, then_both, unless_true, NotZero, then_not_zero, unless_not_zero}
use Rattle.aperture.specs.declared.Place.{Place}
use Rattle.aperture.specs.declared.Table.{Table}
use Rattle.aperture.specs.declared.Looked.{Looked}
use Rattle.aperture.specs.declared.Looked.TheVariants as looked·
use Rattle.aperture.specs.Table.{place_of, is_held, looked, looked_verdict}
use Rattle.aperture.specs.Reachable.{Reachable, Holds}
use Rattle.aperture.proofs.Theorems.{looked_held}
use Rattle.aperture.proofs.Numbers.{number_iff}
use Rattle.aperture.proofs.Delivered.{used_holds}
use Rattle.checks.specs.Checks.{path_verdict, raster_verdict, row_verdict, coordinate_verdict, verdict}
use Rattle.checks.proofs.Given.{Gave, zero_gave}
use Rattle.band.specs.Band.{top_row}
use Rattle.band.specs.Refuses.{BadBand}
use Rattle.band.proofs.Theorems.{top_row_is}
use Rattle.pbm.specs.Pbm.{file_offer}
use Rattle.setting_list.specs.Settings.{setting_at, settings_verdict}
use Rattle.drawing.specs.Strokes.{Drawing, table_in, path_of, first_refused, strokes_verdict, film_verdict}
use Rattle.drawing.specs.Film.{band_of, band_verdict, band_put}
use Rattle.drawing.specs.Theorems.{DrawableFilm, BandDone, BandTaken}
use Rattle.setting_list.proofs.Made.{table_made, settings_not_zero}
use Rattle.setting_list.proofs.Held.{held_setting}
use Rattle.drawing.proofs.Told.{takes_passed, strokes_told, all_taken, strokes_not_zero}

-- ---- the aperture
-- an aperture that is found is in use
found_held : (t : Table) (n : ℕ) → looked_verdict (looked t n) ≡ Passed → is_held t n ≡ true
found_held t n e = go (looked t n) refl e
  where
    go : (v : Looked) → looked t n ≡ v → looked_verdict v ≡ Passed → is_held t n ≡ true
    go (looked·.At i) q e = (looked_held t n i q).0
    go looked·.Refused q e = not_passed e

-- so it holds the setting that stands in its place
held_own : (t : Table) → Reachable t → (n : ℕ) → is_held t n ≡ true → Holds t n (place_of t n).setting
held_own t r n e = let u = used_holds t r n e in subst (Holds t n) (sym (ap (λ (p : Place). p.setting) u.1.place)) u.1

-- ---- the path
pub both : {u v : Verdict} → u ≡ Passed → v ≡ Passed → (u then v) ≡ Passed
both e f = rw (e, f)

-- what is checked of row 0 is checked of every row
every_row : (p : List ℤ) (columns rows j : ℕ) → j < rows → verdict p columns rows 0 ≡ Passed → verdict p columns rows j ≡ Passed
every_row p columns rows j h e =
    let a = then_both (path_verdict p) (raster_verdict columns rows then row_verdict rows 0 then coordinate_verdict p) e in
    let b = then_both (raster_verdict columns rows) (row_verdict rows 0 then coordinate_verdict p) a.1 in
    let c = then_both (row_verdict rows 0) (coordinate_verdict p) b.1 in
    both a.0 (both b.0 (both (sym (passed row (lt-ltb j rows h))) c.1))

-- ---- the checks of a film that are passed
module _ (d : Drawing) (columns rows : ℕ) (e : film_verdict d columns rows ≡ Passed) where
  after_settings : (strokes_verdict (first_refused d columns rows) then raster_verdict columns rows) ≡ Passed
  after_settings = (then_both (settings_verdict d.settings) (strokes_verdict (first_refused d columns rows) then raster_verdict columns rows) e).1

  pub raster_too : raster_verdict columns rows ≡ Passed
  raster_too = (then_both (strokes_verdict (first_refused d columns rows)) (raster_verdict columns rows) after_settings).1

  parts : (k : ℕ) → k < length d.apertures → (looked_verdict (looked (table_in d) (get_or d.apertures k 0)) ≡ Passed) × (verdict (path_of d.starts d.entries k) columns rows 0 ≡ Passed)
  parts k h =
      let taken = all_taken d columns rows (strokes_told d columns rows) (then_both (strokes_verdict (first_refused d columns rows)) (raster_verdict columns rows) after_settings).0 in
      then_both (looked_verdict (looked (table_in d) (get_or d.apertures k 0))) (verdict (path_of d.starts d.entries k) columns rows 0) (takes_passed d columns rows k (taken k h))

  held : (k : ℕ) → k < length d.apertures → is_held (table_in d) (get_or d.apertures k 0) ≡ true
  held k h = found_held (table_in d) (get_or d.apertures k 0) (parts k h).0

  pub drawable_film : DrawableFilm d columns rows
  drawable_film = record {
    holds = λ k h. held_own (table_in d) (table_made d.settings).reachable (get_or d.apertures k 0) (held k h);
    passes = λ k j h l. every_row (path_of d.starts d.entries k) columns rows j l (parts k h).1;
  }

  -- the aperture of stroke k by the list of settings
  pub own_setting : (k : ℕ) → k < length d.apertures → Holds (table_in d) (get_or d.apertures k 0) (setting_at d.settings (get_or d.apertures k 0 - 10))
  own_setting k h = held_setting d.settings (get_or d.apertures k 0) (held k h)

  pub aperture_small : (k : ℕ) → k < length d.apertures → (10 ≤ get_or d.apertures k 0) × (get_or d.apertures k 0 ≤ 41)
  aperture_small k h = (number_iff (get_or d.apertures k 0)).0 (own_setting k h).number

-- ---- a band
-- a band whose checks are passed: those of the film are, and all of its rows are the raster's
pub record Passes (d : Drawing) (columns rows first n : ℕ) : Type 0 where
  pub film : film_verdict d columns rows ≡ Passed
  pub top : top_row rows first n < rows
  pub some : 1 ≤ n
  pub inside : first + n ≤ rows

pub band_passes : (d : Drawing) (columns rows first n : ℕ) → band_verdict d columns rows first n ≡ Passed → Passes d columns rows first n
band_passes d columns rows first n e =
    let b = then_both (film_verdict d columns rows) (row_verdict rows (top_row rows first n)) e in
    let top = ltb-true (top_row rows first n) rows (unless_true (ltb (top_row rows first n) rows) row b.1) in
    let good : ¬ BadBand rows first n = λ z. (top_row_is rows first n).1 z top in
    let some : ¬ (n ≡ 0) = λ z. good (inr (inl z)) in
    let few : ¬ (rows - first < n) = λ z. good (inr (inr z)) in
    record {
      film = b.0;
      top = top;
      some = omega arith;
      inside = elim (dec_lt first rows) [ yes l ↦ omega arith | no l ↦ absurd (good (inl l)) ];
    }

-- a refusal of a band is never 0
band_not_zero : (d : Drawing) (columns rows first n : ℕ) → NotZero (band_verdict d columns rows first n)
band_not_zero d columns rows first n =
    then_not_zero (film_verdict d columns rows) _
    (then_not_zero (settings_verdict d.settings) _ (settings_not_zero d.settings)
    (then_not_zero (strokes_verdict (first_refused d columns rows)) _ (strokes_not_zero d columns rows) (unless_not_zero (is_size columns && is_size rows) raster)))
    (unless_not_zero (ltb (top_row rows first n) rows) row)

-- a band that answered 0 was given
pub band_gave : (d : Drawing) (columns rows first n width : ℕ) (b : List ℕ) → BandDone d columns rows first n width b →
    let r = band_put d columns rows first n b in Gave (band_verdict d columns rows first n) (file_offer (band_of d columns rows first n) b) r.answer r.list
band_gave d columns rows first n width b s =
    let r = band_put d columns rows first n b in
    zero_gave (file_offer (band_of d columns rows first n) b) (band_verdict d columns rows first n) (band_not_zero d columns rows first n) r.answer r.list refl s.answer

done_passes : (d : Drawing) (columns rows first n width : ℕ) (b : List ℕ) → BandDone d columns rows first n width b → Passes d columns rows first n
done_passes d columns rows first n width b s = band_passes d columns rows first n (band_gave d columns rows first n width b s).passed

pub band_taken : BandTaken
band_taken d columns rows first n width b s =
    let p = done_passes d columns rows first n width b s in record {
      drawable = drawable_film d columns rows p.film;
      settings = λ k h. ap (λ (q : Place). q.setting) (own_setting d columns rows p.film k h).place;
      inside = p.inside;
    }
