-- A band of a film, one stroke more at a time: what the band call lays over the rows is what the row calls lay over each of them.
use Prim.Native.Nat.{ℕ, ◌+◌, ◌-◌, ◌*◌, ◌/◌, ◌<◌}
use native.Mathlib.Nat.{mul-div_cancel}
use native.Mathlib.Omega.{arith}
use mathlib.Core.Path.{◌≡◌, refl, sym, ap, ◌∙◌}
use mathlib.Core.List.{List}
use borrow.Author.Tests.{le-leb}
use lib.ListN.{length, get_or, replicate}
use lib.IntN.{ℤ}
use Rattle.limits.specs.declared.Verdict.TheVariants.{Passed}
use Rattle.setting.specs.declared.Setting.{Setting}
use Rattle.setting.specs.Setting.{Taken}
use Rattle.setting.specs.Answer.{checked, checked_verdict}
use Rattle.setting.proofs.Limits.{taken_iff}
use Rattle.setting.proofs.Answers.{accepted}
use Rattle.pen.specs.Polygon.{pen}
use Rattle.bits.specs.Bits.{packed_length, laid_over}
use Rattle.checks.specs.Checks.{verdict}
use Rattle.checks.specs.Answer.{Result}
use Rattle.checks.proofs.Given.{passed_here, room_left}
use Rattle.packed.specs.Packed.{packed_call}
use Rattle.band.specs.Band.{band_over, top_row, room_for, band_offer, band_call}
use Rattle.band.specs.Theorems.{packed_row}
use Rattle.band.proofs.Theorems.{band_is_rows}
use Rattle.pbm.specs.Pbm.{top_first}
use Rattle.setting_list.specs.Settings.{setting_at}
use Rattle.drawing.specs.Strokes.{Drawing, table_in, path_of}
use Rattle.drawing.specs.Film.{added, row_up_to, band_up_to}
use Rattle.drawing.proofs.Rows.{same_rows}
use Rattle.drawing.proofs.Put.{row_long, up_to_long, raster_passed}
use Rattle.drawing.proofs.Drawable.{both, raster_too, drawable_film, own_setting, Passes}
use Rattle.drawing.proofs.Packed.{stroke_row}
use Rattle.film_band.proofs.Rows.{row_more, zero_rows, rows_over_lem}

-- ---- the call
-- where its checks are passed and there is room for just its rows, it lays the stroke over them
call_laid : (σ : Setting) (path : List ℤ) (columns rows first n : ℕ) (b : List ℕ) → Taken σ → verdict path columns rows (top_row rows first n) ≡ Passed →
    0 < packed_length columns → length b ≡ n * packed_length columns →
    (band_call σ path columns rows first n (packed_length columns) b).list ≡ band_over (pen σ) path columns first n (packed_length columns) b
unfolding band_call
call_laid σ path columns rows first n b t v w long =
    let o = band_offer (pen σ) path columns first n (packed_length columns) b in
    let room : room_for columns (packed_length columns) (length b) ≡ n =
    rw (le-leb (packed_length columns) (packed_length columns) (omega arith)) (ap (λ (m : ℕ). m / packed_length columns) long ∙ mul-div_cancel n w) in
    let taken : checked_verdict (checked σ) ≡ Passed = ap checked_verdict (sym (accepted σ ((taken_iff σ).1 t))) in
    sym (ap (λ (r : Result ℕ). r.list) (passed_here o (sym (both taken v)) refl (room_left o (omega (arith, room)) refl refl)))

-- ---- the rows
module _ (d : Drawing) (columns rows first n : ℕ) (p : Passes d columns rows first n) where
  some_columns : 0 < packed_length columns
  some_columns = omega (arith, (raster_passed columns rows (raster_too d columns rows p.film)).0.some)

  module _ (k : ℕ) (h : k < length d.apertures) where
    abbrev number : ℕ
    number = get_or d.apertures k 0

    abbrev path : List ℤ
    path = path_of d.starts d.entries k

    abbrev σ : Setting
    σ = setting_at d.settings (number - 10)

    abbrev before : ℕ → List ℕ
    before j = row_up_to d columns rows (first + j) (packed_length columns) k

    -- a row of the band with the stroke laid over it
    row_laid : (j : ℕ) → j < n → laid_over (before j) (packed_row (pen σ) path columns (first + j)) ≡ added (table_in d) number path columns rows (first + j) (before j)
    row_laid j l =
        let passes = (drawable_film d columns rows p.film).passes k (first + j) h (omega (arith, p.inside)) in
        ap (laid_over (before j)) (sym (stroke_row (own_setting d columns rows p.film k h) path columns rows (first + j) passes))
        ∙ ap (λ (m : ℕ). laid_over (before j) (packed_call (table_in d) number path columns rows (first + j) (replicate m 0)).list) (sym (row_long d columns rows (first + j) (packed_length columns) k))

    pub band_more : (band_call σ path columns rows first n (packed_length columns) (band_up_to d columns rows first n k)).list ≡ band_up_to d columns rows first n (k + 1)
    band_more =
        let w = packed_length columns in
        call_laid σ path columns rows first n (band_up_to d columns rows first n k) (own_setting d columns rows p.film k h).taken
        ((drawable_film d columns rows p.film).passes k (top_row rows first n) h p.top) some_columns (up_to_long d columns rows first n k)
        ∙ band_is_rows (pen σ) path columns first n w (top_first n before) some_columns
        ∙ rows_over_lem (λ j. packed_row (pen σ) path columns (first + j)) before w n (λ j. row_long d columns rows (first + j) w k)
        ∙ same_rows _ _ n (λ j l. row_laid j l ∙ row_more d columns rows (first + j) w k)

-- before the first stroke the band is white
pub band_none : (d : Drawing) (columns rows first n : ℕ) → replicate (n * packed_length columns) 0 ≡ band_up_to d columns rows first n 0
unfolding row_up_to
band_none d columns rows first n = zero_rows (packed_length columns) n
