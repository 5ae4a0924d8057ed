-- The bands in their order: the claims BandsInOrder and BandsTaken.
use Prim.Native.Nat.{ℕ, zero, suc, ◌+◌, ◌-◌, ◌*◌, ◌/◌, ◌≤◌, ◌<◌, max}
use native.Mathlib.Nat.{mul-le-mul_right, div-mul-le_self, le-div_iff_mul-le, le_trans}
use native.Mathlib.Omega.{arith}
use native.Mathlib.Decide.{dec_lt}
use mathlib.Core.Path.{◌≡◌, refl, sym, ap, ◌∙◌}
use mathlib.Core.Logic.{inl, inr}
use mathlib.Core.List.{List, [], ◌++◌}
use lib.Dec.{ltb}
use lib.ListN.{length}
use borrow.Author.Tests.{lt-ltb, ltb-true}
use Rattle.limits.specs.Refusal.{row}
use Rattle.limits.specs.declared.Verdict.{Verdict}
use Rattle.limits.specs.declared.Verdict.TheVariants.{Passed}
use Rattle.limits.proofs.Verdicts.{passed, unless_true}
use Rattle.bits.specs.Bits.{packed_length}
use Rattle.checks.specs.Checks.{row_verdict}
use Rattle.checks.specs.Answer.{Result, Offer, given}
use Rattle.checks.proofs.Given.{room_left}
use Rattle.band.specs.Band.{top_row}
use Rattle.band.specs.Refuses.{BadBand}
use Rattle.band.proofs.Rules.{top_is}
use Rattle.band.proofs.Theorems.{top_row_is}
use Rattle.pbm.specs.Pbm.{header, top_first, file_offer}
use Rattle.drawing.specs.Strokes.{Drawing, film_verdict}
use Rattle.drawing.specs.Film.{band_of, band_verdict, band_put}
use Rattle.drawing.proofs.Put.{band_long, raster_passed}
use Rattle.drawing.proofs.Drawable.{both, raster_too, band_passes, band_gave}
use Rattle.drawing.proofs.Bands.{bands_make_film}
use Rattle.output.specs.Bands.{band_bytes, rows_of, next_band, bands_from}
use Rattle.output.specs.Theorems.{BandsInOrder, BandsTaken}

-- ---- how many rows
pub few : (width left : ℕ) → rows_of width left ≤ left
few width left = omega arith

pub some : (width left : ℕ) → 1 ≤ left → 1 ≤ rows_of width left
some width left h = omega arith

-- they fit into the buffer
fits : (width left : ℕ) → 1 ≤ width → width ≤ band_bytes → rows_of width left * width ≤ band_bytes
fits width left h k =
    let n = band_bytes / max width 1 in
    let one : max width 1 ≡ width = omega arith in
    let some : 1 ≤ n = rw one ((le-div_iff_mul-le h).1 (omega arith)) in
    let most : rows_of width left ≤ n = omega arith in
    le_trans (mul-le-mul_right width most) (rw one (div-mul-le_self band_bytes width))

-- ---- one behind the other
module _ (d : Drawing) (columns rows first : ℕ) where
  no_row : (left : ℕ) → left ≤ 0 → [] ≡ band_of d columns rows first left
  unfolding top_first
  no_row zero h = refl
  no_row (suc left) h = absurd (omega arith)

  joined : (bands left : ℕ) → left ≤ bands → bands_from d columns rows first bands left ≡ band_of d columns rows first left
  unfolding bands_from
  joined zero left h = no_row left h
  joined (suc bands) left h =
      let n = rows_of (packed_length columns) left in
      let less : left - n ≤ bands = omega arith in
      let all : left - n + n ≡ left = omega arith in
      ap (λ (l : List ℕ). next_band d columns rows first left ++ l) (joined bands (left - n) less)
      ∙ sym ((bands_make_film d columns rows).meet first (left - n) n)
      ∙ ap (band_of d columns rows first) all

pub bands_in_order : BandsInOrder
bands_in_order d columns rows = record {
  some = λ first n. joined d columns rows first n n (omega arith);
  all = ap (λ (l : List ℕ). header columns rows ++ l) (joined d columns rows 0 rows rows (omega arith)) ∙ sym (bands_make_film d columns rows).whole;
}

-- ---- taken or refused
-- rows whose check is passed are the raster's
pub rows_inside : (rows first n : ℕ) → row_verdict rows (top_row rows first n) ≡ Passed → first + n ≤ rows
rows_inside rows first n e =
    let top = ltb-true (top_row rows first n) rows (unless_true (ltb (top_row rows first n) rows) row e) in
    let good : ¬ BadBand rows first n = λ z. (top_row_is rows first n).1 z top in
    let few : ¬ (rows - first < n) = λ z. good (inr (inr z)) in
    elim (dec_lt first rows) [ yes l ↦ omega arith | no l ↦ absurd (good (inl l)) ]

module _ (d : Drawing) (columns rows : ℕ) where
  -- the film's checks are passed, and its rows are there
  pub passes : (first n : ℕ) → film_verdict d columns rows ≡ Passed → 1 ≤ n → first + n ≤ rows → band_verdict d columns rows first n ≡ Passed
  passes first n e h k = both e (sym (passed row (lt-ltb (top_row rows first n) rows (omega (arith, top_is rows first n h k)))))

  -- so a band is put where there is room for it
  pub put : (first n : ℕ) (b : List ℕ) → band_verdict d columns rows first n ≡ Passed → n * packed_length columns ≤ length b → (band_put d columns rows first n b).answer.refusal ≡ 0
  put first n b e h =
      let o : Offer ℕ = file_offer (band_of d columns rows first n) b in
      ap (λ (v : Verdict). (given v o).answer.refusal) e
      ∙ sym (ap (λ (r : Result ℕ). r.answer.refusal) (room_left o (omega (arith, band_long d columns rows first n)) refl refl))

  -- a band that was put has passed them
  pub put_passed : (first n : ℕ) (b : List ℕ) → (band_put d columns rows first n b).answer.refusal ≡ 0 → band_verdict d columns rows first n ≡ Passed
  put_passed first n b e =
      (band_gave d columns rows first n (packed_length columns) b (record { wide = record { enough = omega arith; least = omega arith }; answer = e })).passed

  -- and the answer of the call that put it tells so
  pub answer_passed : {r : Result ℕ} (first n : ℕ) (b : List ℕ) → r ≡ band_put d columns rows first n b → r.answer.refusal ≡ 0 → band_verdict d columns rows first n ≡ Passed
  answer_passed first n b e done = put_passed first n b (sym (ap (λ (s : Result ℕ). s.answer.refusal) e) ∙ done)

pub bands_taken : BandsTaken
bands_taken d columns rows first n = record {
  none = λ b e.
      let k = rows_of (packed_length columns) n in
      let p = band_passes d columns rows (first + (n - k)) k (put_passed d columns rows (first + (n - k)) k b e) in
      let less = few (packed_length columns) n in
      passes d columns rows first n p.film (omega (arith, less, p.some)) (omega (arith, less, p.inside));
  all = λ e left b h l m.
      let p = band_passes d columns rows first n e in
      let k = rows_of (packed_length columns) left in
      let size = (raster_passed columns rows (raster_too d columns rows p.film)).0 in
      let less = few (packed_length columns) left in
      let wide : (1 ≤ packed_length columns) × (packed_length columns ≤ band_bytes) = (omega (arith, size.some), omega (arith, size.few)) in
      put d columns rows (first + (left - k)) k b
      (passes d columns rows (first + (left - k)) k p.film (some (packed_length columns) left h) (omega (arith, less, p.inside)))
      (omega (arith, fits (packed_length columns) left wide.0 wide.1));
}
