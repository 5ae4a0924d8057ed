-- The call by what its checks answer; and what those that are passed leave to be drawn: a band of the raster, with room for its rows.
use Prim.Native.Nat.{ℕ, ◌+◌, ◌-◌, ◌*◌, ◌/◌, ◌^◌, ◌≤◌, ◌<◌}
use native.Mathlib.Nat.{le_refl, le_trans, mul-le-mul, mul-div-le, lt_of_le_of_lt}
use native.Mathlib.Omega.{arith}
use mathlib.Core.Path.{◌≡◌, refl, sym, ap, subst, ◌∙◌}
use mathlib.Core.Bool.{Bool, true, false, cond, ◌&&◌}
use mathlib.Core.List.{List}
use borrow.Author.Tests.{leb-true, ltb-true}
use lib.Dec.{leb, ltb}
use lib.ListN.{length}
use lib.IntN.{ℤ}
use Rattle.integers.proofs.Tests.{and_both}
use Rattle.limits.specs.Refusal.{setting, row, refuse, ◌then◌}
use Rattle.limits.specs.declared.Verdict.{Verdict}
use Rattle.limits.specs.declared.Verdict.TheVariants.{Passed, Refused}
use Rattle.limits.specs.Sizes.{entries_max, Drawable}
use Rattle.limits.proofs.Verdicts.{then_both, unless_true}
use Rattle.bits.specs.Bits.{packed_length, blackened}
use Rattle.setting.specs.declared.Setting.{Setting}
use Rattle.setting.specs.declared.Checked.{Checked}
use Rattle.setting.specs.declared.Checked.TheVariants as checked·
use Rattle.setting.specs.Setting.{Taken}
use Rattle.setting.specs.Answer.{checked, checked_verdict}
use Rattle.setting.proofs.Answers.{checked_taken}
use Rattle.setting.proofs.Limits.{taken_iff}
use Rattle.pen.specs.Polygon.{pen}
use Rattle.checks.specs.declared.Answer.{Answer}
use Rattle.checks.specs.Checks.{path_verdict, raster_verdict, row_verdict, coordinate_verdict, verdict, call_verdict, room_verdict}
use Rattle.checks.specs.Answer.{done, answer_of}
use Rattle.checks.proofs.Verdicts.{verdict_passed, verdict_short, room_passed}
use Rattle.checks.proofs.Given.{refused_here, passed_here, no_room, room_left}
use Rattle.band.specs.declared.Shape.{Shape}
use Rattle.band.specs.Band.{top_row, room_for, band_offer, band_call}
use Rattle.band.specs.Rows.{shaped, path_black, Fits, Part}
use Rattle.band.proofs.Layers.{laid_band}

-- ---- what a check says
row_below : (p : List ℤ) (columns rows j : ℕ) → verdict p columns rows j ≡ Passed → j < rows
row_below p columns rows j e =
    let a = then_both (path_verdict p) (raster_verdict columns rows then row_verdict rows j then coordinate_verdict p) e in
    let b = then_both (raster_verdict columns rows) (row_verdict rows j then coordinate_verdict p) a.1 in
    ltb-true j rows (unless_true _ row (then_both (row_verdict rows j) (coordinate_verdict p) b.1).0)

-- where the highest row is one of the raster's, so are the others, and there is one
top_says : (rows first n : ℕ) → top_row rows first n < rows → (1 ≤ n) × (first + n ≤ rows) × (top_row rows first n ≡ first + (n - 1))
top_says rows first n h = go (ltb 0 n && leb (first + n) rows) refl h
  where
    go : (t : Bool) → (ltb 0 n && leb (first + n) rows) ≡ t → cond t (first + (n - 1)) rows < rows → (1 ≤ n) × (first + n ≤ rows) × (cond t (first + (n - 1)) rows ≡ first + (n - 1))
    go true e h = let b = and_both (ltb 0 n) (leb (first + n) rows) e in (ltb-true 0 n b.0, leb-true (first + n) rows b.1, refl)
    go false e h = absurd (omega arith)

-- where there is room for a row, it fits the stride; and so many strides are bytes that there are
room_says : (columns stride len n : ℕ) → 1 ≤ n → n ≤ room_for columns stride len → (packed_length columns ≤ stride) × (stride * n ≤ len)
room_says columns stride len n h k = go (leb (packed_length columns) stride) refl k
  where
    go : (t : Bool) → leb (packed_length columns) stride ≡ t → n ≤ cond t (len / stride) 0 → (packed_length columns ≤ stride) × (stride * n ≤ len)
    go true e k = (leb-true (packed_length columns) stride e, le_trans (mul-le-mul (le_refl stride) k) (mul-div-le len stride))
    go false e k = absurd (omega arith)

-- ---- the call
module _ (σ : Setting) (path : List ℤ) (columns rows first n stride : ℕ) (b : List ℕ) where
  pub call_unset : {a : Answer} → checked σ ≡ checked·.Refused → a ≡ answer_of (refuse setting 0) → record { answer = a; list = b } ≡ band_call σ path columns rows first n stride b
  unfolding band_call
  call_unset e f = rw (band_call, e, f)

  -- of a setting that is taken: v is what the other checks answer, top the highest row
  module _ {s : Setting} (e : checked σ ≡ checked·.Taken s) {v : Verdict} {top : ℕ} (t : top ≡ top_row rows first n) (c : v ≡ verdict path columns rows top) where
    left : v ≡ call_verdict (checked_verdict (checked σ)) path columns rows (top_row rows first n)
    left =
        c ∙ ap (verdict path columns rows) t
        ∙ ap (λ (k : Checked). call_verdict (checked_verdict k) path columns rows (top_row rows first n)) (sym e)

    pub call_refused : {m place : ℕ} {a : Answer} → v ≡ Refused m place → a ≡ answer_of v → record { answer = a; list = b } ≡ band_call σ path columns rows first n stride b
    unfolding band_call
    call_refused f g = refused_here (band_offer (pen σ) path columns first n stride b) left f g

    pub set_taken : Taken s
    set_taken = let h = checked_taken σ s e in subst Taken h.1 ((taken_iff σ).0 h.0)

    -- the checks are passed
    module _ (p : v ≡ Passed) where
      pub drawable : Drawable path columns top
      drawable = verdict_passed path columns rows top (sym c ∙ p)

      pub short : length path ≤ entries_max
      short = verdict_short path columns rows top (sym c ∙ p)

      pub in_raster : (1 ≤ n) × (first + n ≤ rows) × (top ≡ first + (n - 1))
      in_raster =
          let h = top_says rows first n (subst (λ (j : ℕ). j < rows) t (row_below path columns rows top (sym c ∙ p))) in
          (h.0, h.1, t ∙ h.2)

      pub call_no_room : {u : Verdict} {m place : ℕ} {a : Answer} → u ≡ room_verdict n (room_for columns stride (length b)) → u ≡ Refused m place → a ≡ answer_of u →
          record { answer = a; list = b } ≡ band_call σ path columns rows first n stride b
      unfolding band_call
      call_no_room f g h = let o = band_offer (pen σ) path columns first n stride b in passed_here o left p (no_room o f g h)

      -- and there is room
      module _ {u : Verdict} (f : u ≡ room_verdict n (room_for columns stride (length b))) (q : u ≡ Passed) where
        abbrev shape : Shape
        shape = record { columns = columns; top = top; stride = stride }

        room : n ≤ room_for columns stride (length b)
        room = room_passed n (room_for columns stride (length b)) f q

        held : (packed_length columns ≤ stride) × (stride * n ≤ length b)
        held = room_says columns stride (length b) n in_raster.0 room

        pub band_fits : Fits shape
        band_fits = record { size = drawable.size; low = drawable.low; wide = omega (arith, held.0) }

        pub band_part : length b < 2 ^ 63 → Part shape first (top + 1)
        band_part h =
            let i = in_raster in
            let less : stride * (top - first) ≤ stride * n = mul-le-mul (le_refl stride) (omega (arith, i.2)) in
            record { ordered = omega (arith, i.2); inside = omega arith; placed = lt_of_le_of_lt (le_trans less held.1) h }

        pub call_given : {a : Answer} {l : List ℕ} → a ≡ done n → l ≡ blackened (shaped (path_black (pen s) path) shape first (top + 1)) b →
            record { answer = a; list = l } ≡ band_call σ path columns rows first n stride b
        unfolding band_call
        call_given g d =
            let o = band_offer (pen σ) path columns first n stride b in
            let as-set = ap (λ (z : Setting). blackened (shaped (path_black (pen z) path) shape first (top + 1)) b) (sym (checked_taken σ s e).1) in
            passed_here o left p (room_left o room g (d ∙ as-set ∙ laid_band (path_black (pen σ) path) shape first n b in_raster.0 in_raster.2))
