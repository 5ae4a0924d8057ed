-- One row of a band is a span of its bits: they stand together, as many rows below the top one's as it has rows above it.
use Prim.Native.Nat.{ℕ, suc, ◌+◌, ◌-◌, ◌*◌, ◌/◌, ◌%◌, ◌≤◌, ◌<◌}
use native.Mathlib.Nat.{div-eq_of_lt, mod-eq_of_lt, mul-add-div, mul-add-mod_self_left, div-add-mod}
use native.Mathlib.Omega.{arith}
use mathlib.Core.Path.{◌≡◌, sym, ap, ◌∙◌, subst}
use mathlib.Core.Bool.{Bool, true}
use mathlib.Core.List.{List}
use Rattle.integers.proofs.Tests.{same_test}
use Rattle.bits.specs.Bits.{span, blackened}
use Rattle.bits.proofs.Tests.{in_span, is_in_span}
use Rattle.bits.proofs.Blackened.{blackened_ext}
use Rattle.band.specs.declared.Shape.{Shape}
use Rattle.band.specs.Rows.{rows_black, shaped}
use Rattle.band.proofs.Layers.{to_in, of_in}

-- what is black in these rows, and in the raster's columns, is all that matters
module _ (f g : ℕ → ℕ → Bool) (columns top pitch from to : ℕ) (e : (j x : ℕ) → from ≤ j → j < to → x < columns → f j x ≡ g j x) where
  pub rows_ext : (z : ℕ) → rows_black f columns top pitch from to z ≡ rows_black g columns top pitch from to z
  rows_ext z = same_test _ _
      (λ q. let m = to_in f columns top pitch from to z q in
      of_in g columns top pitch from to z
      (record { held = m.held; after = m.after; before = m.before; column = m.column; is = sym (e (top - z / pitch) (z % pitch) m.after m.before m.column) ∙ m.is }))
      (λ q. let m = to_in g columns top pitch from to z q in
      of_in f columns top pitch from to z
      (record { held = m.held; after = m.after; before = m.before; column = m.column; is = e (top - z / pitch) (z % pitch) m.after m.before m.column ∙ m.is }))

pub laid_same : (f g : ℕ → ℕ → Bool) (s : Shape) (from to : ℕ) (b : List ℕ) → ((j x : ℕ) → from ≤ j → j < to → x < s.columns → f j x ≡ g j x) →
    blackened (shaped f s from to) b ≡ blackened (shaped g s from to) b
laid_same f g s from to b e = blackened_ext (shaped f s from to) (shaped g s from to) b (λ z _. rows_ext f g s.columns s.top (8 * s.stride) from to e z)

-- where bit y of the k-th pitch lies
placed : (pitch k y : ℕ) → y < pitch → ((pitch * k + y) / pitch ≡ k) × ((pitch * k + y) % pitch ≡ y)
placed pitch k y h =
    let some : 0 < pitch = omega arith in
    (mul-add-div some k y ∙ ap (λ (d : ℕ). k + d) (div-eq_of_lt h) ∙ omega arith, mul-add-mod_self_left pitch k y ∙ mod-eq_of_lt h)

module _ (columns top pitch row a b : ℕ) (held : row ≤ top) (short : b ≤ columns) (wide : columns ≤ pitch) where
  abbrev first : ℕ
  first = pitch * (top - row)

  abbrev one : ℕ → Bool
  one z = rows_black (λ _ x. span a b x) columns top pitch row (suc row) z

  there : (y : ℕ) → a ≤ y → y < b → one (first + y) ≡ true
  there y l h =
      let p = placed pitch (top - row) y (omega (arith, h, short, wide)) in
      of_in (λ _ x. span a b x) columns top pitch row (suc row) (first + y)
      (record {
        held = rw p.0 (omega arith);
        after = rw p.0 (omega (arith, held));
        before = rw p.0 (omega (arith, held));
        column = rw p.1 (omega (arith, h, short));
        is = rw p.1 (is_in_span a b y l h);
      })

  within : (z : ℕ) → one z ≡ true → span (first + a) (first + b) z ≡ true
  within z q =
      let m = to_in (λ _ x. span a b x) columns top pitch row (suc row) z q in
      let s = in_span a b (z % pitch) m.is in
      let same : z / pitch ≡ top - row = omega (arith, m.held, m.after, m.before, held) in
      let at : pitch * (top - row) + z % pitch ≡ z = rw (← same) (div-add-mod z pitch) in
      is_in_span (first + a) (first + b) z (omega (arith, at, s.0)) (omega (arith, at, s.1))

  pub row_span : (z : ℕ) → span (pitch * (top - row) + a) (pitch * (top - row) + b) z ≡ rows_black (λ _ x. span a b x) columns top pitch row (suc row) z
  row_span z = same_test _ _
      (λ q. let s = in_span (first + a) (first + b) z q in
      let at : first + (z - first) ≡ z = omega (arith, s.0) in
      subst (λ (w : ℕ). one w ≡ true) at (there (z - first) (omega (arith, s.0)) (omega (arith, s.0, s.1))))
      (within z)
