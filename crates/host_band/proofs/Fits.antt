-- A band's answer fits one number, and is told whole.
use Prim.Native.Nat.{ℕ, ◌+◌, ◌-◌, ◌^◌, ◌≤◌, ◌<◌}
use mathlib.Core.Path.{◌≡◌, refl, ap, ap₂}
use mathlib.Core.Bool.{Bool, true, false, cond, ◌&&◌}
use mathlib.Core.List.{List}
use native.Mathlib.Omega.{arith}
use borrow.Author.Tests.{leb-true, ltb-true}
use lib.Dec.{leb, ltb}
use lib.IntN.{ℤ}
use Rattle.integers.proofs.Tests.{and_both}
use Rattle.limits.specs.Sizes.{entries_max, raster_max, is_size}
use Rattle.limits.specs.Refusal.{raster, row, room, unless, ◌then◌}
use Rattle.limits.specs.declared.Verdict.{Verdict}
use Rattle.limits.specs.declared.Verdict.TheVariants.{Passed, Refused}
use Rattle.limits.proofs.Sizes.{size_iff}
use Rattle.limits.proofs.Verdicts.{then_both, unless_true}
use Rattle.setting.specs.declared.Setting.{Setting}
use Rattle.setting.specs.Answer.{checked, checked_verdict}
use Rattle.pen.specs.Polygon.{pen}
use Rattle.checks.specs.Checks.{path_verdict, raster_verdict, row_verdict, coordinate_verdict, verdict, call_verdict}
use Rattle.checks.specs.declared.Answer.{Answer}
use Rattle.checks.specs.Answer.{Result, Offer, settled, given}
use Rattle.band.specs.Band.{top_row, band_offer, band_call}
use Rattle.outcome.specs.Outcome.{coded, told}
use Rattle.outcome.specs.Fit.{Fit, fitted}
use Rattle.outcome.proofs.Fits.{code_fit}
use Rattle.outcome.proofs.Verdicts.{Small, small_then, small_setting, small_verdict}

-- what a call answers fits one number, where its refusals are small and its count has 32 bits
pub counted_fit : (v : Verdict) (o : Offer ℕ) → Small entries_max v → (v ≡ Passed → o.count < 2 ^ 32) → Fit (given v o).answer
counted_fit (Refused n place) o s h = record { refusal = omega (arith, s.1); place = omega (arith, s.2); count = omega arith }
counted_fit Passed o s h = go (leb o.count o.space)
  where
    go : (t : Bool) → Fit (settled (unless t room) o).answer
    go true = record { refusal = omega arith; place = omega arith; count = h refl }
    go false = record { refusal = omega arith; place = omega arith; count = omega arith }

-- and is told whole
told_whole : (r : Result ℕ) → Fit r.answer → {a : Answer} {l : List ℕ} {x : ℕ} → x ≡ coded (fitted a) → record { answer = a; list = l } ≡ r → record { answer = x; bytes = l } ≡ told r
told_whole r f {a} {l} {x} e g = let h = code_fit e (ap (λ (r : Result ℕ). r.answer) g) f in ap₂ (λ (n : ℕ) (k : List ℕ). record { answer = n; bytes = k }) h (ap (λ (r : Result ℕ). r.list) g)

-- a raster that has a band's top row has all of its rows
top_in : (rows first n : ℕ) → top_row rows first n < rows → n ≤ rows
top_in rows first n h = go (ltb 0 n && leb (first + n) rows) refl h
  where
    go : (t : Bool) → (ltb 0 n && leb (first + n) rows) ≡ t → cond t (first + (n - 1)) rows < rows → n ≤ rows
    go true e h = omega (arith, leb-true (first + n) rows (and_both (ltb 0 n) (leb (first + n) rows) e).1)
    go false e h = absurd (omega arith)

-- so that a band has no more rows than a raster may have
pub rows_few : (path : List ℤ) (columns rows first n : ℕ) → verdict path columns rows (top_row rows first n) ≡ Passed → n ≤ raster_max
rows_few path columns rows first n e =
    let j = top_row rows first n in
    let a = then_both (path_verdict path) (raster_verdict columns rows then row_verdict rows j then coordinate_verdict path) e in
    let b = then_both (raster_verdict columns rows) (row_verdict rows j then coordinate_verdict path) a.1 in
    let d = then_both (row_verdict rows j) (coordinate_verdict path) b.1 in
    let s = and_both (is_size columns) (is_size rows) (unless_true _ raster b.0) in
    omega (arith, ((size_iff rows).0 s.1).few, top_in rows first n (ltb-true j rows (unless_true _ row d.0)))

-- and its answer fits
band_fit : (σ : Setting) (path : List ℤ) (columns rows first n stride : ℕ) (b : List ℕ) → Fit (band_call σ path columns rows first n stride b).answer
unfolding band_call
band_fit σ path columns rows first n stride b =
    let j = top_row rows first n in
    let c = checked_verdict (checked σ) in
    counted_fit (call_verdict c path columns rows j) (band_offer (pen σ) path columns first n stride b)
    (small_then entries_max c (verdict path columns rows j) (small_setting (checked σ) entries_max) (λ _. small_verdict path columns rows j))
    (λ e. omega (arith, rows_few path columns rows first n (then_both c (verdict path columns rows j) e).1))

-- what `outcome::code` answers for what `band::lay` did
pub band_told : (σ : Setting) (path : List ℤ) (columns rows first n stride : ℕ) (b : List ℕ) {a : Answer} {l : List ℕ} {x : ℕ} → x ≡ coded (fitted a) →
    record { answer = a; list = l } ≡ band_call σ path columns rows first n stride b → record { answer = x; bytes = l } ≡ told (band_call σ path columns rows first n stride b)
band_told σ path columns rows first n stride b = told_whole (band_call σ path columns rows first n stride b) (band_fit σ path columns rows first n stride b)
