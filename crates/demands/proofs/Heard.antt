-- The C functions' one number, taken apart, is the answer that it was made of: no part of it reaches into the next.
use Prim.Native.Nat.{ℕ, ◌+◌, ◌*◌, ◌/◌, ◌%◌, ◌^◌, ◌<◌}
use native.Mathlib.Omega.{arith}
use mathlib.Core.Path.{◌≡◌, ap, ◌∙◌}
use mathlib.Core.Bool.{Bool, true, false}
use mathlib.Core.List.{List}
use lib.Dec.{eqb}
use lib.ListN.{length}
use Rattle.limits.specs.Sizes.{entries_max}
use Rattle.limits.specs.declared.Verdict.{Verdict}
use Rattle.limits.specs.declared.Verdict.TheVariants.{Passed}
use Rattle.limits.specs.Refusal.{path, unless, ◌then◌}
use Rattle.limits.proofs.Verdicts.{then_both}
use Rattle.wire.specs.Read.{entries_of}
use Rattle.setting.specs.declared.Setting.{Setting}
use Rattle.setting.specs.declared.Checked.{Checked}
use Rattle.setting.specs.declared.Checked.TheVariants as checked·
use Rattle.setting.specs.Answer.{checked, checked_verdict}
use Rattle.pen.specs.Polygon.{pen}
use Rattle.stroke.specs.Sweep.{path_points}
use Rattle.stroke.specs.Runs.{row_runs}
use Rattle.checks.specs.declared.Answer.{Answer}
use Rattle.checks.specs.Checks.{verdict}
use Rattle.checks.specs.Answer.{Result, given}
use Rattle.packed.specs.Packed.{packed_offer}
use Rattle.band.specs.Band.{top_row, band_offer}
use Rattle.outcome.specs.Outcome.{length_verdict, host_verdict, coded, told}
use Rattle.outcome.specs.Fit.{Fit}
use Rattle.outcome.proofs.Verdicts.{Small, small_verdict}
use Rattle.outcome.proofs.Fits.{given_fit}
use Rattle.host.specs.Host.{run_bytes_offer}
use Rattle.host.proofs.Outcomes.{runs_fit, bytes_fit}
use Rattle.host_band.proofs.Fits.{counted_fit, rows_few}
use Rattle.demands.specs.Reports.{heard}
use Rattle.demands.specs.Demand1.{taken_apart}

heard_coded : (a : Answer) → Fit a → heard (coded a) ≡ a
heard_coded a f =
    let r : coded a % 256 ≡ a.refusal = omega (arith, f.refusal) in
    let rest : coded a / 256 ≡ a.place + 2 ^ 24 * a.count = omega (arith, f.refusal) in
    let below : (a.place + 2 ^ 24 * a.count) % 2 ^ 24 ≡ a.place = omega (arith, f.place) in
    let p : coded a / 256 % 2 ^ 24 ≡ a.place = ap (λ (n : ℕ). n % 2 ^ 24) rest ∙ below in
    let c : coded a / 2 ^ 32 ≡ a.count = omega (arith, f.refusal, f.place) in
    rw (r, p, c)

apart_told : (r : Result ℕ) → Fit r.answer → taken_apart (told r) ≡ r
apart_told r f = ap (λ (a : Answer). record { answer = a; list = r.list }) (heard_coded r.answer f)

-- the refusals of a C call are small: 1, 2, and those of the other calls
small_before : (c : Checked) (t : Bool) (w : Verdict) → Small entries_max w → Small entries_max ((checked_verdict c then unless t path) then w)
small_before (checked·.Taken σ) true w s = s
small_before (checked·.Taken σ) false w s = (omega arith, omega arith, omega arith)
small_before checked·.Refused t w s = (omega arith, omega arith, omega arith)

module _ (σ : Setting) (bytes : List ℕ) (columns rows j : ℕ) where
  small_host : Small entries_max (host_verdict σ bytes columns rows j)
  small_host = small_before (checked σ) (eqb (length bytes % 4) 0) (verdict (entries_of bytes) columns rows j) (small_verdict (entries_of bytes) columns rows j)

  -- where its checks pass, so do those of the path
  path_passed : host_verdict σ bytes columns rows j ≡ Passed → verdict (entries_of bytes) columns rows j ≡ Passed
  path_passed e = (then_both (checked_verdict (checked σ) then length_verdict bytes) (verdict (entries_of bytes) columns rows j) e).1

  pub runs_apart : (b : List ℕ) → let g = given (host_verdict σ bytes columns rows j) (run_bytes_offer (row_runs (pen σ) (path_points (entries_of bytes)) columns j) b) in taken_apart (told g) ≡ g
  runs_apart b = apart_told _ (given_fit (host_verdict σ bytes columns rows j) _ small_host (λ e. runs_fit (pen σ) (entries_of bytes) columns rows j (path_passed e)))

  pub packed_apart : (b : List ℕ) → let g = given (host_verdict σ bytes columns rows j) (packed_offer (pen σ) (entries_of bytes) columns j b) in taken_apart (told g) ≡ g
  packed_apart b = apart_told _ (given_fit (host_verdict σ bytes columns rows j) _ small_host (λ e. bytes_fit (entries_of bytes) columns rows j (path_passed e)))

-- a band's count is that of its rows, which a raster has
pub band_apart : (σ : Setting) (bytes : List ℕ) (columns rows first n stride : ℕ) (b : List ℕ) →
    let g = given (host_verdict σ bytes columns rows (top_row rows first n)) (band_offer (pen σ) (entries_of bytes) columns first n stride b) in taken_apart (told g) ≡ g
band_apart σ bytes columns rows first n stride b =
    let j = top_row rows first n in
    let few : host_verdict σ bytes columns rows j ≡ Passed → n < 2 ^ 32 = λ e. omega (arith, rows_few (entries_of bytes) columns rows first n (path_passed σ bytes columns rows j e)) in
    apart_told _ (counted_fit (host_verdict σ bytes columns rows j) _ (small_host σ bytes columns rows j) few)
