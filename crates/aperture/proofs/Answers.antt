-- What defining, removing and looking up answer, by the cases of their checks: each check's answer is put into the definition, which then computes.
use Prim.Native.Nat.{ℕ, ◌-◌}
use mathlib.Core.Path.{◌≡◌, sym}
use mathlib.Core.Bool.{true, false}
use Rattle.limits.specs.Sizes.{aperture_min}
use Rattle.limits.specs.declared.Verdict.TheVariants.{Passed}
use Rattle.limits.specs.Refusal.{aperture, setting, in_use, refuse}
use Rattle.setting.specs.declared.Setting.{Setting}
use Rattle.setting.specs.Setting.{taken}
use Rattle.setting.proofs.Answers.{refused, accepted}
use Rattle.aperture.specs.declared.Table.{Table}
use Rattle.aperture.specs.declared.Looked.TheVariants as looked·
use Rattle.aperture.specs.Table.{vacant, holding, is_number, is_held, place_of, with_place, changed, defined, removed, looked}

-- ---- defining
module _ (t : Table) (n : ℕ) (σ : Setting) where
  pub not_number : is_number n ≡ false → defined t n σ ≡ changed (refuse aperture 0) (with_place t n (holding σ)) t
  unfolding defined
  not_number e = rw (e, defined)

  pub not_taken : is_number n ≡ true → taken σ ≡ false → defined t n σ ≡ changed (refuse setting 0) (with_place t n (holding σ)) t
  unfolding defined
  not_taken e f = rw (e, sym (refused σ f), defined)

  pub not_free : is_number n ≡ true → taken σ ≡ true → (place_of t n).used ≡ true → defined t n σ ≡ changed (refuse in_use 0) (with_place t n (holding σ)) t
  unfolding defined
  not_free e f g = rw (e, sym (accepted σ f), g, defined)

  pub stores : is_number n ≡ true → taken σ ≡ true → (place_of t n).used ≡ false → defined t n σ ≡ changed Passed (with_place t n (holding σ)) t
  unfolding defined
  stores e f g = rw (e, sym (accepted σ f), g, defined)

-- ---- removing and looking up
module _ (t : Table) (n : ℕ) where
  pub not_held : is_held t n ≡ false → removed t n ≡ changed (refuse aperture 0) (with_place t n vacant) t
  unfolding removed
  not_held e = rw (e, removed)

  pub empties : is_held t n ≡ true → removed t n ≡ changed Passed (with_place t n vacant) t
  unfolding removed
  empties e = rw (e, removed)

  pub looks_nowhere : is_held t n ≡ false → looked t n ≡ looked·.Refused
  unfolding looked
  looks_nowhere e = rw (e, looked)

  pub looks_at : is_held t n ≡ true → looked t n ≡ looked·.At (n - aperture_min)
  unfolding looked
  looks_at e = rw (e, looked)
