-- The table of a drawing, one setting more at a time.
use Prim.Native.Nat.{ℕ, suc, ◌+◌}
use mathlib.Core.Path.{◌≡◌, refl}
use mathlib.Core.List.{List}
use borrow.Author.Tests.{eq-eqb, ne_eqb}
use Rattle.limits.specs.Sizes.{aperture_min}
use Rattle.aperture.specs.declared.Table.{Table}
use Rattle.aperture.specs.Table.{empty, defined}
use Rattle.setting_list.specs.Settings.{setting_at, tabled_from}

module _ (l : List ℕ) (i : ℕ) (t : Table) where
  pub none_left : record { refusal = 0; place = 0; table = t } ≡ tabled_from l i 0 t
  unfolding tabled_from
  none_left = refl

  -- setting i is taken, and the rest is defined after it
  pub next_defined : (n : ℕ) → (defined t (aperture_min + i) (setting_at l i)).refusal ≡ 0 →
      tabled_from l i (suc n) t ≡ tabled_from l (suc i) n (defined t (aperture_min + i) (setting_at l i)).table
  unfolding tabled_from
  next_defined n e = rw (tabled_from, eq-eqb (defined t (aperture_min + i) (setting_at l i)).refusal 0 e)

  -- setting i is refused, and that is the answer
  pub next_refused : (n : ℕ) → ¬ ((defined t (aperture_min + i) (setting_at l i)).refusal ≡ 0) →
      tabled_from l i (suc n) t ≡ record { refusal = (defined t (aperture_min + i) (setting_at l i)).refusal; place = i; table = empty }
  unfolding tabled_from
  next_refused n e = rw (tabled_from, ne_eqb (defined t (aperture_min + i) (setting_at l i)).refusal 0 e)
