-- What start, feed and finish answer, by the cases of their test.
use Prim.Native.Nat.{ℕ}
use mathlib.Core.Path.{◌≡◌, sym, ap}
use mathlib.Core.Bool.{Bool, true, false, cond}
use mathlib.Core.List.{List}
use lib.Dec.{eqb}
use lib.ListN.{length}
use lib.IntN.{ℤ}
use Rattle.units.specs.Units.{is_unit}
use Rattle.aperture.specs.declared.Table.{Table}
use Rattle.scan.specs.Scanner.{is_ended}
use Rattle.chunks.specs.Machine.{call}
use Rattle.gerber.specs.declared.Reader.{Reader}
use Rattle.gerber.specs.declared.Given.TheVariants.{Done}
use Rattle.gerber.specs.Reader.{Answered, latched, fresh, started, step_of, answer, repeated, feeds, finished_on, finished}

module _ (unit : ℕ) where
  by_unit : {t : Bool} → is_unit unit ≡ t → cond t (fresh unit) (latched (fresh unit) 1 0) ≡ started unit
  unfolding started
  by_unit e = sym (ap (λ (t : Bool). cond t (fresh unit) (latched (fresh unit) 1 0)) e)

  pub with_unit : is_unit unit ≡ true → fresh unit ≡ started unit
  with_unit e = by_unit e

  pub without_unit : is_unit unit ≡ false → latched (fresh unit) 1 0 ≡ started unit
  without_unit e = by_unit e

module _ (r : Reader) (t : Table) (chunk : List ℕ) (path : List ℤ) where
  abbrev fed : Bool → Answered
  fed b = cond b (answer (length chunk) (call (step_of t) (record { reader = r; path = path }) chunk)) (record { fed = repeated r; entries = path })

  pub feeds_on : eqb r.refusal 0 ≡ true → fed true ≡ feeds r t chunk path
  unfolding feeds
  feeds_on e = sym (ap fed e)

  pub feeds_nothing : eqb r.refusal 0 ≡ false → fed false ≡ feeds r t chunk path
  unfolding feeds
  feeds_nothing e = sym (ap fed e)

module _ (r : Reader) where
  pub ends_well : is_ended r.scanner.mode ≡ true → record { reader = r; given = Done; used = 0 } ≡ finished_on r
  ends_well e = sym (ap (λ (t : Bool). cond t (record { reader = r; given = Done; used = 0 }) (repeated (latched r 14 r.scanner.at))) e)

  pub ends_early : is_ended r.scanner.mode ≡ false → repeated (latched r 14 r.scanner.at) ≡ finished_on r
  ends_early e = sym (ap (λ (t : Bool). cond t (record { reader = r; given = Done; used = 0 }) (repeated (latched r 14 r.scanner.at))) e)

  pub finishes : eqb r.refusal 0 ≡ true → finished_on r ≡ finished r
  unfolding finished
  finishes e = sym (ap (λ (t : Bool). cond t (finished_on r) (repeated r)) e)

  pub repeats : eqb r.refusal 0 ≡ false → repeated r ≡ finished r
  unfolding finished
  repeats e = sym (ap (λ (t : Bool). cond t (finished_on r) (repeated r)) e)
