-- What statements about calls ask of a table is delivered by the calls that made it.
use Prim.Native.Nat.{ℕ}
use mathlib.Core.Path.{◌≡◌, refl, sym, ap, ◌∙◌}
use mathlib.Core.Bool.{Bool, true, false}
use lib.Dec.{eqb}
use borrow.Author.Tests.{eqb-true, eqb-false}
use Rattle.setting.specs.declared.Setting.{Setting}
use Rattle.setting.specs.Setting.{taken}
use Rattle.setting.proofs.Limits.{taken_iff}
use Rattle.aperture.specs.declared.Place.{Place}
use Rattle.aperture.specs.declared.Table.{Table}
use Rattle.aperture.specs.declared.Changed.{Changed}
use Rattle.aperture.specs.Table.{is_number, is_held, place_of, defined, removed}
use Rattle.aperture.specs.Reachable.{Reachable, defines, removes, Holds, DefinedGives, DefiningKeeps, RemovingKeeps, UsedHolds}
use Rattle.aperture.proofs.Numbers.{held_parts}
use Rattle.aperture.proofs.Answers.{not_number, not_free, not_taken, not_held}
use Rattle.aperture.proofs.Theorems.{defined_holds, defined_parts, others_kept, reachable_sound, used_place}

pub defined_gives : DefinedGives
defined_gives t r n σ z =
    let d = defined_parts t n σ z in
    record { reachable = defines n σ r; number = d.0; taken = (taken_iff σ).0 d.1; place = defined_holds t r n σ z }

-- a table that is given back as it was keeps what it holds
same_keeps : {t u : Table} {n : ℕ} {σ : Setting} → Reachable u → u ≡ t → Holds t n σ → Holds u n σ
same_keeps {n = n} r e h = record { reachable = r; number = h.number; taken = h.taken; place = ap (λ (t : Table). place_of t n) e ∙ h.place }

-- defining it again is refused, since it is in use; a number that no aperture has is refused too
pub defining_keeps : DefiningKeeps
defining_keeps t n m σ τ h = go (is_number m) refl (eqb n m) refl
  where
    own : n ≡ m → (b : Bool) → taken τ ≡ b → (defined t m τ).table ≡ t
    own e false q = ap (λ (c : Changed). c.table) (not_taken t m τ (ap is_number (sym e) ∙ h.number) q)
    own e true q = ap (λ (c : Changed). c.table) (not_free t m τ (ap is_number (sym e) ∙ h.number) q (ap (λ (k : ℕ). (place_of t k).used) (sym e) ∙ ap (λ (p : Place). p.used) h.place))

    go : (b : Bool) → is_number m ≡ b → (c : Bool) → eqb n m ≡ c → Holds (defined t m τ).table n σ
    go false q c d = same_keeps (defines m τ h.reachable) (ap (λ (c : Changed). c.table) (not_number t m τ q)) h
    go true q true d = same_keeps (defines m τ h.reachable) (own (eqb-true n m d) (taken τ) refl) h
    go true q false d = record {
      reachable = defines m τ h.reachable;
      number = h.number;
      taken = h.taken;
      place = (others_kept t m n τ q h.number (λ k. eqb-false n m d (sym k))).0 ∙ h.place;
    }

pub removing_keeps : RemovingKeeps
removing_keeps t n m σ e h = go (is_number m) refl
  where
    no_number : is_number m ≡ false → is_held t m ≡ false
    no_number q = rw q

    go : (b : Bool) → is_number m ≡ b → Holds (removed t m).table n σ
    go false q = same_keeps (removes m h.reachable) (ap (λ (c : Changed). c.table) (not_held t m (no_number q))) h
    go true q = record { reachable = removes m h.reachable; number = h.number; taken = h.taken; place = (others_kept t m n σ q h.number (λ k. e (sym k))).1 ∙ h.place }

pub used_holds : UsedHolds
used_holds t r n e =
    let b = held_parts t n e in
    let k = used_place (reachable_sound t r n) b.1 in
    (k.0, record { reachable = r; number = b.0; taken = k.1; place = k.2 })
