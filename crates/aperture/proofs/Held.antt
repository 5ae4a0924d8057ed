-- What a call that needs a pen finds: the place of an aperture that holds a setting, and the corners of its pen.
use Prim.Native.Nat.{ℕ, ◌-◌}
use mathlib.Core.Path.{◌≡◌, sym, ap, ◌∙◌}
use mathlib.Core.Bool.{false}
use mathlib.Core.List.{[]}
use lib.ListN.{get_or, get_or-map}
use Rattle.integers.proofs.Tests.{and_true}
use Rattle.limits.specs.Sizes.{aperture_min, pen_max}
use Rattle.setting.specs.declared.Setting.{Setting}
use Rattle.plane.specs.Point.{points}
use Rattle.pen.specs.Polygon.{pen}
use Rattle.pen.specs.Answer.{pen_corners}
use Rattle.pen.proofs.Laid.{corners_back}
use Rattle.aperture.specs.declared.Place.{Place}
use Rattle.aperture.specs.declared.Table.{Table}
use Rattle.aperture.specs.declared.Looked.TheVariants as looked·
use Rattle.aperture.specs.Table.{vacant, looked, held_corners}
use Rattle.aperture.specs.Reachable.{Holds}
use Rattle.aperture.proofs.Theorems.{looked_held}

-- its number is found, at its own place
pub holds_found : {t : Table} {n : ℕ} {σ : Setting} → Holds t n σ → looked t n ≡ looked·.At (n - aperture_min)
unfolding looked
holds_found {t} {n} {σ} h = rw (and_true _ _ h.number (ap (λ (p : Place). p.used) h.place), looked)

pub held_corners_lem : {t : Table} {n : ℕ} {σ : Setting} → Holds t n σ → held_corners t n ≡ pen σ
held_corners_lem {t} {n} {σ} h = ap (λ (q : Place). pen_corners q.pen) h.place ∙ corners_back pen_max (pen σ)

-- the place that the machine's reading names past the end: it has no corners, as a vacant one has none
abbrev pub place_past_end : Place
place_past_end = record { used = false; setting = record { w = 0; p = 0; q = 0 }; pen = record { count = 0; x = []; y = [] } }

-- the corners that a call reads where the look-up led it
pub corners_found : (t : Table) (n i : ℕ) → looked t n ≡ looked·.At i → pen_corners (get_or t.places i place_past_end).pen ≡ held_corners t n
unfolding points
corners_found t n i e =
    sym (get_or-map (λ (p : Place). pen_corners p.pen) t.places i place_past_end)
    ∙ get_or-map (λ (p : Place). pen_corners p.pen) t.places i vacant
    ∙ ap (λ (k : ℕ). pen_corners (get_or t.places k vacant).pen) (sym (looked_held t n i e).1)
